-- How many names two lists have together.
use Rattle.law_states.proofs.Ascending.{Older, every-in, older-strict, order-ascends, order-of-ascending}
use Rattle.law_states.specs.KeptWaits.{AreDistinct}
use Rattle.law_states.specs.Members.{Ascends, In}
use Rattle.law_states.specs.States.{State}
use Rattle.salt_model.specs.Programs.{accepted_in, over_in, unreleased}
use Rattle.salt_books.specs.Sound.{IsSoundState}
use Rattle.law_story.proofs.Ids.{is_same_id-refl, is_same_id-true}
use Rattle.law_story.proofs.Lists.{has-in, in-cases, in-has, in-left, in-order, in-right, into-order}
use Rattle.salt_values.specs.Id.{has_id, in_order, insert_id, without}
use Rattle.salt_values.specs.Id.{is_older, is_same_id}
use Rattle.salt_values.specs.declared.id.Id.{Id}
use Rattle.std.proofs.Common.{ap, arith, inl, inr, subst, sym, ◌∙◌}
use Rattle.std.specs.Prelude.{Bool, List, [], cond, false, length, not, refl, suc, true, ◌+◌, ◌++◌, ◌∷◌, ◌≡◌, ◌⊎◌}

insert-new : (x : Id) (zs : List Id) → (In x zs → ⊥) → length (insert_id x zs) ≡ suc (length zs)
insert-new x [] h = refl
insert-new x (v ∷ vs) h = by (is_older x v) (is_same_id x v) refl (insert-new x vs (λ i. h (inr i)))
  where
    by : (a b : Bool) → is_same_id x v ≡ b → length (insert_id x vs) ≡ suc (length vs) →
        length (cond a (x ∷ v ∷ vs) (cond b (v ∷ vs) (v ∷ insert_id x vs))) ≡ suc (suc (length vs))
    by true b e more = refl
    by false true e more = absurd (h (inl (sym (is_same_id-true x v e))))
    by false false e more = ap suc more

insert-old : (x : Id) (zs : List Id) → Ascends Older zs → In x zs → length (insert_id x zs) ≡ length zs
insert-old x [] a i = absurd i
insert-old x (v ∷ vs) a i = by (is_older x v) refl (is_same_id x v) refl (insert-old x vs a.1)
  where
    not-older : Older x v → In x (v ∷ vs) → ⊥
    not-older o (inl e) = older-strict.not_self x (subst (Older x) e o)
    not-older o (inr j) = older-strict.not_self x (older-strict.through x v x o (every-in (Older v) x vs a.0 j))

    behind : is_same_id x v ≡ false → In x (v ∷ vs) → In x vs
    behind e (inl s) = let same : is_same_id x v ≡ true = subst (λ y. is_same_id x y ≡ true) (sym s) (is_same_id-refl x) in cc
    behind e (inr j) = j

    by : (a1 : Bool) → is_older x v ≡ a1 → (b : Bool) → is_same_id x v ≡ b → (In x vs → length (insert_id x vs) ≡ length vs) →
        length (cond a1 (x ∷ v ∷ vs) (cond b (v ∷ vs) (v ∷ insert_id x vs))) ≡ suc (length vs)
    by true o b e more = absurd (not-older o i)
    by false o true e more = refl
    by false o false e more = ap suc (more (behind e i))

pub counted : (xs ys : List Id) → AreDistinct xs → length (in_order (xs ++ ys)) ≡ length (without ys xs) + length (in_order ys)
counted [] ys d = omega arith
counted (x ∷ xs) ys d = by (has_id x ys) refl (counted xs ys d.1)
  where
    there : has_id x ys ≡ true → In x (in_order (xs ++ ys))
    there e = into-order x (xs ++ ys) (in-right x xs ys (has-in x ys e))

    other : has_id x ys ≡ false → In x xs ⊎ In x ys → ⊥
    other e (inl i) = d.0 i
    other e (inr i) = let has = in-has x ys i in cc

    by : (b : Bool) → has_id x ys ≡ b → length (in_order (xs ++ ys)) ≡ length (without ys xs) + length (in_order ys) →
        length (insert_id x (in_order (xs ++ ys))) ≡ length (cond (not b) (x ∷ without ys xs) (without ys xs)) + length (in_order ys)
    by true e more = insert-old x (in_order (xs ++ ys)) (order-ascends (xs ++ ys)) (there e) ∙ more
    by false e more = insert-new x (in_order (xs ++ ys)) (λ i. other e (in-cases x xs ys (in-order x (xs ++ ys) i))) ∙ ap suc more ∙ omega arith

pub ascends-apart : (us : List Id) → Ascends Older us → AreDistinct us
ascends-apart [] h = tt
ascends-apart (u ∷ us) h = ((λ i. older-strict.not_self u (every-in (Older u) u us h.0 i)), ascends-apart us h.1)

-- no program is unreleased twice
pub programs-apart : (s : State) → IsSoundState s → AreDistinct s.watch.programs
programs-apart s h =
    subst AreDistinct h.keeps.watch.programs (ascends-apart (unreleased h.trace) (order-ascends (without (over_in h.trace) (accepted_in h.trace))))

distinct-long : (xs : List Id) → AreDistinct xs → length (in_order xs) ≡ length xs
distinct-long [] d = refl
distinct-long (x ∷ xs) d = insert-new x (in_order xs) (λ i. d.0 (in-order x xs i)) ∙ ap suc (distinct-long xs d.1)

-- the names of the first list, and those of the second that are not among them
pub counted-apart : (xs ys : List Id) → AreDistinct xs → length (in_order (xs ++ ys)) ≡ length xs + length (without xs (in_order ys))
counted-apart xs ys d =
    let turned = counted (in_order ys) xs (ascends-apart (in_order ys) (order-ascends ys)) in
    let long = distinct-long xs d in
    let same = ap length (order-of-ascending (in_order (in_order ys ++ xs)) (xs ++ ys) (order-ascends (in_order ys ++ xs)) forth back) in
    omega (arith, turned, long, same)
  where
    forth : (b : Id) → In b (in_order (in_order ys ++ xs)) → In b (xs ++ ys)
    forth b i = by (in-cases b (in_order ys) xs (in-order b (in_order ys ++ xs) i))
      where
        by : In b (in_order ys) ⊎ In b xs → In b (xs ++ ys)
        by (inl j) = in-right b xs ys (in-order b ys j)
        by (inr j) = in-left b xs ys j

    back : (b : Id) → In b (xs ++ ys) → In b (in_order (in_order ys ++ xs))
    back b i = into-order b (in_order ys ++ xs) (by (in-cases b xs ys i))
      where
        by : In b xs ⊎ In b ys → In b (in_order ys ++ xs)
        by (inl j) = in-right b (in_order ys) xs j
        by (inr j) = in-left b (in_order ys) xs (into-order b ys j)
