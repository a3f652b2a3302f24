-- Names are seen, one after another.
use Rattle.law_story.proofs.Ids.{is_same_id-refl, is_same_id-sym, is_same_id-true}
use Rattle.law_story.proofs.Lists.{either, in-cases, in-left, in-right, or_cases, or_right_true}
use Rattle.salt_deps.specs.Walks.{SeesName, SeesAll, one_if, unseen}
use Rattle.law_states.specs.Members.{In}
use Rattle.salt_values.specs.Id.{has_id}
use Rattle.salt_values.specs.Id.{is_same_id}
use Rattle.salt_values.specs.declared.id.Id.{Id}
use Rattle.std.proofs.Common.{ap, arith, get_or, inl, inr, length-append, subst, suc, sym, take, take-suc, ◌∙◌}
use Rattle.std.proofs.lemmas.List.Folds.{list_any-append}
use Rattle.std.specs.Prelude.{Bool, List, [], cond, false, length, not, refl, true, ℕ, ◌+◌, ◌++◌, ◌<◌, ◌||◌, ◌∷◌, ◌≡◌, ◌≤◌}

fewer-one : (a b : Bool) → (a ≡ true → b ≡ true) → one_if (not b) ≤ one_if (not a)
fewer-one true b h = let now : b ≡ true = h refl in rw now (omega arith)
fewer-one false true h = omega arith
fewer-one false false h = omega arith

-- the more is seen, the less is unseen
pub unseen-fewer : (all old new : List Id) → ((q : Id) → has_id q old ≡ true → has_id q new ≡ true) → unseen all new ≤ unseen all old
unseen-fewer [] old new more = omega arith
unseen-fewer (z ∷ zs) old new more =
    let one = fewer-one (has_id z old) (has_id z new) (more z) in
    let rest = unseen-fewer zs old new more in
    omega (arith, one, rest)

pub unseen-less : (all old new : List Id) (name : Id) → In name all → has_id name old ≡ false → has_id name new ≡ true →
    ((q : Id) → has_id q old ≡ true → has_id q new ≡ true) → unseen all new < unseen all old
unseen-less [] old new name i out within more = absurd i
unseen-less (z ∷ zs) old new name (inr i) out within more =
    let one = fewer-one (has_id z old) (has_id z new) (more z) in
    let rest = unseen-less zs old new name i out within more in
    omega (arith, one, rest)
unseen-less (z ∷ zs) old new name (inl e) out within more =
    let was : one_if (not (has_id z old)) ≡ 1 = rw (subst (λ x. has_id x old ≡ false) (sym e) out) refl in
    let now : one_if (not (has_id z new)) ≡ 0 = rw (subst (λ x. has_id x new ≡ true) (sym e) within) refl in
    let rest = unseen-fewer zs old new more in
    omega (arith, was, now, rest)

pub sees-one : (name : Id) (old ahead new onward : List Id) (added : Bool) → added ≡ not (has_id name old) → ((q : Id) → has_id q new ≡ (is_same_id name q || has_id q old)) →
    onward ≡ cond added (ahead ++ name ∷ []) ahead → SeesName name old ahead new onward
sees-one name old ahead new onward added is seen so = record {
  seen = seen;
  ahead_of = so ∙ (ap (λ t. cond t (ahead ++ name ∷ []) ahead) is ∙ by (has_id name old));
}
  where
    by : (t : Bool) → cond (not t) (ahead ++ name ∷ []) ahead ≡ cond t ahead (ahead ++ name ∷ [])
    by true = refl
    by false = refl

pub sees-none : (old ahead : List Id) → SeesAll [] old ahead old ahead
sees-none old ahead = record { seen = λ q. refl; kept = λ q i. i; fresh = λ q h. inl h; none_else = λ q i. inl i; once = λ all h. omega arith }

-- one name more
pub sees-next : (names : List Id) (name : Id) (old ahead mid between new onward : List Id) → SeesAll names old ahead mid between → SeesName name mid between new onward →
    SeesAll (names ++ name ∷ []) old ahead new onward
sees-next names name old ahead mid between new onward s one = by (has_id name mid) refl one.ahead_of
  where
    none : (a : Bool) → (a || false) ≡ a
    none true = refl
    none false = refl

    swap : (a b c : Bool) → (c || (a || b)) ≡ ((a || c) || b)
    swap true b true = refl
    swap true b false = refl
    swap false b true = refl
    swap false b false = refl

    same : (q : Id) → is_same_id name q ≡ is_same_id q name
    same q = is_same_id-sym name q

    seen : (q : Id) → has_id q new ≡ (has_id q (names ++ name ∷ []) || has_id q old)
    seen q = one.seen q ∙ (ap (λ t. is_same_id name q || t) (s.seen q) ∙ (swap (has_id q names) (has_id q old) (is_same_id name q)
        ∙ ap (λ t. t || has_id q old) (ap (λ t. has_id q names || t) (same q ∙ sym (none (is_same_id q name))) ∙ sym (list_any-append (is_same_id q) names (name ∷ [])))))

    more : (q : Id) → has_id q mid ≡ true → has_id q new ≡ true
    more q h = one.seen q ∙ or_right_true (is_same_id name q) (has_id q mid) h

    by : (t : Bool) → has_id name mid ≡ t → onward ≡ cond t between (between ++ name ∷ []) → SeesAll (names ++ name ∷ []) old ahead new onward
    by true there so = record {
      seen = seen;
      kept = λ q i. subst (In q) (sym so) (s.kept q i);
      fresh = λ q h. either (λ e. either (λ f. inl f) (λ f. inr (subst (In q) (sym so) f)) (s.fresh q (subst (λ z. has_id z mid ≡ true) (is_same_id-true name q e) there)))
          (λ e. either (λ f. inl f) (λ f. inr (subst (In q) (sym so) f)) (s.fresh q e)) (or_cases (is_same_id name q) (has_id q mid) (sym (one.seen q) ∙ h));
      none_else = λ q i. either (λ e. inl e) (λ e. inr (in-left q names (name ∷ []) e)) (s.none_else q (subst (In q) so i));
      once = λ all inside.
          let before = s.once all (λ q i. inside q (in-left q names (name ∷ []) i)) in
          let step = unseen-fewer all mid new more in
          let len = ap (λ (l : List Id). length l) so in
          omega (arith, before, step, len);
    }
    by false out so = record {
      seen = seen;
      kept = λ q i. subst (In q) (sym so) (in-left q between (name ∷ []) (s.kept q i));
      fresh = λ q h. either (λ e. inr (subst (In q) (sym so) (in-right q between (name ∷ []) (inl (is_same_id-true name q e)))))
          (λ e. either (λ f. inl f) (λ f. inr (subst (In q) (sym so) (in-left q between (name ∷ []) f))) (s.fresh q e)) (or_cases (is_same_id name q) (has_id q mid) (sym (one.seen q) ∙ h));
      none_else = λ q i. either (λ e. either (λ f. inl f) (λ f. inr (in-left q names (name ∷ []) f)) (s.none_else q e)) (λ e. inr (in-right q names (name ∷ []) e)) (in-cases q between (name ∷ []) (subst (In q) so i));
      once = λ all inside.
          let before = s.once all (λ q i. inside q (in-left q names (name ∷ []) i)) in
          let now : has_id name new ≡ true = one.seen name ∙ ap (λ t. t || has_id name mid) (is_same_id-refl name) in
          let step = unseen-less all mid new name (inside name (in-right name names (name ∷ []) (inl refl))) out now more in
          let len = ap (λ (l : List Id). length l) so ∙ length-append between (name ∷ []) in
          omega (arith, before, step, len);
    }

pub take-next : {A : Type 0} (xs : List A) (i : ℕ) (d : A) → i < length xs → take i xs ++ get_or xs i d ∷ [] ≡ take (i + 1) xs
take-next xs i d lt = let plus : suc i ≡ i + 1 = omega arith in sym (take-suc xs i d lt) ∙ ap (λ n. take n xs) plus

pub has-next : (q : Id) (names : List Id) (name : Id) (old new : List Id) → has_id q old ≡ has_id q names → has_id q new ≡ (is_same_id name q || has_id q old) →
    has_id q new ≡ has_id q (names ++ name ∷ [])
has-next q names name old new so put = put ∙ (ap (λ b. is_same_id name q || b) so ∙ (turned (is_same_id name q) (has_id q names)
    ∙ (ap (λ b. has_id q names || b) (is_same_id-sym name q ∙ sym (none (is_same_id q name))) ∙ sym (list_any-append (is_same_id q) names (name ∷ [])))))
  where
    none : (a : Bool) → (a || false) ≡ a
    none true = refl
    none false = refl

    turned : (a b : Bool) → (a || b) ≡ (b || a)
    turned true true = refl
    turned true false = refl
    turned false true = refl
    turned false false = refl

pub append-none : (names : List Id) → names ≡ names ++ []
append-none [] = refl
append-none (x ∷ xs) = ap (λ l. x ∷ l) (append-none xs)
