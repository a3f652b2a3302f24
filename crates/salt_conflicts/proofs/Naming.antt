-- Names in order: where one stands among them, and what is left where it goes.
use Rattle.law_states.proofs.Ascending.{Older, every-in, older-strict, order-of-ascending}
use Rattle.law_states.specs.Members.{Ascends, In}
use Rattle.law_states.specs.Rising.{AreInOrder, Rising}
use Rattle.law_story.proofs.Ids.{is_same_id-refl, is_same_id-true}
use Rattle.law_story.proofs.Lists.{either, has-in, in-cases, in-has, in-left, in-right}
use Rattle.salt_conflicts.proofs.Finishing.{in-order-already}
use Rattle.salt_conflicts.proofs.Told.{filter-all}
use Rattle.salt_model.specs.Words.{Every}
use Rattle.salt_values.specs.Id.{has_id, insert_id, is_older, is_same_id, without}
use Rattle.salt_values.specs.declared.id.Id.{Id}
use Rattle.std.proofs.Common.{ap, arith, inl, inr, refl, subst, sym, ◌∙◌}
use Rattle.std.proofs.lemmas.Bool.Decides.{nat_tests}
use Rattle.std.proofs.lemmas.Bool.{both_ways, cases_order, eqb-true}
use Rattle.std.proofs.lemmas.List.Folds.{list_any-append}
use Rattle.std.specs.List.{remove}
use Rattle.std.specs.List.Sorted.{IsPartitionPoint, IsPartitionedBy}
use Rattle.std.specs.declared.alloc.AllocError.{AllocError}
use Rattle.std.specs.declared.result.Result.TheVariants.{Err, Ok}
use Rattle.std.specs.Prelude.{Bool, List, OnErr, OnOk, Result, [], cond, false, get_or, length, not, suc, true, zero, ℕ, ◌+◌, ◌++◌, ◌<◌, ◌==◌, ◌||◌, ◌∷◌, ◌≡◌}

older-through : (a b c : Id) → is_older a b ≡ true → is_older b c ≡ true → is_older a c ≡ true
older-through a b c h g = older-strict.through a b c h g

older-total : (a b : Id) → is_older a b ≡ false → is_same_id a b ≡ false → is_older b a ≡ true
older-total a b h g = grind (arith, nat_tests)

-- of two names of which one is older neither is the other
pub older-other : (a b : Id) → is_older a b ≡ true → is_same_id b a ≡ false
older-other a b h = by (is_same_id b a) refl
  where
    by : (t : Bool) → is_same_id b a ≡ t → t ≡ false
    by false e = refl
    by true e = absurd (older-strict.not_self a (subst (λ z. is_older a z ≡ true) (is_same_id-true b a e) h))

older-away : (a b : Id) → is_older a b ≡ true → is_same_id a b ≡ false
older-away a b h = by (is_same_id a b) refl
  where
    by : (t : Bool) → is_same_id a b ≡ t → t ≡ false
    by false e = refl
    by true e = absurd (older-strict.not_self b (subst (λ z. is_older z b ≡ true) (is_same_id-true a b e) h))

every-at : {X : Type 0} (P : X → Type 0) (xs : List X) → Every P xs → (k : ℕ) (d : X) → k < length xs → P (get_or xs k d)
every-at P [] all k d h = absurd (omega (arith, h))
every-at P (x ∷ xs) all zero d h = all.0
every-at P (x ∷ xs) all (suc k) d h = every-at P xs all.1 k d (omega (arith, h))

pub rising-at : (xs : List Id) → Rising xs → (i k : ℕ) (d : Id) → i < k → k < length xs → is_older (get_or xs i d) (get_or xs k d) ≡ true
rising-at [] r i k d h g = absurd (omega (arith, g))
rising-at (x ∷ xs) r i zero d h g = absurd (omega (arith, h))
rising-at (x ∷ xs) r zero (suc k) d h g = every-at (λ v. is_older x v ≡ true) xs r.0 k d (omega (arith, g))
rising-at (x ∷ xs) r (suc i) (suc k) d h g = rising-at xs r.1 i k d (omega (arith, h)) (omega (arith, g))

pub rising-of : (xs : List Id) → AreInOrder xs → Rising xs
rising-of [] r = tt
rising-of (x ∷ xs) r = (all xs (λ k d h. r 0 (suc k) d (omega arith) (omega (arith, h))), rising-of xs (λ i k d h g. r (suc i) (suc k) d (omega (arith, h)) (omega (arith, g))))
  where
    all : (ys : List Id) → ((k : ℕ) (d : Id) → k < length ys → is_older x (get_or ys k d) ≡ true) → Every (λ v. is_older x v ≡ true) ys
    all [] h = tt
    all (y ∷ ys) h = (h 0 y (omega arith), all ys (λ k d l. h (suc k) d (omega (arith, l))))

-- who is older than a name stands before who is not
pub parted-by-age : (name : Id) (xs : List Id) → Rising xs → IsPartitionedBy (λ v. is_older v name) xs
parted-by-age name [] r i j d le l h = absurd (omega (arith, l))
parted-by-age name (x ∷ xs) r zero zero d le l h = h
parted-by-age name (x ∷ xs) r zero (suc j) d le l h = older-through x (get_or xs j d) name (every-at (λ v. is_older x v ≡ true) xs r.0 j d (omega (arith, l))) h
parted-by-age name (x ∷ xs) r (suc i) zero d le l h = absurd (omega (arith, le))
parted-by-age name (x ∷ xs) r (suc i) (suc j) d le l h = parted-by-age name xs r.1 i j d (omega (arith, le)) (omega (arith, l)) h

in-at : (xs : List Id) (x : Id) → In x xs → (k : ℕ) × (k < length xs) × (get_or xs k x ≡ x)
in-at [] x i = absurd i
in-at (y ∷ ys) x (inl e) = (0, omega arith, e)
in-at (y ∷ ys) x (inr i) = let r = in-at ys x i in let h = r.1 in (suc r.0, omega (arith, h), r.2)

-- THE NAME IS THERE

pub there-has : (name : Id) (xs : List Id) (n : ℕ) (d : Id) → n < length xs → get_or xs n d ≡ name → has_id name xs ≡ true
there-has name xs n d h is = in-has name xs (at xs n h is)
  where
    at : (ys : List Id) (k : ℕ) → k < length ys → get_or ys k d ≡ name → In name ys
    at [] k l e = absurd (omega (arith, l))
    at (y ∷ ys) zero l e = inl e
    at (y ∷ ys) (suc k) l e = inr (at ys k (omega (arith, l)) e)

or-false : (t : Bool) → t ≡ false → not (t || false) ≡ true
or-false true e = cc
or-false false e = refl

pub there-gone : (name : Id) (xs : List Id) (n : ℕ) (d : Id) → Rising xs → n < length xs → get_or xs n d ≡ name → without (name ∷ []) xs ≡ remove xs n
there-gone name [] n d r h is = absurd (omega (arith, h))
there-gone name (x ∷ xs) zero d r h is =
    ap (λ t. cond (not (t || false)) (x ∷ without (name ∷ []) xs) (without (name ∷ []) xs)) (subst (λ z. is_same_id x z ≡ true) is (is_same_id-refl x))
    ∙ filter-all (λ u. not (has_id u (name ∷ []))) xs
    (λ v i. or-false (is_same_id v name) (subst (λ z. is_same_id v z ≡ false) is (older-other x v (every-in (Older x) v xs r.0 i))))
there-gone name (x ∷ xs) (suc n) d r h is =
    ap (λ t. cond (not (t || false)) (x ∷ without (name ∷ []) xs) (without (name ∷ []) xs))
    (subst (λ z. is_same_id x z ≡ false) is (older-away x (get_or xs n d) (every-at (λ v. is_older x v ≡ true) xs r.0 n d (omega (arith, h)))))
    ∙ ap (λ l. x ∷ l) (there-gone name xs n d r.1 (omega (arith, h)) is)

-- THE NAME IS NOT THERE

abbrev pub AreCut : Id → List Id → ℕ → Type 0
AreCut name xs n = IsPartitionPoint (λ v. is_older v name ≡ true) (λ v. is_older v name ≡ false) xs n

pub not-there : (name : Id) (xs : List Id) (n : ℕ) → Rising xs → AreCut name xs n → (n < length xs → (d : Id) → get_or xs n d ≡ name → ⊥) → In name xs → ⊥
not-there name xs n r cut other i = by (in-at xs name i)
  where
    by : (k : ℕ) × (k < length xs) × (get_or xs k name ≡ name) → ⊥
    by p = let h = p.1 in either
        (λ e. other (omega (arith, h, e)) name (ap (λ j. get_or xs j name) (sym e) ∙ p.2))
        (λ c. either
        (λ a. older-strict.not_self name (subst (λ z. is_older z name ≡ true) p.2 (cut.0 p.0 name (omega arith) a)))
        (λ a.
        let m = get_or xs n name in
        let later : is_older m name ≡ true = subst (λ z. is_older m z ≡ true) p.2 (rising-at xs r n p.0 name a h) in
        both_ways (is_older m name) (cut.1 n name (omega arith) (omega (arith, a, h))) later)
        c)
        (cases_order p.0 n)

pub not-has : (name : Id) (xs : List Id) → (In name xs → ⊥) → has_id name xs ≡ false
not-has name xs none = by (has_id name xs) refl
  where
    by : (t : Bool) → has_id name xs ≡ t → t ≡ false
    by false e = refl
    by true e = absurd (none (has-in name xs e))

pub not-gone : (name : Id) (xs : List Id) → (In name xs → ⊥) → without (name ∷ []) xs ≡ xs
not-gone name xs none = filter-all (λ u. not (has_id u (name ∷ []))) xs (λ v i. or-false (is_same_id v name) (by v i (is_same_id v name) refl))
  where
    by : (v : Id) → In v xs → (t : Bool) → is_same_id v name ≡ t → t ≡ false
    by v i false e = refl
    by v i true e = absurd (none (subst (λ z. In z xs) (is_same_id-true v name e) i))

pub differs : (x name : Id) → is_same_id x name ≡ false → x ≡ name → ⊥
differs x name h e = both_ways (is_same_id x name) h (subst (λ z. is_same_id x z ≡ true) e (is_same_id-refl x))

pub among : (name : Id) (xs : List Id) (n : ℕ) (t : Bool) → Rising xs → AreCut name xs n → (t ≡ true → (n < length xs) × ((d : Id) → get_or xs n d ≡ name)) →
    (t ≡ false → n < length xs → (d : Id) → get_or xs n d ≡ name → ⊥) → t ≡ has_id name xs
among name xs n true r cut there another = let h = there refl in sym (there-has name xs n name h.0 (h.1 name))
among name xs n false r cut there another = sym (not-has name xs (not-there name xs n r cut (another refl)))

-- WHAT IS LEFT IS IN ORDER

every-removed : {X : Type 0} (P : X → Type 0) (xs : List X) (k : ℕ) → Every P xs → Every P (remove xs k)
every-removed P [] zero all = all
every-removed P [] (suc k) all = all
every-removed P (x ∷ xs) zero all = all.1
every-removed P (x ∷ xs) (suc k) all = (all.0, every-removed P xs k all.1)

pub rising-removed : (xs : List Id) (k : ℕ) → Rising xs → Rising (remove xs k)
rising-removed [] zero r = r
rising-removed [] (suc k) r = r
rising-removed (x ∷ xs) zero r = r.1
rising-removed (x ∷ xs) (suc k) r = (every-removed (λ v. is_older x v ≡ true) xs k r.0, rising-removed xs k r.1)

-- one name more goes
pub without-more : (gone : List Id) (name : Id) (xs : List Id) → without (name ∷ []) (without gone xs) ≡ without (gone ++ name ∷ []) xs
without-more gone name [] = refl
without-more gone name (x ∷ xs) =
    by (has_id x gone) (is_same_id x name) (without-more gone name xs) ∙ ap (λ t. cond (not t) (x ∷ without (gone ++ name ∷ []) xs) (without (gone ++ name ∷ []) xs)) (sym (list_any-append (is_same_id x) gone (name ∷ [])))
  where
    inner : (t : Bool) → without (name ∷ []) (without gone xs) ≡ without (gone ++ name ∷ []) xs →
        cond (not t) (x ∷ without (name ∷ []) (without gone xs)) (without (name ∷ []) (without gone xs)) ≡ cond (not t) (x ∷ without (gone ++ name ∷ []) xs) (without (gone ++ name ∷ []) xs)
    inner true ih = ih
    inner false ih = ap (λ l. x ∷ l) ih

    by : (s t : Bool) → without (name ∷ []) (without gone xs) ≡ without (gone ++ name ∷ []) xs →
        without (name ∷ []) (cond (not s) (x ∷ without gone xs) (without gone xs)) ≡ cond (not (s || (is_same_id x name || false))) (x ∷ without (gone ++ name ∷ []) xs) (without (gone ++ name ∷ []) xs)
    by true t ih = ih
    by false t ih = inner (is_same_id x name || false) ih

pub without-none : (xs : List Id) → xs ≡ without [] xs
without-none [] = refl
without-none (x ∷ xs) = ap (λ l. x ∷ l) (without-none xs)

-- A NAME THAT IS YOUNGER THAN ALL

every-last : (P : Id → Type 0) (xs : List Id) (y : Id) → Every P xs → P y → Every P (xs ++ y ∷ [])
every-last P [] y all h = (h, tt)
every-last P (x ∷ xs) y all h = (all.0, every-last P xs y all.1 h)

pub rising-more : (xs : List Id) (name : Id) → Rising xs → ((k : ℕ) (d : Id) → k < length xs → is_older (get_or xs k d) name ≡ true) → Rising (xs ++ name ∷ [])
rising-more [] name r h = (tt, tt)
rising-more (x ∷ xs) name r h = (every-last (λ v. is_older x v ≡ true) xs name r.0 (h 0 x (omega arith)), rising-more xs name r.1 (λ k d l. h (suc k) d (omega (arith, l))))

rising-front : (xs : List Id) (name : Id) → Rising (xs ++ name ∷ []) → Rising xs
rising-front [] name r = tt
rising-front (x ∷ xs) name r = (front xs r.0, rising-front xs name r.1)
  where
    front : (ys : List Id) → Every (λ v. is_older x v ≡ true) (ys ++ name ∷ []) → Every (λ v. is_older x v ≡ true) ys
    front [] all = tt
    front (y ∷ ys) all = (all.0, front ys all.1)

ascending : (us : List Id) → Rising us → Ascends Older us
ascending [] r = tt
ascending (u ∷ us) r = (r.0, ascending us r.1)

pub put-last : (xs : List Id) (name : Id) → Rising (xs ++ name ∷ []) → xs ++ name ∷ [] ≡ insert_id name xs
put-last xs name r =
    order-of-ascending (xs ++ name ∷ []) (name ∷ xs) (ascending (xs ++ name ∷ []) r)
    (λ v i. either (λ j. inr j) (λ j. only v j) (in-cases v xs (name ∷ []) i))
    (λ v i. first v i)
    ∙ ap (insert_id name) (sym (in-order-already xs (rising-front xs name r)))
  where
    only : (v : Id) → In v (name ∷ []) → In v (name ∷ xs)
    only v (inl e) = inl e
    only v (inr e) = absurd e

    first : (v : Id) → In v (name ∷ xs) → In v (xs ++ name ∷ [])
    first v (inl e) = in-right v xs (name ∷ []) (inl e)
    first v (inr i) = in-left v xs (name ∷ []) i

-- and any other
every-put : (v u : Id) (us : List Id) → Older v u → Every (Older v) us → Every (Older v) (insert_id u us)
every-put v u [] h all = (h, tt)
every-put v u (w ∷ us) h all = by (is_older u w) (is_same_id u w) (every-put v u us h all.1)
  where
    by : (a b : Bool) → Every (Older v) (insert_id u us) → Every (Older v) (cond a (u ∷ w ∷ us) (cond b (w ∷ us) (w ∷ insert_id u us)))
    by true b more = (h, all)
    by false true more = all
    by false false more = (all.0, more)

every-older : (u v : Id) (us : List Id) → Older u v → Every (Older v) us → Every (Older u) us
every-older u v [] h e = tt
every-older u v (w ∷ us) h e = (older-through u v w h e.0, every-older u v us h e.1)

pub rising-put : (name : Id) (xs : List Id) → Rising xs → Rising (insert_id name xs)
rising-put name [] r = (tt, tt)
rising-put name (x ∷ xs) r = by (is_older name x) refl (is_same_id name x) refl (rising-put name xs r.1)
  where
    by : (a : Bool) → is_older name x ≡ a → (b : Bool) → is_same_id name x ≡ b → Rising (insert_id name xs) → Rising (cond a (name ∷ x ∷ xs) (cond b (x ∷ xs) (x ∷ insert_id name xs)))
    by true e b f more = ((e, every-older name x xs e r.0), r)
    by false e true f more = r
    by false e false f more = (every-put x name xs (older-total name x e f) r.0, more)

pub none-rise : (xs : List Id) → (length xs == 0) ≡ true → Rising xs
none-rise [] h = tt
none-rise (x ∷ xs) h = let none = eqb-true (length (x ∷ xs)) 0 h in absurd (omega (arith, none))

-- a name that is put behind them, if there is room
pub pushed-rises : (r : Result (Unit {0}) AllocError) (xs ys : List Id) (name : Id) → OnOk r (ys ≡ xs ++ name ∷ []) → OnErr r (ys ≡ xs) → Rising (xs ++ name ∷ []) → Rising ys
pushed-rises (Ok u) xs ys name ok err r = subst Rising (sym ok) r
pushed-rises (Err e) xs ys name ok err r = subst Rising (sym err) (rising-front xs name r)
