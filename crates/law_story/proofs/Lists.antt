-- Membership in lists, by test and as a fact.
use Rattle.law_story.proofs.Ids.{and_left, and_right, is_same_id-refl, is_same_id-true}
use Rattle.salt_model.specs.Words.{Every, shrink}
use Rattle.salt_values.specs.Id.{has_id, in_order, insert_id, is_older, is_same_id, without}
use Rattle.salt_values.specs.declared.id.Id.{Id}
use Rattle.std.proofs.Common.{ap, arith, inl, inr, subst, sym, ◌∙◌}
use Rattle.std.proofs.lemmas.Bool.Decides.{nat_tests}
use Rattle.std.specs.List.{cons_option, filter, filter_map, list_all, list_any}
use Rattle.std.specs.Prelude.{Bool, List, None, Option, Some, [], cond, false, length, map, not, refl, suc, true, zero, ℕ, ⊤, ◌&&◌, ◌++◌, ◌<◌, ◌||◌, ◌∷◌, ◌≡◌, ◌≤◌, ◌⊎◌}

abbrev pub In : {A : Type 0} → A → List A → Type 0
In x [] = ⊥
In x (y ∷ ys) = (y ≡ x) ⊎ In x ys

pub or_cases : (p q : Bool) → (p || q) ≡ true → (p ≡ true) ⊎ (q ≡ true)
or_cases true q h = inl refl
or_cases false q h = inr h

pub or_left_true : (p q : Bool) → p ≡ true → (p || q) ≡ true
or_left_true true q h = refl
or_left_true false q h = cc

pub or_right_true : (p q : Bool) → q ≡ true → (p || q) ≡ true
or_right_true true q h = refl
or_right_true false q h = h

pub either : {A B : Type 0} {C : Type 0} → (A → C) → (B → C) → A ⊎ B → C
either f g (inl a) = f a
either f g (inr b) = g b

pub has-in : (u : Id) (us : List Id) → has_id u us ≡ true → In u us
has-in u [] h = cc
has-in u (v ∷ vs) h = either (λ e. inl (sym (is_same_id-true u v e))) (λ e. inr (has-in u vs e)) (or_cases (is_same_id u v) _ h)

pub in-has : (u : Id) (us : List Id) → In u us → has_id u us ≡ true
in-has u [] h = absurd h
in-has u (v ∷ vs) (inl e) = rw (e, is_same_id-refl u) refl
in-has u (v ∷ vs) (inr h) = or_right_true (is_same_id u v) _ (in-has u vs h)

pub in-left : {A : Type 0} (x : A) (xs ys : List A) → In x xs → In x (xs ++ ys)
in-left x [] ys h = absurd h
in-left x (y ∷ xs) ys (inl e) = inl e
in-left x (y ∷ xs) ys (inr h) = inr (in-left x xs ys h)

pub in-right : {A : Type 0} (x : A) (xs ys : List A) → In x ys → In x (xs ++ ys)
in-right x [] ys h = h
in-right x (y ∷ xs) ys h = inr (in-right x xs ys h)

pub in-cases : {A : Type 0} (x : A) (xs ys : List A) → In x (xs ++ ys) → In x xs ⊎ In x ys
in-cases x [] ys h = inr h
in-cases x (y ∷ xs) ys (inl e) = inl (inl e)
in-cases x (y ∷ xs) ys (inr h) = either (λ g. inl (inr g)) (λ g. inr g) (in-cases x xs ys h)

pub in-filter : {A : Type 0} (p : A → Bool) (x : A) (xs : List A) → In x (filter p xs) → In x xs × (p x ≡ true)
in-filter p x [] h = absurd h
in-filter p x (y ∷ ys) h = go (in-filter p x ys) (p y) refl h
  where
    go : (In x (filter p ys) → In x ys × (p x ≡ true)) → (b : Bool) → p y ≡ b → In x (cond b (y ∷ filter p ys) (filter p ys)) → In x (y ∷ ys) × (p x ≡ true)
    go more true e (inl g) = (inl g, subst (λ z. p z ≡ true) g e)
    go more true e (inr g) = let r = more g in (inr r.0, r.1)
    go more false e g = let r = more g in (inr r.0, r.1)

pub into-filter : {A : Type 0} (p : A → Bool) (x : A) (xs : List A) → In x xs → p x ≡ true → In x (filter p xs)
into-filter p x [] h e = absurd h
into-filter p x (y ∷ ys) (inl g) e = rw (subst (λ z. p z ≡ true) (sym g) e) (inl g)
into-filter p x (y ∷ ys) (inr g) e = go (into-filter p x ys g e) (p y)
  where
    go : In x (filter p ys) → (b : Bool) → In x (cond b (y ∷ filter p ys) (filter p ys))
    go more true = inr more
    go more false = more

pub in-map : {A B : Type 0} (f : A → B) (y : B) (xs : List A) → In y (map f xs) → (x : A) × In x xs × (f x ≡ y)
in-map f y [] h = absurd h
in-map f y (x ∷ xs) (inl e) = (x, inl refl, e)
in-map f y (x ∷ xs) (inr h) = let r = in-map f y xs h in (r.0, inr r.1, r.2)

pub into-map : {A B : Type 0} (f : A → B) (x : A) (xs : List A) → In x xs → In (f x) (map f xs)
into-map f x [] h = absurd h
into-map f x (y ∷ ys) (inl e) = inl (ap f e)
into-map f x (y ∷ ys) (inr h) = inr (into-map f x ys h)

pub into-filter_map : {A B : Type 0} (f : A → Option B) (x : A) (y : B) (xs : List A) → In x xs → f x ≡ Some y → In y (filter_map f xs)
into-filter_map f x y [] h e = absurd h
into-filter_map f x y (z ∷ zs) (inl g) e = rw (subst (λ w. f w ≡ Some y) (sym g) e) (inl refl)
into-filter_map {B = B} f x y (z ∷ zs) (inr g) e = go (into-filter_map f x y zs g e) (f z)
  where
    go : In y (filter_map f zs) → (o : Option B) → In y (cons_option o (filter_map f zs))
    go more None = more
    go more (Some w) = inr more

pub in-filter_map : {A B : Type 0} (f : A → Option B) (y : B) (xs : List A) → In y (filter_map f xs) → (x : A) × In x xs × (f x ≡ Some y)
in-filter_map f y [] h = absurd h
in-filter_map {A = A} {B = B} f y (x ∷ xs) h = go (in-filter_map f y xs) (f x) refl h
  where
    go : (In y (filter_map f xs) → (z : A) × In z xs × (f z ≡ Some y)) → (o : Option B) → f x ≡ o → In y (cons_option o (filter_map f xs)) → (z : A) × In z (x ∷ xs) × (f z ≡ Some y)
    go more None e g = let r = more g in (r.0, inr r.1, r.2)
    go more (Some w) e (inl g) = (x, inl refl, subst (λ v. f x ≡ Some v) g e)
    go more (Some w) e (inr g) = let r = more g in (r.0, inr r.1, r.2)

pub all-in : {A : Type 0} (p : A → Bool) (x : A) (xs : List A) → list_all p xs ≡ true → In x xs → p x ≡ true
all-in p x [] h g = absurd g
all-in p x (y ∷ ys) h (inl e) = subst (λ z. p z ≡ true) e (and_left (p y) _ h)
all-in p x (y ∷ ys) h (inr g) = all-in p x ys (and_right (p y) _ h) g

pub into-all : {A : Type 0} (p : A → Bool) (xs : List A) → ((x : A) → In x xs → p x ≡ true) → list_all p xs ≡ true
into-all p [] h = refl
into-all p (y ∷ ys) h = rw (h y (inl refl)) (into-all p ys (λ x g. h x (inr g)))

pub any-false : {A : Type 0} (p : A → Bool) (xs : List A) → ((x : A) → In x xs → p x ≡ false) → list_any p xs ≡ false
any-false p [] h = refl
any-false p (y ∷ ys) h = rw (h y (inl refl)) (any-false p ys (λ x g. h x (inr g)))

in-insert : (x u : Id) (vs : List Id) → In x (insert_id u vs) → In x (u ∷ vs)
in-insert x u [] h = h
in-insert x u (v ∷ vs) h = go (in-insert x u vs) (is_older u v) (is_same_id u v) h
  where
    go : (In x (insert_id u vs) → In x (u ∷ vs)) → (b c : Bool) → In x (cond b (u ∷ v ∷ vs) (cond c (v ∷ vs) (v ∷ insert_id u vs))) → In x (u ∷ v ∷ vs)
    go more true c g = g
    go more false true g = inr g
    go more false false (inl e) = inr (inl e)
    go more false false (inr g) = either (λ e. inl e) (λ e. inr (inr e)) (more g)

pub in-order : (x : Id) (us : List Id) → In x (in_order us) → In x us
in-order x [] h = h
in-order x (u ∷ us) h = either (λ e. inl e) (λ g. inr (in-order x us g)) (in-insert x u (in_order us) h)

into-insert : (x u : Id) (vs : List Id) → In x (u ∷ vs) → In x (insert_id u vs)
into-insert x u [] h = h
into-insert x u (v ∷ vs) h = go (into-insert x u vs) (is_older u v) (is_same_id u v) refl h
  where
    go : (In x (u ∷ vs) → In x (insert_id u vs)) → (b c : Bool) → is_same_id u v ≡ c → In x (u ∷ v ∷ vs) → In x (cond b (u ∷ v ∷ vs) (cond c (v ∷ vs) (v ∷ insert_id u vs)))
    go more true c e g = g
    go more false true e (inl s) = inl (sym (is_same_id-true u v e) ∙ s)
    go more false true e (inr g) = g
    go more false false e (inl s) = inr (more (inl s))
    go more false false e (inr (inl s)) = inl s
    go more false false e (inr (inr g)) = inr (more (inr g))

pub into-order : (x : Id) (us : List Id) → In x us → In x (in_order us)
into-order x [] h = h
into-order x (u ∷ us) (inl e) = into-insert x u (in_order us) (inl e)
into-order x (u ∷ us) (inr h) = into-insert x u (in_order us) (inr (into-order x us h))

insert-some : (u : Id) (vs : List Id) → insert_id u vs ≡ [] → ⊥
insert-some u [] h = cc
insert-some u (v ∷ vs) h = go (is_older u v) (is_same_id u v) h
  where
    go : (b c : Bool) → cond b (u ∷ v ∷ vs) (cond c (v ∷ vs) (v ∷ insert_id u vs)) ≡ [] → ⊥
    go true c g = cc
    go false true g = cc
    go false false g = cc

pub order-none : (us : List Id) → in_order us ≡ [] → us ≡ []
order-none [] h = refl
order-none (u ∷ us) h = absurd (insert-some u (in_order us) h)

-- a list in order of names, once put in order, stays

not-later : (u v : Id) → is_older u v ≡ false → is_same_id u v ≡ false → is_older v u ≡ true
not-later u v a b = grind (arith, nat_tests)

later-on : (u v w : Id) → is_older u v ≡ true → is_older v w ≡ true → is_older u w ≡ true
later-on u v w a b = grind (arith, nat_tests)

abbrev Ascends : List Id → Type 0
Ascends [] = ⊤
Ascends (u ∷ us) = Every (λ v. is_older u v ≡ true) us × Ascends us

insert-after : (u x : Id) (vs : List Id) → is_older u x ≡ true → Every (λ v. is_older u v ≡ true) vs → Every (λ v. is_older u v ≡ true) (insert_id x vs)
insert-after u x [] o h = (o, tt)
insert-after u x (v ∷ vs) o h = go (is_older x v) (is_same_id x v) (insert-after u x vs o h.1)
  where
    go : (b c : Bool) → Every (λ v. is_older u v ≡ true) (insert_id x vs) → Every (λ v. is_older u v ≡ true) (cond b (x ∷ v ∷ vs) (cond c (v ∷ vs) (v ∷ insert_id x vs)))
    go true c more = (o, h)
    go false true more = h
    go false false more = (h.0, more)

all-after : (u v : Id) (vs : List Id) → is_older u v ≡ true → Every (λ w. is_older v w ≡ true) vs → Every (λ w. is_older u w ≡ true) vs
all-after u v [] o h = tt
all-after u v (w ∷ ws) o h = (later-on u v w o h.0, all-after u v ws o h.1)

insert-ascends : (u : Id) (vs : List Id) → Ascends vs → Ascends (insert_id u vs)
insert-ascends u [] h = (tt, tt)
insert-ascends u (v ∷ vs) h = go (is_older u v) refl (is_same_id u v) refl (insert-ascends u vs h.1)
  where
    go : (b : Bool) → is_older u v ≡ b → (c : Bool) → is_same_id u v ≡ c → Ascends (insert_id u vs) → Ascends (cond b (u ∷ v ∷ vs) (cond c (v ∷ vs) (v ∷ insert_id u vs)))
    go true e c g more = ((e, all-after u v vs e h.0), h)
    go false e true g more = h
    go false e false g more = (insert-after v u vs (not-later u v e g) h.0, more)

order-ascends : (us : List Id) → Ascends (in_order us)
order-ascends [] = tt
order-ascends (u ∷ us) = insert-ascends u (in_order us) (order-ascends us)

ascending-stays : (us : List Id) → Ascends us → in_order us ≡ us
ascending-stays [] h = refl
ascending-stays (u ∷ us) h = ap (insert_id u) (ascending-stays us h.1) ∙ first us h.0
  where
    first : (us : List Id) → Every (λ v. is_older u v ≡ true) us → insert_id u us ≡ u ∷ us
    first [] g = refl
    first (v ∷ vs) g = rw g.0 refl

pub order-again : (us : List Id) → in_order (in_order us) ≡ in_order us
order-again us = ascending-stays (in_order us) (order-ascends us)

pub any-not : {A : Type 0} (p : A → Bool) (x : A) (xs : List A) → list_any p xs ≡ false → In x xs → p x ≡ false
any-not p x [] h i = absurd i
any-not p x (y ∷ ys) h (inl e) = subst (λ z. p z ≡ false) e (first (p y) _ h)
  where
    first : (a b : Bool) → (a || b) ≡ false → a ≡ false
    first true b g = cc
    first false b g = refl
any-not p x (y ∷ ys) h (inr i) = any-not p x ys (rest (p y) _ h) i
  where
    rest : (a b : Bool) → (a || b) ≡ false → b ≡ false
    rest true b g = cc
    rest false b g = g

-- a shrinking list comes to an end within its length

pub filter-short : {A : Type 0} (p : A → Bool) (xs : List A) → length (filter p xs) ≤ length xs
filter-short p [] = omega arith
filter-short p (x ∷ xs) = go (filter-short p xs) (p x)
  where
    go : length (filter p xs) ≤ length xs → (b : Bool) → length (cond b (x ∷ filter p xs) (filter p xs)) ≤ length (x ∷ xs)
    go h true = omega arith
    go h false = omega arith

pub filter-less : {A : Type 0} (p : A → Bool) (xs : List A) → list_all p xs ≡ false → length (filter p xs) < length xs
filter-less p [] h = cc
filter-less p (x ∷ xs) h = go (filter-less p xs) (p x) h
  where
    go : (list_all p xs ≡ false → length (filter p xs) < length xs) → (b : Bool) → (b && list_all p xs) ≡ false → length (cond b (x ∷ filter p xs) (filter p xs)) < length (x ∷ xs)
    go more true e = let h = more e in omega arith
    go more false e = let h = filter-short p xs in omega arith

abbrev pub PassesSelf : {A : Type 0} → (List A → A → Bool) → List A → Type 0
PassesSelf test r = list_all (test r) r ≡ true

pub shrink-ends : {A : Type 0} (test : List A → A → Bool) (n : ℕ) (xs : List A) → length xs ≤ n → PassesSelf test (shrink test n xs)
shrink-ends test zero [] h = refl
shrink-ends test zero (x ∷ xs) h = absurd (omega arith)
shrink-ends test (suc n) xs h = go (shrink-ends test n (filter (test xs) xs)) (list_all (test xs) xs) refl
  where
    go : (length (filter (test xs) xs) ≤ n → PassesSelf test (shrink test n (filter (test xs) xs))) → (b : Bool) → list_all (test xs) xs ≡ b → PassesSelf test (elim b [ true ↦ xs | false ↦ shrink test n (filter (test xs) xs) ])
    go more true e = e
    go more false e = more (let l = filter-less (test xs) xs e in omega arith)

pub in-shrink : {A : Type 0} (test : List A → A → Bool) (n : ℕ) (x : A) (xs : List A) → In x (shrink test n xs) → In x xs
in-shrink test zero x xs h = h
in-shrink test (suc n) x xs h = go (in-shrink test n x (filter (test xs) xs)) (list_all (test xs) xs) h
  where
    go : (In x (shrink test n (filter (test xs) xs)) → In x (filter (test xs) xs)) → (b : Bool) → In x (elim b [ true ↦ xs | false ↦ shrink test n (filter (test xs) xs) ]) → In x xs
    go more true g = g
    go more false g = (in-filter (test xs) x xs (more g)).0

pub not-true : (b : Bool) → not b ≡ true → b ≡ false
not-true true e = cc
not-true false e = refl

pub in-without : (x : Id) (seen us : List Id) → In x (without seen us) → In x us × (has_id x seen ≡ false)
in-without x seen us h = let r = in-filter (λ u. not (has_id u seen)) x us h in (r.0, not-true (has_id x seen) r.1)

-- what an element has to be dropped for stays
pub into-shrink : {A : Type 0} (P : A → Type 0) (test : List A → A → Bool) → ((xs : List A) → ((x : A) → P x → In x xs) → (x : A) → P x → test xs x ≡ true) → (n : ℕ) (xs : List A) → ((x : A) → P x → In x xs) → (x : A) → P x → In x (shrink test n xs)
into-shrink P test keep zero xs all x px = all x px
into-shrink P test keep (suc n) xs all x px =
    go (into-shrink P test keep n (filter (test xs) xs) (λ y py. into-filter (test xs) y xs (all y py) (keep xs all y py)) x px) (list_all (test xs) xs)
  where
    go : In x (shrink test n (filter (test xs) xs)) → (b : Bool) → In x (elim b [ true ↦ xs | false ↦ shrink test n (filter (test xs) xs) ])
    go more true = all x px
    go more false = more
