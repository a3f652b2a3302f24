-- How many of a list pass a test.
use Rattle.law_states.specs.Members.{In}
use Rattle.std.proofs.Common.{ap, arith, inl, inr, refl, ◌∙◌}
use Rattle.std.proofs.lemmas.List.Sums.{sum_by-cons}
use Rattle.std.specs.List.{count_by, filter}
use Rattle.std.specs.Prelude.{Bool, List, [], cond, false, map, true, ℕ, ◌+◌, ◌<◌, ◌∷◌, ◌≡◌, ◌≤◌}

pub count-cons : {X : Type 0} (p : X → Bool) (x : X) (xs : List X) → count_by p (x ∷ xs) ≡ cond (p x) 1 0 + count_by p xs
count-cons p x xs = sum_by-cons (λ y. cond (p y) 1 0) x xs

pub count-yes : {X : Type 0} (p : X → Bool) (x : X) (xs : List X) → p x ≡ true → count_by p (x ∷ xs) ≡ 1 + count_by p xs
count-yes p x xs e =
    let a = count-cons p x xs in
    let one : ◌≡◌ {A = ℕ} (cond (p x) 1 0) 1 = ap (λ t. cond t 1 0) e in
    omega (arith, a, one)

pub count-no : {X : Type 0} (p : X → Bool) (x : X) (xs : List X) → p x ≡ false → count_by p (x ∷ xs) ≡ count_by p xs
count-no p x xs e =
    let a = count-cons p x xs in
    let none : ◌≡◌ {A = ℕ} (cond (p x) 1 0) 0 = ap (λ t. cond t 1 0) e in
    omega (arith, a, none)

pub no-more : (a b : Bool) → (a ≡ true → b ≡ true) → cond a 1 0 ≤ cond b 1 0
no-more true true h = omega arith
no-more true false h = absurd (cc (h refl))
no-more false true h = omega arith
no-more false false h = omega arith

pub count-le : {X : Type 0} (p q : X → Bool) (xs : List X) → ((x : X) → In x xs → p x ≡ true → q x ≡ true) → count_by p xs ≤ count_by q xs
count-le p q [] h = omega arith
count-le p q (x ∷ xs) h =
    let ih = count-le p q xs (λ y i. h y (inr i)) in
    let a = count-cons p x xs in
    let b = count-cons q x xs in
    let one = no-more (p x) (q x) (h x (inl refl)) in
    omega (arith, ih, a, b, one)

pub count-none : {X : Type 0} (p : X → Bool) (xs : List X) → ((x : X) → In x xs → p x ≡ false) → count_by p xs ≡ 0
count-none p [] h = refl
count-none p (x ∷ xs) h = count-no p x xs (h x (inl refl)) ∙ count-none p xs (λ y i. h y (inr i))

pub count-some : {X : Type 0} (p : X → Bool) (xs : List X) (x : X) → In x xs → p x ≡ true → 0 < count_by p xs
count-some p [] x i h = absurd i
count-some p (y ∷ ys) x (inl e) h = let a = count-yes p y ys (ap p e ∙ h) in omega (arith, a)
count-some p (y ∷ ys) x (inr i) h =
    let ih = count-some p ys x i h in
    let a = count-cons p y ys in
    omega (arith, ih, a)

pub some-counted : {X : Type 0} (p : X → Bool) (xs : List X) → 0 < count_by p xs → (x : X) × In x xs × (p x ≡ true)
some-counted p [] h = absurd (omega (arith, h))
some-counted {X} p (x ∷ xs) h = by (p x) refl (some-counted p xs)
  where
    by : (t : Bool) → p x ≡ t → (0 < count_by p xs → (y : X) × In y xs × (p y ≡ true)) → (y : X) × In y (x ∷ xs) × (p y ≡ true)
    by true e ih = (x, inl refl, e)
    by false e ih = let a = count-no p x xs e in let r = ih (omega (arith, a, h)) in (r.0, inr r.1, r.2)

-- of what is left of a list, and of a picture of it, no more pass

pub count-left : {X Y : Type 0} (f : X → Y) (q : Y → Bool) (r : X → Bool) (xs : List X) → count_by q (map f (filter r xs)) ≤ count_by q (map f xs)
count-left f q r [] = omega arith
count-left f q r (x ∷ xs) = by (r x) (count-left f q r xs)
  where
    by : (t : Bool) → count_by q (map f (filter r xs)) ≤ count_by q (map f xs) → count_by q (map f (cond t (x ∷ filter r xs) (filter r xs))) ≤ count_by q (f x ∷ map f xs)
    by true ih =
        let a = count-cons q (f x) (map f (filter r xs)) in
        let b = count-cons q (f x) (map f xs) in
        omega (arith, ih, a, b)
    by false ih = let b = count-cons q (f x) (map f xs) in omega (arith, ih, b)

pub count-map : {X Y : Type 0} (f : X → Y) (q : Y → Bool) (p : X → Bool) → ((x : X) → q (f x) ≡ true → p x ≡ true) → (xs : List X) → count_by q (map f xs) ≤ count_by p xs
count-map f q p h [] = omega arith
count-map f q p h (x ∷ xs) =
    let ih = count-map f q p h xs in
    let a = count-cons q (f x) (map f xs) in
    let b = count-cons p x xs in
    let one = no-more (q (f x)) (p x) (h x) in
    omega (arith, ih, a, b, one)

pub count-both : {X Y : Type 0} (f : X → Y) (q : Y → Bool) (p r : X → Bool) → ((x : X) → cond (q (f x)) 1 0 ≤ cond (p x) 1 0 + cond (r x) 1 0) → (xs : List X) →
    count_by q (map f xs) ≤ count_by p xs + count_by r xs
count-both f q p r h [] = omega arith
count-both f q p r h (x ∷ xs) =
    let ih = count-both f q p r h xs in
    let a = count-cons q (f x) (map f xs) in
    let b = count-cons p x xs in
    let c = count-cons r x xs in
    let one = h x in
    omega (arith, ih, a, b, c, one)
