-- Things put, and taken, one behind the other.
use Rattle.salt_bytes.specs.Spellable.{Every}
use Rattle.salt_bytes.specs.Taking.{Take, give, go_on, take_each, then_take}
use Rattle.std.proofs.Common.{List, None, Option, Some, [], ap, append_assoc, arith, drop, get_or, length, refl, subst, suc, sym, take, zero, ℕ, ◌+◌, ◌++◌, ◌-◌, ◌<◌, ◌≡◌, ◌≤◌, ◌∙◌, ◌∷◌}
use Rattle.std.proofs.lemmas.List.{append-nil, take_all, take_more}
use Rattle.std.specs.Prelude.{map}
use Rattle.std.specs.List.{flat_map}

-- ONE BEHIND THE OTHER

drop_next : {A : Type 0} (xs : List A) (i : ℕ) (x : A) → i < length xs → x ≡ get_or xs i x → drop i xs ≡ x ∷ drop (i + 1) xs
drop_next [] i x low is = absurd (omega (arith, low))
drop_next (y ∷ xs) zero x low is = ap (λ z. z ∷ xs) (sym is)
drop_next (y ∷ xs) (suc i) x low is =
    let same : suc (i + 1) ≡ suc i + 1 = omega arith in
    drop_next xs i x (omega (arith, low)) is ∙ ap (λ k. x ∷ drop k (y ∷ xs)) same

drop_all : {A : Type 0} (xs : List A) (i : ℕ) → length xs ≤ i → drop i xs ≡ []
drop_all [] zero h = refl
drop_all [] (suc i) h = refl
drop_all (x ∷ xs) zero h = absurd (omega (arith, h))
drop_all (x ∷ xs) (suc i) h = drop_all xs i (omega (arith, h))

module _ {A : Type 0} (spell : A → List ℕ) (xs : List A) (start : List ℕ) where
  -- what is put so far, and what is still to be put
  abbrev pub Puts : List ℕ → ℕ → Type 0
  Puts out i = out ++ flat_map spell (drop i xs) ≡ start ++ flat_map spell xs

  pub puts_next : (out more : List ℕ) (i : ℕ) (x : A) → i < length xs → x ≡ get_or xs i x → more ≡ out ++ spell x → Puts out i → Puts more (i + 1)
  puts_next out more i x low is put so_far =
      ap (λ l. l ++ flat_map spell (drop (i + 1) xs)) put
      ∙ append_assoc out (spell x) (flat_map spell (drop (i + 1) xs))
      ∙ ap (λ l. out ++ flat_map spell l) (sym (drop_next xs i x low is))
      ∙ so_far

  pub puts_all : (out : List ℕ) (i : ℕ) → length xs ≤ i → Puts out i → out ≡ start ++ flat_map spell xs
  puts_all out i end so_far = sym (append-nil out) ∙ ap (λ l. out ++ flat_map spell l) (sym (drop_all xs i end)) ∙ so_far

-- these stand before what is taken
abbrev pub behind : {A : Type 0} → List A → Option (List A × List ℕ) → Option (List A × List ℕ)
behind xs None = None
behind xs (Some taken) = Some (xs ++ taken.0, taken.1)

module _ {A : Type 0} (take : Take A) (n : ℕ) (bytes : List ℕ) where
  -- some are taken, and others are to be taken of the rest
  pub record Took (xs : List A) (i : ℕ) (rest : List ℕ) : Type 0 where
    pub within : i ≤ n
    pub so_far : take_each take n bytes ≡ behind xs (take_each take (n - i) rest)

  pub took_none : Took [] 0 bytes
  took_none = record { within = omega arith; so_far = sym (nothing (take_each take n bytes)) ∙ ap (λ k. behind [] (take_each take k bytes)) all }
    where
      all : n ≡ n - 0
      all = omega arith

      nothing : (o : Option (List A × List ℕ)) → behind [] o ≡ o
      nothing None = refl
      nothing (Some taken) = refl

  next : (xs : List A) (x : A) (o : Option (List A × List ℕ)) → behind xs (go_on (λ ys. give (x ∷ ys)) o) ≡ behind (xs ++ x ∷ []) o
  next xs x None = refl
  next xs x (Some taken) = ap (λ l. Some (l, taken.1)) (sym (append_assoc xs (x ∷ []) taken.0))

  left : (i : ℕ) → i < n → n - i ≡ suc (n - (i + 1))
  left i low = omega (arith, low)

  pub took_next : (xs more : List A) (i : ℕ) (rest back : List ℕ) (x : A) → i < n → take rest ≡ Some (x, back) → more ≡ xs ++ x ∷ [] → Took xs i rest → Took more (i + 1) back
  took_next xs more i rest back x low is made h = record {
    within = omega (arith, low);
    so_far = h.so_far ∙ ap (λ k. behind xs (take_each take k rest)) (left i low)
        ∙ ap (λ o. behind xs (go_on (λ x. then_take (take_each take (n - (i + 1))) (λ ys. give (x ∷ ys))) o)) is
        ∙ next xs x (take_each take (n - (i + 1)) back) ∙ ap (λ l. behind l (take_each take (n - (i + 1)) back)) (sym made);
  }

  pub took_fails : (xs : List A) (i : ℕ) (rest : List ℕ) → i < n → take rest ≡ None → Took xs i rest → take_each take n bytes ≡ None
  took_fails xs i rest low is h =
      h.so_far ∙ ap (λ k. behind xs (take_each take k rest)) (left i low) ∙ ap (λ o. behind xs (go_on (λ x. then_take (take_each take (n - (i + 1))) (λ ys. give (x ∷ ys))) o)) is

  pub took_all : (xs : List A) (i : ℕ) (rest : List ℕ) → n ≤ i → Took xs i rest → take_each take n bytes ≡ Some (xs, rest)
  took_all xs i rest end h =
      let none : n - i ≡ 0 = omega (arith, end) in
      h.so_far ∙ ap (λ k. behind xs (take_each take k rest)) none ∙ ap (λ l. Some (l, rest)) (append-nil xs)

-- a fact of each, with one more
pub every_next : {A : Type 0} (P : A → Type 0) (xs : List A) (i : ℕ) (x : A) → i < length xs → x ≡ get_or xs i x → P x → Every P (take i xs) → Every P (take (i + 1) xs)
every_next {A = A} P xs i x low is p h = subst (λ l. Every P l) (sym (take_more xs i x low)) (push (take i xs) (get_or xs i x) (subst P is p) h)
  where
    push : (ys : List A) (y : A) → P y → Every P ys → Every P (ys ++ y ∷ [])
    push [] y p h = (p, tt)
    push (z ∷ ys) y p h = (h.0, push ys y p h.1)

pub every_all : {A : Type 0} (P : A → Type 0) (xs : List A) (i : ℕ) → length xs ≤ i → Every P (take i xs) → Every P xs
every_all P xs i end h = subst (λ l. Every P l) (take_all i xs end) h

-- of things that stand for others
pub every_as : {A B : Type 0} (f : B → A) (P : A → Type 0) (xs : List B) → Every (λ x. P (f x)) xs → Every P (map f xs)
every_as f P [] h = tt
every_as f P (x ∷ xs) h = (h.0, every_as f P xs h.1)

-- so many are put, and each of them is as it has to be
pub record PutSo {A : Type 0} (spell : A → List ℕ) (P : A → Type 0) (xs : List A) (start out : List ℕ) (i : ℕ) : Type 0 where
  pub puts : Puts spell xs start out i
  pub every : Every P (take i xs)

pub put_none : {A : Type 0} (spell : A → List ℕ) (P : A → Type 0) (xs : List A) (start : List ℕ) → PutSo spell P xs start start 0
put_none spell P xs start = record { puts = refl; every = tt }

pub put_next : {A : Type 0} (spell : A → List ℕ) (P : A → Type 0) (xs : List A) (start out more : List ℕ) (i : ℕ) (x : A) → i < length xs → x ≡ get_or xs i x → more ≡ out ++ spell x → P x
    → PutSo spell P xs start out i → PutSo spell P xs start more (i + 1)
put_next spell P xs start out more i x low is put p h = record { puts = puts_next spell xs start out more i x low is put h.puts; every = every_next P xs i x low is p h.every }
