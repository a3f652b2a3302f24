-- Numbers with no two equal, each of which is among others, are no more than these.
use Rattle.salt_pool.proofs.Numbers.{true_is_not_false}
use Rattle.std.proofs.Common.{Bool, List, [], ap, arith, cond, false, length, nat_eq, suc, true, ℕ, ◌≡◌, ◌≤◌, ◌∙◌, ◌∷◌, sym, refl, ◌||◌}
use Rattle.std.proofs.lemmas.Bool.Decides.{Decides-eqb}
use Rattle.std.specs.List.{AllByRecursion, IsDistinct, list_any}

minus : ℕ → List ℕ → List ℕ
minus k [] = []
minus k (y ∷ ys) = cond (nat_eq k y) ys (y ∷ minus k ys)

minus_length : (k : ℕ) (ys : List ℕ) → list_any (nat_eq k) ys ≡ true → length ys ≡ suc (length (minus k ys))
unfolding minus
minus_length k [] there = cc
minus_length k (y ∷ ys) there = by (nat_eq k y) refl (λ h. minus_length k ys h)
  where
    by : (b : Bool) → nat_eq k y ≡ b → (list_any (nat_eq k) ys ≡ true → length ys ≡ suc (length (minus k ys))) → length (y ∷ ys) ≡ suc (length (cond (nat_eq k y) ys (y ∷ minus k ys)))
    by true is on = ap (λ c. suc (length (cond c ys (y ∷ minus k ys)))) (sym is)
    by false is on = ap suc (on (ap (λ c. c || list_any (nat_eq k) ys) (sym is) ∙ there)) ∙ ap (λ c. suc (length (cond c ys (y ∷ minus k ys)))) (sym is)

minus_has : (k q : ℕ) (ys : List ℕ) → nat_eq k q ≡ false → list_any (nat_eq q) ys ≡ true → list_any (nat_eq q) (minus k ys) ≡ true
unfolding minus
minus_has k q [] apart there = there
minus_has k q (y ∷ ys) apart there = by (nat_eq k y) refl (nat_eq q y) refl (λ h. minus_has k q ys apart h)
  where
    by : (b : Bool) → nat_eq k y ≡ b → (c : Bool) → nat_eq q y ≡ c → (list_any (nat_eq q) ys ≡ true → list_any (nat_eq q) (minus k ys) ≡ true) → list_any (nat_eq q) (cond (nat_eq k y) ys (y ∷ minus k ys)) ≡ true
    by true is true own on = absurd (true_is_not_false (sym ((Decides-eqb k q).1 ((Decides-eqb k y).0 is ∙ sym ((Decides-eqb q y).0 own))) ∙ apart))
    by true is false own on = ap (λ t. list_any (nat_eq q) (cond t ys (y ∷ minus k ys))) is ∙ ap (λ t. t || list_any (nat_eq q) ys) (sym own) ∙ there
    by false is true own on = ap (λ t. list_any (nat_eq q) (cond t ys (y ∷ minus k ys))) is ∙ ap (λ t. t || list_any (nat_eq q) (minus k ys)) own
    by false is false own on = ap (λ t. list_any (nat_eq q) (cond t ys (y ∷ minus k ys))) is ∙ ap (λ t. t || list_any (nat_eq q) (minus k ys)) own ∙ on (ap (λ t. t || list_any (nat_eq q) ys) (sym own) ∙ there)

abbrev pub AreAmong : List ℕ → List ℕ → Type 0
AreAmong xs ys = AllByRecursion (λ x. list_any (nat_eq x) ys ≡ true) xs

among_minus : (k : ℕ) (xs ys : List ℕ) → AllByRecursion (λ x. nat_eq k x ≡ false) xs → AreAmong xs ys → AreAmong xs (minus k ys)
among_minus k [] ys apart among = tt
among_minus k (x ∷ xs) ys apart among = (minus_has k x ys apart.0 among.0, among_minus k xs ys apart.1 among.1)

pub pigeons : (xs ys : List ℕ) → IsDistinct nat_eq xs → AreAmong xs ys → length xs ≤ length ys
unfolding IsDistinct
pigeons [] ys distinct among = omega arith
pigeons (x ∷ xs) ys distinct among =
    let rest : length xs ≤ length (minus x ys) = pigeons xs (minus x ys) distinct.1 (among_minus x xs ys distinct.0 among.1) in
    let one : length ys ≡ suc (length (minus x ys)) = minus_length x ys among.0 in
    omega (arith, rest, one)
