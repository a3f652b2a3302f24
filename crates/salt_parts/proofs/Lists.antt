-- Elements of a list by their places.
use Rattle.std.proofs.Common.{Bool, List, None, Option, Some, [], ap, arith, get_or, length, refl, slice_set, subst, sym, take, true, ℕ, ◌&&◌, ◌+◌, ◌++◌, ◌<◌, ◌≡◌, ◌≢◌, ◌≤◌, ◌∙◌, ◌∷◌}
use Rattle.std.proofs.lemmas.List.Folds.{list_all_more}
use Rattle.std.specs.List.{list_all}
use Rattle.std.specs.Prelude.{IfSome, slice_get, suc, zero}

pub if_some : {X : Type 0} (o : Option X) (x : X) (P : X → Type 0) → o ≡ Some x → IfSome o P → P x
if_some {X = X} o x P e h = subst (λ (v : Option X). IfSome v P) e h

pub make_some : {X : Type 0} (o : Option X) (P : X → Type 0) → ((x : X) → o ≡ Some x → P x) → IfSome o P
make_some None P f = tt
make_some (Some x) P f = f x refl

pub past_end : {X : Type 0} (xs : List X) (i : ℕ) → length xs ≤ i → slice_get xs i ≡ None
past_end [] i high = refl
past_end (x ∷ xs) zero high = absurd (omega (arith, high))
past_end (x ∷ xs) (suc i) high = past_end xs i (omega (arith, high))

-- one that is there stands before the end
pub not_past : {X : Type 0} (xs : List X) (i : ℕ) (x : X) → slice_get xs i ≡ Some x → length xs ≤ i → ⊥
not_past xs i x is high = clash (sym (past_end xs i high) ∙ is)
  where
    clash : None ≡ Some x → ⊥
    clash e = cc

pub longer : {X : Type 0} (xs : List X) (y : X) → length (xs ++ y ∷ []) ≡ length xs + 1
longer [] y = refl
longer (x ∷ xs) y = let h = longer xs y in omega (arith, h)

-- what holds of each holds with one more
pub each_push : {X : Type 0} (P : ℕ → X → Type 0) (xs : List X) (n k : ℕ) (y : X) → length xs + k ≡ n → ((p : ℕ) → IfSome (slice_get xs p) (P (k + p))) → P n y → (p : ℕ) → IfSome (slice_get (xs ++ y ∷ []) p) (P (k + p))
each_push P [] n k y e each one zero = let at : n ≡ k + 0 = omega (arith, e) in subst (λ m. P m y) at one
each_push P [] n k y e each one (suc p) = tt
each_push P (x ∷ xs) n k y e each one zero = each 0
each_push P (x ∷ xs) n k y e each one (suc p) =
    let at : (q : ℕ) → k + suc q ≡ suc k + q = λ q. omega arith in
    subst (λ m. IfSome (slice_get (xs ++ y ∷ []) p) (P m)) (sym (at p))
    (each_push P xs n (suc k) y (omega (arith, e)) (λ q. subst (λ m. IfSome (slice_get xs q) (P m)) (at q) (each (suc q))) one p)

-- what each of the first n passes, each of one more passes
pub all_more : {X : Type 0} (f : X → Bool) (xs : List X) (n : ℕ) (x : X) → n < length xs → x ≡ get_or xs n x → list_all f (take n xs) ≡ true → f x ≡ true → list_all f (take (n + 1) xs) ≡ true
all_more f xs n x low at so_far one = list_all_more f xs n x low ∙ (λ i. so_far i && (ap f (sym at) ∙ one) i)

module _ {X : Type 0} where
  pub set_same : (xs : List X) (i : ℕ) (y : X) → i < length xs → slice_get (slice_set xs i y) i ≡ Some y
  set_same [] i y h = absurd (omega (arith, h))
  set_same (x ∷ xs) zero y h = refl
  set_same (x ∷ xs) (suc i) y h = set_same xs i y (omega (arith, h))

  pub set_other : (xs : List X) (i k : ℕ) (y : X) → k ≢ i → slice_get (slice_set xs i y) k ≡ slice_get xs k
  set_other [] i k y other = refl
  set_other (x ∷ xs) zero zero y other = absurd (other refl)
  set_other (x ∷ xs) zero (suc k) y other = refl
  set_other (x ∷ xs) (suc i) zero y other = refl
  set_other (x ∷ xs) (suc i) (suc k) y other = set_other xs i k y (λ e. other (ap suc e))

  pub some_at : (xs : List X) (i : ℕ) → i < length xs → (x : X) × (slice_get xs i ≡ Some x)
  some_at [] i h = absurd (omega (arith, h))
  some_at (x ∷ xs) zero h = (x, refl)
  some_at (x ∷ xs) (suc i) h = some_at xs i (omega (arith, h))
