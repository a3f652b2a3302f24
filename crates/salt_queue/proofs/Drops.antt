-- A list without its first items, as another changes.
use Rattle.std.proofs.Common.{ap, arith, refl, sym, ◌∙◌}
use Rattle.std.specs.List.{remove}
use Rattle.std.specs.Prelude.{List, [], drop, slice_set, suc, zero, ℕ, ◌+◌, ◌∷◌, ◌≡◌}

pub drop-set : {X : Type 0} (xs : List X) (n k m : ℕ) (x : X) → m ≡ n + k → drop n (slice_set xs m x) ≡ slice_set (drop n xs) k x
drop-set xs zero k m x e = let same : m ≡ k = omega (arith, e) in ap (λ i. slice_set xs i x) same
drop-set [] (suc n) k m x e = refl
drop-set (y ∷ ys) (suc n) k zero x e = absurd (omega (arith, e))
drop-set (y ∷ ys) (suc n) k (suc m) x e = drop-set ys n k m x (omega (arith, e))

none-removed : {X : Type 0} (k : ℕ) → remove {X = X} [] k ≡ []
none-removed zero = refl
none-removed (suc k) = refl

pub drop-remove : {X : Type 0} (xs : List X) (n k m : ℕ) → m ≡ n + k → drop n (remove xs m) ≡ remove (drop n xs) k
drop-remove xs zero k m e = let same : m ≡ k = omega (arith, e) in ap (remove xs) same
drop-remove [] (suc n) k m e = ap (drop (suc n)) (none-removed m) ∙ sym (none-removed k)
drop-remove (y ∷ ys) (suc n) k zero e = absurd (omega (arith, e))
drop-remove (y ∷ ys) (suc n) k (suc m) e = drop-remove ys n k m (omega (arith, e))

-- one more goes: the first of those that are left
pub drop-first : {X : Type 0} (xs : List X) (n m : ℕ) → m ≡ n + 1 → drop m xs ≡ remove (drop n xs) 0
drop-first xs n zero e = absurd (omega (arith, e))
drop-first [] zero (suc m) e = refl
drop-first (y ∷ ys) zero (suc m) e = let none : m ≡ 0 = omega (arith, e) in ap (λ i. drop i ys) none
drop-first [] (suc n) (suc m) e = refl
drop-first (y ∷ ys) (suc n) (suc m) e = drop-first ys n m (omega (arith, e))
