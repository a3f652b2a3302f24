-- One element of a list is changed, and what is said of an element that may be there.
use Rattle.std.proofs.Common.{List, None, Option, Some, [], ap, arith, length, refl, slice_set, subst, suc, zero, ℕ, ◌<◌, ◌≡◌, ◌≢◌, ◌∷◌}
use Rattle.std.specs.Prelude.{IfSome, slice_get}

module _ {X : Type 0} where
  pub set_same : (xs : List X) (i : ℕ) (y : X) → i < length xs → slice_get (slice_set xs i y) i ≡ Some y
  set_same [] i y h = absurd (omega (arith, h))
  set_same (x ∷ xs) zero y h = refl
  set_same (x ∷ xs) (suc i) y h = set_same xs i y (omega (arith, h))

  pub set_other : (xs : List X) (i k : ℕ) (y : X) → k ≢ i → slice_get (slice_set xs i y) k ≡ slice_get xs k
  set_other [] i k y other = refl
  set_other (x ∷ xs) zero zero y other = absurd (other refl)
  set_other (x ∷ xs) zero (suc k) y other = refl
  set_other (x ∷ xs) (suc i) zero y other = refl
  set_other (x ∷ xs) (suc i) (suc k) y other = set_other xs i k y (λ e. other (ap suc e))

  -- there is one at each place below the length
  pub some_at : (xs : List X) (i : ℕ) → i < length xs → (x : X) × (slice_get xs i ≡ Some x)
  some_at [] i h = absurd (omega (arith, h))
  some_at (x ∷ xs) zero h = (x, refl)
  some_at (x ∷ xs) (suc i) h = some_at xs i (omega (arith, h))

  pub if_some : (o : Option X) (x : X) (P : X → Type 0) → o ≡ Some x → IfSome o P → P x
  if_some o x P e h = subst (λ (v : Option X). IfSome v P) e h

  pub if_each : (o : Option X) (P Q : X → Type 0) → ((x : X) → o ≡ Some x → P x → Q x) → IfSome o P → IfSome o Q
  if_each None P Q f h = tt
  if_each (Some x) P Q f h = f x refl h
