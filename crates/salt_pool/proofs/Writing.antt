-- Writes one behind the other.
use Rattle.salt_pool.specs.Dirtied.{IsRisingFrom, goes_to}
use Rattle.salt_pool.specs.Flushing.{AreNear, length_with, zeros_before, zeros_if}
use Rattle.salt_pool.specs.declared.places.Dirty.{Dirty}
use Rattle.std.proofs.Common.{List, [], ap, arith, drop, false, get_or, length, nat_eq, refl, suc, sym, take, true, ℕ, ◌-◌, ◌||◌, ◌<◌, ◌≡◌, ◌≤◌, ◌∙◌, ◌∷◌}
use Rattle.std.proofs.lemmas.Bool.Decides.{nat_tests}
use Rattle.std.proofs.lemmas.List.{take_all}
use Rattle.std.specs.Prelude.{nat_lt, replicate, ◌&&◌}

-- the zeros that are written, where the device ends below
pub zeros_are : (len at : ℕ) (bytes : List ℕ) → len < at → bytes ≡ replicate (at - len) 0 → record { at = len; bytes = bytes } ∷ [] ≡ zeros_before len at
zeros_are len at bytes below is = (λ i. record { at = len; bytes = is i } ∷ []) ∙ ap (λ b. zeros_if b len at) (sym small)
  where
    small : nat_lt len at ≡ true
    small = grind (arith, nat_tests)

-- OF DIRTY PAGES

-- the first and the rest
pub cons_of : (ds : List Dirty) (none first : Dirty) → 1 ≤ length ds → first ≡ get_or ds 0 none → ds ≡ first ∷ take (length ds - 1) (drop 1 ds)
cons_of [] none first some is = absurd (omega (arith, some))
cons_of (d ∷ ds) none first some is = (λ i. sym is i ∷ ds) ∙ ap (λ (l : List Dirty). first ∷ l) (sym (take_all (length (d ∷ ds) - 1) ds (omega arith)))

-- on a longer device they are as near
pub near_later : (len len' : ℕ) (ds : List Dirty) → len ≤ len' → AreNear len ds → AreNear len' ds
near_later len len' [] later near = tt
near_later len len' (d ∷ ds) later near = (omega (arith, later, near.0), near_later (length_with len d) (length_with len' d) ds (omega (arith, later)) near.1)

-- those that rise from above a page don't go to a side of it
pub goes_above : (page side low : ℕ) (ds : List Dirty) → page < low → IsRisingFrom low ds → goes_to ds page side ≡ false
goes_above page side low [] below rising = refl
goes_above page side low (d ∷ ds) below rising =
    let here : page < d.page = omega (arith, below, rising.0) in
    let first : nat_eq d.page page ≡ false = grind (arith, nat_tests) in
    λ i. (first i && nat_eq d.side side) || goes_above page side (suc d.page) ds (omega (arith, here)) rising.1 i
