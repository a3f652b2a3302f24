-- Which dirty pages begin at most one page behind the end that stands when they come, and how long the device is behind them.
use Rattle.salt_bytes.specs.Page.{page_length, page_place}
use Rattle.salt_bytes.specs.Spellable.{Every}
use Rattle.salt_pool.proofs.Dirtied.{not_above}
use Rattle.salt_pool.proofs.Numbers.{equal}
use Rattle.salt_pool.specs.Dirtied.{IsRisingFrom, is_dirty}
use Rattle.salt_pool.specs.Flushing.{AreNear, BeginsNear, length_behind, length_with, place_of}
use Rattle.salt_pool.specs.declared.places.Dirty.{Dirty}
use Rattle.std.proofs.Common.{Bool, List, [], ap, arith, false, inl, inr, nat_eq, refl, suc, true, zero, ℕ, ◌+◌, ◌||◌, ◌<◌, ◌≡◌, ◌≤◌, ◌∙◌, ◌∷◌}

near_one : (len len' : ℕ) (d : Dirty) → len ≤ len' → BeginsNear len d → BeginsNear len' d
near_one len len' d later (inl near) = inl (omega (arith, later, near))
near_one len len' d later (inr own) = inr own

near_each : (len len' : ℕ) (ds : List Dirty) → len ≤ len' → Every (BeginsNear len) ds → Every (BeginsNear len') ds
near_each len len' [] later near = tt
near_each len len' (d ∷ ds) later near = (near_one len len' d later near.0, near_each len len' ds later near.1)

-- where side 0 of each page that is not dirty stands on the device, a page that goes to side 0 has the one before it there when it comes
pub are_near : (count low len : ℕ) (ds : List Dirty) → IsRisingFrom low ds → Every (λ d. d.page < count) ds → ((q : ℕ) → q < count → is_dirty ds q ≡ false → page_place q 0 + page_length ≤ len) → Every (BeginsNear len) ds → AreNear len ds
are_near count low len [] rising below there near = tt
are_near count low len (d ∷ ds) rising below there near =
    (first near.0, are_near count (suc d.page) (length_with len d) ds rising.1 below.1 rest (near_each len (length_with len d) ds (omega arith) near.1))
  where
    behind : (n : ℕ) → d.page ≡ n → d.side ≡ 0 → place_of d ≤ len + page_length
    behind zero is own = omega (arith, is, own)
    behind (suc q) is own =
        let less : q < d.page = omega (arith, is) in
        let there_too : page_place q 0 + page_length ≤ len = there q (omega (arith, less, below.0)) (not_above q d.page (d ∷ ds) less (omega arith, rising.1)) in
        omega (arith, is, own, there_too)

    first : BeginsNear len d → place_of d ≤ len + page_length
    first (inl near) = near
    first (inr own) = behind d.page refl own

    rest : (q : ℕ) → q < count → is_dirty ds q ≡ false → page_place q 0 + page_length ≤ length_with len d
    rest q less clean = by (nat_eq d.page q) refl
      where
        by : (b : Bool) → nat_eq d.page q ≡ b → page_place q 0 + page_length ≤ length_with len d
        by true is = let it : d.page ≡ q = equal d.page q is in omega (arith, it)
        by false is = let far : page_place q 0 + page_length ≤ len = there q less (ap (λ t. t || is_dirty ds q) is ∙ clean) in omega (arith, far)

pub behind_later : (len : ℕ) (ds : List Dirty) → len ≤ length_behind len ds
behind_later len [] = omega arith
behind_later len (d ∷ ds) = let on : length_with len d ≤ length_behind (length_with len d) ds = behind_later (length_with len d) ds in omega (arith, on)

pub behind_each : (len : ℕ) (ds : List Dirty) → Every (λ d. place_of d + page_length ≤ length_behind len ds) ds
behind_each len [] = tt
behind_each len (d ∷ ds) =
    let on : length_with len d ≤ length_behind (length_with len d) ds = behind_later (length_with len d) ds in
    (omega (arith, on), behind_each (length_with len d) ds)
