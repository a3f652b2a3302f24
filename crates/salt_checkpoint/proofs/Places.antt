-- A page that is written on a side that is not named spares the named ones; so do zeros behind all of them.
use Rattle.salt_checkpoint.specs.Sides.{Spares}
use Rattle.salt_bytes.specs.Page.{page_length, page_place}
use Rattle.salt_bytes.specs.Partition.{is_side}
use Rattle.std.proofs.Common.{Bool, List, Some, [], arith, false, inl, inr, refl, suc, true, zero, ℕ, ◌*◌, ◌+◌, ◌<◌, ◌≡◌, ◌≢◌, ◌≤◌, ◌⊎◌, ◌∷◌}
use Rattle.std.proofs.lemmas.Bool.{cases_order}
use Rattle.std.proofs.lemmas.Bool.Decides.{nat_tests}
use Rattle.std.specs.List.{list_all}
use Rattle.std.specs.Prelude.{nat_le, slice_get, ◌&&◌}

-- each side that a header names is 0 or 1
pub sides_low : (sides : List ℕ) → list_all is_side sides ≡ true → (page side : ℕ) → slice_get sides page ≡ Some side → side ≤ 1
sides_low [] are page side e = cc
sides_low (s ∷ sides) are zero side e = by (nat_le s 1) refl are
  where
    same : s ≡ side
    same = cc

    by : (b : Bool) → nat_le s 1 ≡ b → (b && list_all is_side sides) ≡ true → side ≤ 1
    by true low h = grind (arith, nat_tests, low, same)
    by false low h = cc
sides_low (s ∷ sides) are (suc page) side e = sides_low sides (rest (is_side s) (list_all is_side sides) are) page side e
  where
    rest : (a b : Bool) → (a && b) ≡ true → b ≡ true
    rest true b h = h
    rest false b h = cc

-- one page on one side, and another page or the other side: their places do not meet
pub places_apart : (i s j t : ℕ) → s ≤ 1 → t ≤ 1 → ((i ≡ j) × (s ≡ t) → ⊥) → (page_place j t + page_length ≤ page_place i s) ⊎ (page_place i s + page_length ≤ page_place j t)
places_apart i s j t s_low t_low apart = by (cases_order (2 * i + s) (2 * j + t))
  where
    by : (2 * i + s ≡ 2 * j + t) ⊎ ((2 * i + s < 2 * j + t) ⊎ (2 * j + t < 2 * i + s)) → (page_place j t + page_length ≤ page_place i s) ⊎ (page_place i s + page_length ≤ page_place j t)
    by (inl same) = absurd (apart (omega (arith, same, s_low, t_low), omega (arith, same, s_low, t_low)))
    by (inr (inl less)) = inr (omega (arith, less))
    by (inr (inr more)) = inl (omega (arith, more))

pub write_spares : (sides : List ℕ) (page side : ℕ) → list_all is_side sides ≡ true → side ≤ 1 → slice_get sides page ≢ Some side → Spares sides (page_place page side) page_length
write_spares sides page side are low spare = record { each = λ q t named. places_apart page side q t low (sides_low sides are q t named) (λ same. spare (at q t named same)) }
  where
    at : (q t : ℕ) → slice_get sides q ≡ Some t → (page ≡ q) × (side ≡ t) → slice_get sides page ≡ Some side
    at q t named same = cc

-- from a place on that lies behind each named side
pub behind_spares : (sides : List ℕ) (at n : ℕ) → ((page side : ℕ) → slice_get sides page ≡ Some side → page_place page side + page_length ≤ at) → Spares sides at n
behind_spares sides at n behind = record { each = λ page side named. inl (behind page side named) }
