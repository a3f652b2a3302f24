-- Which ranges lie in one partition, and in which.
use Rattle.salt_ranges.specs.Ranges.{is_range_empty}
use Rattle.salt_ranges.specs.declared.range.KeyRange.{KeyRange}
use Rattle.salt_place.specs.Placement.{place_of}
use Rattle.salt_values.specs.Value.{is_same_value}
use Rattle.salt_place.specs.declared.placement.PlaceKind.TheVariants.{Bands, Remainder}
use Rattle.salt_place.specs.declared.placement.PlaceKind.{PlaceKind}
use Rattle.salt_place.specs.declared.placement.Shape.{Shape}
use Rattle.salt_values.specs.declared.value.Value.TheVariants.{Int, Null, Text}
use Rattle.salt_values.specs.declared.value.Value.{Value}
use Rattle.std.specs.Int.{int_div_euclid}
use Rattle.std.specs.Ordering.{int_cmp, is_eq}
use Rattle.std.specs.Prelude.{Bool, None, Option, Some, false, if◌then◌else◌, pos, ℕ, ℤ, ◌==◌, ◌||◌}

-- 1,024 numbers stand together
abbrev pub band : ℤ → ℤ
band z = int_div_euclid z (pos 1024)

abbrev pub is_one_band : Value → Value → Bool
is_one_band (Int a) (Int b) = is_eq (int_cmp (band a) (band b))
is_one_band (Int a) (Text t) = false
is_one_band (Int a) Null = false
is_one_band (Text s) v = false
is_one_band Null v = false

-- the keys from one to the other stand in the first one's partition, by their ends alone
abbrev pub are_together : PlaceKind → Value → Value → Bool
are_together Remainder lo hi = is_same_value lo hi
are_together Bands lo hi = is_same_value lo hi || is_one_band lo hi

abbrev pub part_of_ends : Shape → Option Value → Option Value → Option ℕ
part_of_ends shape None hi = None
part_of_ends shape (Some lo) None = None
part_of_ends shape (Some lo) (Some hi) = if are_together shape.kind lo hi then Some (place_of shape.kind lo shape.parts) else None

-- the partition of all keys of a range that is not empty: there is one, or the ends tell it
abbrev pub one_part : Shape → KeyRange → Option ℕ
one_part shape range = if is_range_empty range then None else (if shape.parts == 1 then Some 0 else part_of_ends shape range.lo range.hi)
