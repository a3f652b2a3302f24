-- Which keys are in a range, and which ranges have one in common.
use Rattle.salt_ranges.specs.declared.range.KeyRange.{KeyRange}
use Rattle.salt_values.specs.Value.{is_value_at_most}
use Rattle.salt_values.specs.declared.value.Value.{Value}
use Rattle.std.specs.Prelude.{Bool, None, Option, Some, not, true, ◌&&◌}

abbrev pub is_above_low : Option Value → Value → Bool
is_above_low None v = true
is_above_low (Some lo) v = is_value_at_most lo v

abbrev pub is_below_high : Option Value → Value → Bool
is_below_high None v = true
is_below_high (Some hi) v = is_value_at_most v hi

-- both ends are inside
abbrev pub has_key : KeyRange → Value → Bool
has_key r k = is_above_low r.lo k && is_below_high r.hi k

abbrev pub ends_meet : Option Value → Option Value → Bool
ends_meet (Some lo) (Some hi) = is_value_at_most lo hi
ends_meet lo hi = true

-- the lower end is above the upper one
abbrev pub is_range_empty : KeyRange → Bool
is_range_empty r = not (ends_meet r.lo r.hi)

-- neither is empty, and each lower end is at most the other's upper end
abbrev pub meets : KeyRange → KeyRange → Bool
meets a b = ends_meet a.lo a.hi && ends_meet b.lo b.hi && ends_meet a.lo b.hi && ends_meet b.lo a.hi

abbrev pub one_key : Value → KeyRange
one_key k = record { lo = Some k; hi = Some k }

abbrev pub all_keys : KeyRange
all_keys = record { lo = None; hi = None }
