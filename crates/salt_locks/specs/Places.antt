-- The order in which locks stand, and the part of them that is near a range.
use Rattle.law_states.specs.Members.{Ascends}
use Rattle.salt_model.specs.declared.locks.Lock.{Lock}
use Rattle.salt_ranges.specs.Ranges.{ends_meet}
use Rattle.salt_ranges.specs.declared.range.KeyRange.{KeyRange}
use Rattle.salt_values.specs.Value.{is_value_at_most}
use Rattle.salt_values.specs.declared.value.Value.{Value}
use Rattle.std.specs.Prelude.{Bool, List, None, Option, Some, false, nat_lt, true, ℕ, ◌&&◌, ◌==◌, ◌||◌, ◌≡◌}

-- of two lower ends the first is at most the second; none at all is the least
abbrev pub is_low_at_most : Option Value → Option Value → Bool
is_low_at_most None hi = true
is_low_at_most (Some lo) None = false
is_low_at_most (Some lo) (Some hi) = is_value_at_most lo hi

-- a lock is on a lesser table, or on this one with a lower end that passes
abbrev pub is_up_to : ℕ → (Option Value → Bool) → Lock → Bool
is_up_to table passes l = nat_lt l.table table || ((l.table == table) && passes l.range.lo)

-- by table, then by lower end
abbrev pub is_no_later : Lock → Lock → Bool
is_no_later l m = is_up_to m.table (λ lo. is_low_at_most lo m.range.lo) l

abbrev pub NoLater : Lock → Lock → Type 0
NoLater l m = is_no_later l m ≡ true

abbrev pub AreInOrder : List Lock → Type 0
AreInOrder locks = Ascends NoLater locks

-- a lock of this table whose lower end is not above the range's upper end
abbrev pub is_near : ℕ → KeyRange → Lock → Bool
is_near table range l = (l.table == table) && ends_meet l.range.lo range.hi
