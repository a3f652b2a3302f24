-- Which locks are clear: those before which each other lock on their table has ended, so that nothing before them reaches past their lower end.
use Rattle.salt_model.specs.declared.locks.Lock.{Lock}
use Rattle.salt_locks.specs.Places.{is_near}
use Rattle.salt_ranges.specs.Ranges.{ends_meet}
use Rattle.salt_ranges.specs.declared.range.KeyRange.{KeyRange}
use Rattle.salt_values.specs.Value.{is_value_at_most}
use Rattle.salt_values.specs.declared.value.Value.{Value}
use Rattle.std.specs.Prelude.{Bool, List, None, Option, Some, false, get_or, length, not, true, ℕ, ◌&&◌, ◌<◌, ◌==◌, ◌||◌, ◌≡◌}

-- an upper end is at most a lower one
abbrev pub is_high_at_most : Option Value → Option Value → Bool
is_high_at_most (Some hi) (Some lo) = is_value_at_most hi lo
is_high_at_most (Some hi) None = false
is_high_at_most None lo = false

-- of two upper ends the first is at most the second; none at all is the greatest
abbrev pub ends_no_later : Option Value → Option Value → Bool
ends_no_later hi None = true
ends_no_later None (Some hi) = false
ends_no_later (Some hi) (Some other) = is_value_at_most hi other

-- a lock is on another table, or its upper end is at most the other's lower end
abbrev pub ends_by : Lock → Lock → Bool
ends_by l m = not (l.table == m.table) || is_high_at_most l.range.hi m.range.lo

-- each lock that is said to be clear comes behind those that end by it
abbrev pub AreClear : List Bool → List Lock → Type 0
AreClear clear locks = (i k : ℕ) (l : Lock) (b : Bool) → i < k → k < length locks → get_or clear k b ≡ true → ends_by (get_or locks i l) (get_or locks k l) ≡ true

abbrev pub IsMarked : List Bool → List Lock → Type 0
IsMarked clear locks = (length clear ≡ length locks) × AreClear clear locks

-- a lock of this table whose upper end is not below a range's lower end
abbrev pub is_reaching : ℕ → Option Value → Lock → Bool
is_reaching table low l = (l.table == table) && ends_meet low l.range.hi

-- a lock that is near a range and reaches it
abbrev pub is_met : ℕ → KeyRange → Lock → Bool
is_met table range l = is_near table range l && is_reaching table range.lo l
