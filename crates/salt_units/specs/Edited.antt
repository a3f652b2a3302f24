-- A unit's changes as edits of tables, and the next of them in a range.
use Rattle.salt_model.specs.declared.places.Place.{Place}
use Rattle.salt_ranges.specs.Ranges.{is_above_low, is_below_high}
use Rattle.salt_ranges.specs.declared.range.KeyRange.{KeyRange}
use Rattle.salt_values.specs.Value.{is_same_value, key_of}
use Rattle.salt_values.specs.declared.change.Change.{Change}
use Rattle.std.specs.Prelude.{Bool, IfSome, List, None, Option, Some, find, if◌then◌else◌, nat_lt, not, slice_get, ℕ, ◌&&◌, ◌==◌, ◌≡◌}

abbrev pub is_change_at : Place → Change → Bool
is_change_at p c = (p.table == c.table) && is_same_value p.key c.key

-- a number is that of the change at a place; there is none where no change is there
abbrev pub IsPlaceOf : Place → List Change → Option ℕ → Type 0
IsPlaceOf p cs None = find (is_change_at p) cs ≡ None
IsPlaceOf p cs (Some i) = (c : Change) × (slice_get cs i ≡ Some c) × (find (is_change_at p) cs ≡ Some c)

-- a place that comes before all those of a range
abbrev pub is_passed : ℕ → KeyRange → Place → Bool
is_passed t range p = if t == p.table then not (is_above_low range.lo p.key) else nat_lt p.table t

-- a place that does not come behind all those of a range
abbrev pub is_to_end : ℕ → KeyRange → Place → Bool
is_to_end t range p = if t == p.table then is_below_high range.hi p.key else nat_lt p.table t

-- the row that a change puts has the change's key
abbrev pub HasItsKey : Change → Type 0
HasItsKey c = IfSome c.row (λ row. key_of row ≡ c.key)
