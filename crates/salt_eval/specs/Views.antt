-- What a view of rows shows, and how its faults are counted.
use Rattle.salt_eval.specs.declared.view.ViewErr.TheVariants.{Fault, Memory}
use Rattle.salt_eval.specs.declared.view.ViewErr.{ViewErr}
use Rattle.salt_io.specs.Streams.{Rose}
use Rattle.salt_model.specs.Bounds.{first_place}
use Rattle.salt_model.specs.Tables.{Entry, Tables, no_rows, place, place_cmp, put_row}
use Rattle.salt_model.specs.Words.{first_of_list}
use Rattle.salt_model.specs.declared.places.Place.{Place}
use Rattle.salt_ranges.specs.Ranges.{has_key, is_above_low}
use Rattle.salt_ranges.specs.declared.range.KeyRange.{KeyRange}
use Rattle.salt_values.specs.Value.{is_value_below}
use Rattle.salt_values.specs.declared.value.Value.{Value}
use Rattle.std.specs.FinMap.Entries.{where_key}
use Rattle.std.specs.Prelude.{Bool, Err, List, None, Ok, Option, Result, Some, [], if◌then◌else◌, map, option_map, true, ℕ, ◌&&◌, ◌==◌, ◌∷◌, ◌≡◌}
use Rattle.std.specs.declared.ops.Bound.TheVariants.{Excluded}
use Rattle.std.specs.declared.ops.Bound.{Bound}

-- a fault where the count rose, and nowhere else
abbrev pub CountsFaults : {A : Type 0} → (before now : ℕ) → Result A ViewErr → Type 0
CountsFaults before now (Ok x) = now ≡ before
CountsFaults before now (Err Fault) = Rose before now
CountsFaults before now (Err Memory) = now ≡ before

-- the tables of rows; where a place stands twice, it has its first row
abbrev pub tables_of : List Entry → Tables
tables_of [] = no_rows
tables_of (e ∷ es) = put_row e.0 e.1 (tables_of es)

abbrev pub is_behind : Option Value → Value → Bool
is_behind None k = true
is_behind (Some after) k = is_value_below after k

-- in the range, and behind a key
abbrev pub is_next : ℕ → KeyRange → Option Value → Place → Bool
is_next t range after p = ((t == p.table) && has_key range p.key) && is_behind after p.key

-- the entries of a table in a range that come behind a key, in order
abbrev pub rows_after : ℕ → KeyRange → Option Value → Tables → List Entry
rows_after t range after es = where_key place_cmp (is_next t range after) es.list

-- the rows of a table in a range, in order of their keys
abbrev pub range_rows : ℕ → KeyRange → Tables → List (List Value)
range_rows t range es = map (λ e. e.1) (rows_after t range None es)

-- the row, where there is one
abbrev pub shown_where : Bool → List Value → Option (List Value)
shown_where found row = if found then Some row else None

-- the row and those behind it, where there is one
abbrev pub coming_where : Bool → List Value → List (List Value) → List (List Value)
coming_where more row rows = if more then row ∷ rows else []

abbrev pub next_row : ℕ → KeyRange → Option Value → Tables → Option (List Value)
next_row t range after es = option_map (λ e. e.1) (first_of_list (rows_after t range after es))

-- where a map is looked at for the next row: from the lower end of a range on, and behind a key
abbrev pub start_of : ℕ → Option Value → Option Value → Bound Place
start_of t lo None = first_place t lo
start_of t lo (Some after) = if is_above_low lo after then Excluded (place t after) else first_place t lo
