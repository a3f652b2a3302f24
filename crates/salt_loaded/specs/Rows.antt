-- Rows that are spelled among bytes, and the tables that they make.
use Rattle.salt_eval.specs.Views.{tables_of}
use Rattle.salt_loaded.specs.Spots.{AreSpots, rows_at}
use Rattle.salt_loaded.specs.declared.order.Spot.{Spot}
use Rattle.salt_model.specs.Tables.{Entry, Tables, place}
use Rattle.salt_ranges.specs.Ranges.{has_key}
use Rattle.salt_ranges.specs.declared.range.KeyRange.{KeyRange}
use Rattle.salt_values.specs.Value.{is_same_value, is_value_below, key_of}
use Rattle.salt_values.specs.declared.value.Value.{Value}
use Rattle.std.specs.List.{list_all}
use Rattle.std.specs.Prelude.{Bool, List, [], false, if◌then◌else◌, map, not, true, ℕ, ◌&&◌, ◌++◌, ◌||◌, ◌∷◌, ◌≡◌}

-- rows of one table, in any order
pub record RowsOf : Type 0 where
  pub table : ℕ
  pub rows : List (List Value)

abbrev pub with_rows : List (List Value) → RowsOf → RowsOf
with_rows more r = record { table = r.table; rows = r.rows ++ more }

-- each key is below those behind it
abbrev pub is_rising : List (List Value) → Bool
is_rising [] = true
is_rising (row ∷ rows) = list_all (λ other. is_value_below (key_of row) (key_of other)) rows && is_rising rows

-- each spot is that of a row, and the keys of the rows rise
pub record IsLoaded (bytes : List ℕ) (spots : List Spot) : Type 0 where
  pub each : AreSpots bytes spots
  pub rising : is_rising (rows_at bytes spots) ≡ true

-- no two rows have the same key
abbrev pub are_apart : List (List Value) → Bool
are_apart [] = true
are_apart (row ∷ rows) = list_all (λ other. not (is_same_value (key_of row) (key_of other))) rows && are_apart rows

-- two that stand one behind the other have the same key
abbrev pub have_twins : List (List Value) → Bool
have_twins [] = false
have_twins (row ∷ []) = false
have_twins (row ∷ other ∷ rows) = is_same_value (key_of row) (key_of other) || have_twins (other ∷ rows)

-- each at the place of its key
abbrev pub entries_in : ℕ → List (List Value) → List Entry
entries_in t rows = map (λ row. (place t (key_of row), row)) rows

-- the tables that rows make, in whatever order they are listed; where a key stands twice, with the first row of it
abbrev pub tables_in : ℕ → List (List Value) → Tables
tables_in t rows = tables_of (entries_in t rows)

-- the rows whose keys are in a range
abbrev pub row_within : KeyRange → List Value → List (List Value)
row_within range row = if has_key range (key_of row) then row ∷ [] else []
