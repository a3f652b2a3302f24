-- Rows in order of their keys, as tables.
use Rattle.salt_bytes.specs.Values.{take_row}
use Rattle.salt_model.specs.Tables.{Entry, Tables}
use Rattle.salt_values.specs.declared.value.Value.{Value}
use Rattle.std.specs.List.Sorted.{IsPartitionPoint}
use Rattle.std.specs.Prelude.{Bool, List, None, Option, Some, false, map, slice_get, true, ℕ, ⊤, ◌≡◌}

-- the entry, if there is one, is of this table
abbrev pub IsOfTable : Option Entry → ℕ → Type 0
IsOfTable None t = ⊤
IsOfTable (Some e) t = e.0.table ≡ t

abbrev pub rows_of : Tables → List (List Value)
rows_of es = map (λ e. e.1) es.list

abbrev pub row_number : Tables → ℕ → Option (List Value)
row_number es i = slice_get (rows_of es) i

-- the row of this number is spelled at the front of bytes
abbrev pub IsRowFront : Tables → ℕ → List ℕ → Type 0
IsRowFront es i bytes = (row : List Value) × (rest : List ℕ) × (row_number es i ≡ Some row) × (take_row true bytes ≡ Some (row, rest))

-- so many first rows have keys that pass a test, and no one behind them
abbrev pub CountsRows : (Value → Bool) → Tables → ℕ → Type 0
CountsRows passes es n = IsPartitionPoint (λ e. passes e.0.key ≡ true) (λ e. passes e.0.key ≡ false) es.list n
