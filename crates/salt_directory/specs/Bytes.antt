-- How many bytes rows take on pages, and how many pages they fill.
use Rattle.salt_bytes.specs.Values.{spell_values}
use Rattle.salt_model.specs.Tables.{Entry}
use Rattle.salt_values.specs.declared.change.Change.{Change}
use Rattle.salt_values.specs.declared.value.Value.{Value}
use Rattle.std.specs.Prelude.{List, None, Option, Some, [], length, max, ℕ, ◌+◌, ◌/◌, ◌∷◌, ◌≤◌}

-- how many bytes a row takes on a page, with its table's number
abbrev pub row_bytes : List Value → ℕ
row_bytes row = 2 + length (spell_values row)

abbrev pub bytes_of_entries : List Entry → ℕ
bytes_of_entries [] = 0
bytes_of_entries (e ∷ es) = row_bytes e.1 + bytes_of_entries es

abbrev pub bytes_put : Option (List Value) → ℕ
bytes_put None = 0
bytes_put (Some row) = row_bytes row

abbrev pub bytes_of_changes : List Change → ℕ
bytes_of_changes [] = 0
bytes_of_changes (c ∷ cs) = bytes_put c.row + bytes_of_changes cs

-- at most as many pages as there were, or as rows of so many bytes can fill, and one
abbrev pub IsWithin : (old bytes new : ℕ) → Type 0
IsWithin old bytes new = new ≤ max old (bytes / 4076 + 1)
