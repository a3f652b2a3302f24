-- The values of columns in a row, by the columns' numbers.
use Rattle.salt_ast.specs.declared.trees.Field.{Field}
use Rattle.salt_model.specs.Eval.{named_values, value_named}
use Rattle.salt_values.specs.declared.value.Value.TheVariants.{Int}
use Rattle.salt_values.specs.declared.value.Value.{Value}
use Rattle.std.specs.Prelude.{List, Option, map, option_and_then, pos, slice_get, unwrap_or, ℕ, ◌≡◌}

-- the value of a number, or 0
abbrev pub cell_at : List Value → Option ℕ → Value
cell_at row number = unwrap_or (option_and_then (slice_get row) number) (Int (pos 0))

abbrev pub cells_at : List Value → List (Option ℕ) → List Value
cells_at row numbers = map (cell_at row) numbers

-- the value of a name, or 0
abbrev pub named_cell : List Field → List Value → List ℕ → Value
named_cell columns row name = unwrap_or (value_named name (named_values columns row)) (Int (pos 0))

-- in each row the values of these numbers are those of the names
abbrev pub AreNumbersOf : List Field → List (List ℕ) → List (Option ℕ) → Type 0
AreNumbersOf columns names numbers = (row : List Value) → cells_at row numbers ≡ map (named_cell columns row) names
