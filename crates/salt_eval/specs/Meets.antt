-- Whether a row may stand in a table.
use Rattle.salt_ast.specs.declared.trees.ColType.TheVariants as kind
use Rattle.salt_ast.specs.declared.trees.ColType.{ColType}
use Rattle.salt_ast.specs.declared.trees.Field.{Field}
use Rattle.salt_ast.specs.declared.trees.TableDef.{TableDef}
use Rattle.salt_model.specs.Reaches.{in_row}
use Rattle.salt_model.specs.Statements.{checked}
use Rattle.salt_model.specs.Words.{is_empty}
use Rattle.salt_values.specs.declared.value.Value.TheVariants.{Int, Null, Text}
use Rattle.salt_values.specs.declared.value.Value.{Value}
use Rattle.std.specs.Prelude.{Bool, List, None, Option, Some, [], false, is_ok, slice_get, true, ℕ, ◌&&◌, ◌∷◌}

abbrev pub is_of_type : (nullable : Bool) → ColType → Value → Bool
is_of_type nullable kind.Int (Int z) = true
is_of_type nullable kind.Text (Text t) = true
is_of_type nullable kind.Int (Text t) = false
is_of_type nullable kind.Text (Int z) = false
is_of_type nullable k Null = nullable

-- a value of the column's type, or NULL where the column may hold it
abbrev pub is_of_column : Field → Value → Bool
is_of_column f v = is_of_type f.nullable f.kind v

-- one value for each column, of its type
abbrev pub are_of_columns : List Field → List Value → Bool
are_of_columns [] row = is_empty row
are_of_columns (f ∷ fs) [] = false
are_of_columns (f ∷ fs) (v ∷ vs) = is_of_column f v && are_of_columns fs vs

-- and no check is false, or has a cause
abbrev pub meets_def : TableDef → List Value → Bool
meets_def def row = are_of_columns def.columns row && is_ok (checked (in_row def row []) def.checks)

abbrev pub meets_found : Option TableDef → List Value → Bool
meets_found None row = false
meets_found (Some def) row = meets_def def row

abbrev pub meets_table : List TableDef → ℕ → List Value → Bool
meets_table schema t row = meets_found (slice_get schema t) row
