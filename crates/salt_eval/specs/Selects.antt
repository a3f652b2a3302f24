-- What a SELECT shows of a range, by a filter.
use Rattle.salt_ast.specs.declared.trees.Expr.{Expr}
use Rattle.salt_ast.specs.declared.trees.TableDef.{TableDef}
use Rattle.salt_ast.specs.declared.trees.What.TheVariants.{Max, Min}
use Rattle.salt_ast.specs.declared.trees.What.{What}
use Rattle.salt_eval.specs.Views.{rows_after}
use Rattle.salt_model.specs.Eval.{is_int64, passes}
use Rattle.salt_model.specs.Reaches.{in_row}
use Rattle.salt_model.specs.Statements.{collect, on_match, seen, shown}
use Rattle.salt_model.specs.Tables.{Tables}
use Rattle.salt_model.specs.Words.{and_then}
use Rattle.salt_model.specs.declared.events.Answer.TheVariants.{Cell}
use Rattle.salt_model.specs.declared.events.Answer.{Answer}
use Rattle.salt_model.specs.declared.events.Cause.TheVariants.{Overflow}
use Rattle.salt_model.specs.declared.events.Cause.{Cause}
use Rattle.salt_model.specs.declared.vars.Binding.{Binding}
use Rattle.salt_ranges.specs.declared.range.KeyRange.{KeyRange}
use Rattle.salt_values.specs.declared.value.Value.TheVariants.{Int}
use Rattle.salt_values.specs.declared.value.Value.{Value}
use Rattle.std.specs.Prelude.{Bool, Err, List, None, Ok, Option, Result, Some, false, if◌then◌else◌, true, ℕ, ℤ, ◌≡◌}

-- a test of rows is that of a table's filter
abbrev pub Filters : (List Value → Result Bool Cause) → TableDef → List Binding → Option Expr → Type 0
Filters test def vars filter = (row : List Value) → test row ≡ passes (in_row def row vars) filter

abbrev pub shown_of : ℕ → KeyRange → TableDef → List Binding → Option Expr → What → Tables → Result Answer Cause
shown_of t range def vars filter what es = and_then (collect (on_match def vars filter seen) (rows_after t range None es)) (shown def what)

-- a sum, unless it is outside 64 bits
abbrev pub sum_cell : ℤ → Result Answer Cause
sum_cell sum = if is_int64 sum then Ok (Cell (Some (Int sum))) else Err Overflow

-- what shows the least value of a column, or the greatest
abbrev pub best_what : (is_greatest : Bool) → List ℕ → What
best_what true c = Max c
best_what false c = Min c
