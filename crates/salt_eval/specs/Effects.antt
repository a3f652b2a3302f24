-- What a statement answers and changes, and the cause for which it fails.
use Rattle.salt_ast.specs.declared.trees.Expr.{Expr}
use Rattle.salt_ast.specs.declared.trees.Statement.TheVariants.{Ensure}
use Rattle.salt_ast.specs.declared.trees.Statement.{Statement}
use Rattle.salt_ast.specs.declared.trees.TableDef.{TableDef}
use Rattle.salt_model.specs.Eval.{holds}
use Rattle.salt_model.specs.Reaches.{no_row, reach_in, table_for}
use Rattle.salt_model.specs.Statements.{Done, do_in}
use Rattle.salt_model.specs.Tables.{Tables, rows_in}
use Rattle.salt_model.specs.Words.{and_then}
use Rattle.salt_model.specs.declared.events.Answer.TheVariants as answer
use Rattle.salt_model.specs.declared.events.Answer.{Answer}
use Rattle.salt_model.specs.declared.events.Cause.TheVariants as cause
use Rattle.salt_model.specs.declared.events.Cause.{Cause}
use Rattle.salt_model.specs.declared.vars.Binding.{Binding}
use Rattle.salt_values.specs.declared.change.Change.{Change}
use Rattle.std.specs.Prelude.{Err, List, None, Ok, Option, Result, Some, [], if◌then◌else◌, ℕ, ◌≡◌}

abbrev pub effect_of : Result Done Cause → Result (Answer × List Change) Cause
effect_of r = and_then r (λ d. Ok (d.answer, d.changes))

-- what a statement does to the table of this number, on the rows that it reaches
abbrev pub table_effect : ℕ → TableDef → List Binding → Statement → Tables → Result (Answer × List Change) Cause
table_effect t def vars st es = effect_of (do_in t def vars st (rows_in (reach_in t vars st) es))

abbrev pub ensured : List Binding → Expr → Result (Answer × List Change) Cause
ensured vars e = and_then (holds (no_row vars) e) (λ b. if b then Ok (answer.Held, []) else Err cause.Ensure)

-- the same, where the table is found or not
abbrev pub effect_at : List Binding → Statement → Option (ℕ × TableDef) → Tables → Result (Answer × List Change) Cause
effect_at vars (Ensure e) d es = ensured vars e
effect_at vars st None es = Err cause.Missing
effect_at vars st (Some d) es = table_effect d.0 d.1 vars st es

abbrev pub attempted : List TableDef → List Binding → Statement → Tables → Result (Answer × List Change) Cause
attempted schema vars st es = effect_at vars st (table_for schema st) es

-- the answer and the changes are those of the statement
pub record IsEffect (effect : Answer × List Change) (d : Done) : Type 0 where
  pub answer : effect.0 ≡ d.answer
  pub changes : effect.1 ≡ d.changes
