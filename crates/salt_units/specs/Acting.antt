-- What a statement of a unit does: its answer, the unit's edits and its variables after it.
use Rattle.salt_ast.specs.Judgement.{columns_of, is_key}
use Rattle.salt_ast.specs.declared.trees.Set.{Set}
use Rattle.salt_ast.specs.declared.trees.Statement.TheVariants.{Delete, Ensure, Insert, Select, SelectInto, Update}
use Rattle.salt_ast.specs.declared.trees.Statement.{Statement}
use Rattle.salt_ast.specs.declared.trees.TableDef.{TableDef}
use Rattle.law_states.specs.Overlays.{Edit, put_all}
use Rattle.salt_model.specs.Statements.{Done, set_var}
use Rattle.salt_model.specs.declared.events.Answer.TheVariants.{Stored}
use Rattle.salt_model.specs.declared.events.Answer.{Answer}
use Rattle.salt_model.specs.declared.vars.Binding.{Binding}
use Rattle.std.specs.List.{list_all}
use Rattle.std.specs.Option.{ForSome}
use Rattle.std.specs.Prelude.{Bool, List, None, Option, Some, not, slice_get, true, ℕ, ◌≡◌}
use Rattle.salt_values.specs.Value.{key_of}

-- each row that is put has the key of its place
abbrev pub HaveTheirKeys : List Edit → Type 0
HaveTheirKeys ds = (k : ℕ) → ForSome (slice_get ds k) (λ d. ForSome d.1 (λ row. key_of row ≡ d.0.key))

-- a statement sets no key: of the statements that are not refused this is so
abbrev pub leaves_keys : List TableDef → Statement → Bool
leaves_keys schema (Update table sets scan) = list_all (λ (s : Set). not (is_key (columns_of schema table) s.column)) sets
leaves_keys schema (Insert table values) = true
leaves_keys schema (Select what table scan) = true
leaves_keys schema (SelectInto column var table key) = true
leaves_keys schema (Delete table scan) = true
leaves_keys schema (Ensure e) = true

abbrev pub stored_in : List ℕ → Answer → Option Binding
stored_in var (Stored x) = Some (record { name = var; value = x })
stored_in var answer = None

-- what an answer stores in a variable
abbrev pub stored_by : Statement → Answer → Option Binding
stored_by (SelectInto column var table key) answer = stored_in var answer
stored_by (Insert table values) answer = None
stored_by (Select what table scan) answer = None
stored_by (Update table sets scan) answer = None
stored_by (Delete table scan) answer = None
stored_by (Ensure e) answer = None

abbrev pub vars_with : Option Binding → List Binding → List Binding
vars_with None vars = vars
vars_with (Some b) vars = set_var b.name b.value vars

-- a statement done by a unit with these edits: they and the variables are after it what it makes of them
pub record HasDone (d : Done) (answer : Answer) (before after : List Edit) (vars : List Binding) : Type 0 where
  pub answers : answer ≡ d.answer
  pub edits : after ≡ put_all d.changes before
  pub variables : vars ≡ d.vars
