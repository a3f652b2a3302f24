-- What is refused of tables and statements, as the crate tells it.
use Rattle.salt_ast.specs.Judgement.{Fault, exists, kept_limit, mistyped, statement_fault, table_fault, unknown}
use Rattle.salt_ast.specs.declared.trees.Scope.{Scope}
use Rattle.salt_ast.specs.declared.trees.Statement.{Statement}
use Rattle.salt_ast.specs.declared.trees.TableDef.{TableDef}
use Rattle.salt_schema.specs.declared.error.SchemaErr.TheVariants as error
use Rattle.salt_schema.specs.declared.error.SchemaErr.{SchemaErr}
use Rattle.salt_schema.specs.declared.refusal.Fault as lent
use Rattle.salt_schema.specs.declared.refusal.Fault.TheVariants as fault
use Rattle.std.specs.Option.{option_or}
use Rattle.std.specs.Prelude.{Err, List, None, Ok, Option, Result, Some, option_map, ◌≡◌}

abbrev pub fault_meant : lent.Fault → Fault
fault_meant (fault.Unknown n) = unknown n.now
fault_meant (fault.Exists n) = exists n.now
fault_meant fault.Mistyped = mistyped

abbrev pub fault_error : Fault → SchemaErr
fault_error (unknown n) = error.Unknown n
fault_error (exists n) = error.Exists n
fault_error mistyped = error.Mistyped

-- of a table that is to be the next: the limit of tables stands before its faults
abbrev pub table_refusal : List TableDef → TableDef → Option SchemaErr
table_refusal schema d = option_or (option_map (λ _. error.Tables) (kept_limit schema)) (option_map fault_error (table_fault schema d))

-- of a statement under the tables defined
abbrev pub statement_refusal : List TableDef → Scope → Statement → Option SchemaErr
statement_refusal schema scope st = option_map fault_error (statement_fault schema scope st)

-- the answer where this is refused: Ok where nothing is, and want of memory at any time
abbrev pub IsAnswer : {A : Type 0} → Option SchemaErr → Result A SchemaErr → Type 0
IsAnswer refusal (Ok x) = refusal ≡ None
IsAnswer refusal (Err error.Tables) = refusal ≡ Some error.Tables
IsAnswer refusal (Err (error.Unknown n)) = refusal ≡ Some (error.Unknown n)
IsAnswer refusal (Err (error.Exists n)) = refusal ≡ Some (error.Exists n)
IsAnswer refusal (Err error.Mistyped) = refusal ≡ Some error.Mistyped
IsAnswer refusal (Err error.Memory) = Unit {0}
