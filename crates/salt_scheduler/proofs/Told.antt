-- What is refused, as a crate tells it, is what is told of it.
use Rattle.salt_ast.specs.Judgement.{Fault, exists, kept_limit, mistyped, statement_fault, table_fault, unknown}
use Rattle.salt_ast.specs.ProgramJudgement.{ProgramFault, backward, faulty, in_branches, in_text, kept, no_branch, of_program_fault, program_fault, program_kept_limit, session_scope}
use Rattle.salt_ast.specs.declared.limit.LimitName.TheVariants as limit
use Rattle.salt_ast.specs.declared.programs.ProgramDef.{ProgramDef}
use Rattle.salt_ast.specs.declared.trees.Statement.{Statement}
use Rattle.salt_ast.specs.declared.trees.TableDef.{TableDef}
use Rattle.salt_scheduler.specs.Refusals.{told, told_by_definition, told_by_schema}
use Rattle.salt_program.specs.Refusals as program
use Rattle.salt_program.specs.declared.error.DefineErr.TheVariants as define
use Rattle.salt_schema.specs.Refusals.{fault_error, statement_refusal, table_refusal}
use Rattle.salt_schema.specs.declared.error.SchemaErr.TheVariants as error
use Rattle.std.specs.Bool.{then_some}
use Rattle.std.specs.Option.{option_or}
use Rattle.std.specs.Prelude.{Bool, List, None, Option, Some, false, length, nat_le, option_and_then, option_map, refl, true, ◌≡◌}

fault-told : (fault : Option Fault) → option_and_then told_by_schema (option_map fault_error fault) ≡ told (option_map faulty fault)
fault-told None = refl
fault-told (Some (unknown n)) = refl
fault-told (Some (exists n)) = refl
fault-told (Some mistyped) = refl

pub statement-told : (schema : List TableDef) (st : Statement) →
    option_and_then told_by_schema (statement_refusal schema session_scope st) ≡ told (option_map faulty (statement_fault schema session_scope st))
statement-told schema st = fault-told (statement_fault schema session_scope st)

pub table-told : (schema : List TableDef) (d : TableDef) →
    option_and_then told_by_schema (table_refusal schema d) ≡ told (option_or (option_map kept (kept_limit schema)) (option_map faulty (table_fault schema d)))
table-told schema d = by (nat_le 64 (length schema)) (table_fault schema d)
  where
    by : (full : Bool) (fault : Option Fault) →
        option_and_then told_by_schema (option_or (option_map (λ _. error.Tables) (then_some full limit.Tables)) (option_map fault_error fault))
        ≡ told (option_or (option_map kept (then_some full limit.Tables)) (option_map faulty fault))
    by true fault = refl
    by false fault = fault-told fault

program-fault-told : (fault : Option ProgramFault) →
    option_and_then told_by_definition (option_map program.fault_error fault) ≡ told (option_map of_program_fault fault)
program-fault-told None = refl
program-fault-told (Some (in_text (unknown n))) = refl
program-fault-told (Some (in_text (exists n))) = refl
program-fault-told (Some (in_text mistyped)) = refl
program-fault-told (Some (in_branches (no_branch k))) = refl
program-fault-told (Some (in_branches (backward k))) = refl

pub program-told : (schema : List TableDef) (catalogue : List ProgramDef) (p : ProgramDef) →
    option_and_then told_by_definition (program.program_refusal schema catalogue p)
    ≡ told (option_or (option_map kept (program_kept_limit catalogue)) (option_map of_program_fault (program_fault schema catalogue p)))
program-told schema catalogue p = by (nat_le 256 (length catalogue)) (program_fault schema catalogue p)
  where
    by : (full : Bool) (fault : Option ProgramFault) →
        option_and_then told_by_definition (option_or (option_map (λ _. define.Programs) (then_some full limit.Programs)) (option_map program.fault_error fault))
        ≡ told (option_or (option_map kept (then_some full limit.Programs)) (option_map of_program_fault fault))
    by true fault = refl
    by false fault = program-fault-told fault
