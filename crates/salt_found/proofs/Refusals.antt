-- A refusal, as schema and catalogue tell it, is that of a definition under those before it.
use Rattle.salt_ast.specs.Judgement.{Fault, kept_limit, table_fault}
use Rattle.salt_ast.specs.ProgramJudgement.{ProgramFault, faulty, kept, line_fault, of_program_fault, program_fault, program_kept_limit}
use Rattle.salt_ast.specs.declared.limit.LimitName.{LimitName}
use Rattle.salt_ast.specs.declared.programs.ProgramDef.{ProgramDef}
use Rattle.salt_ast.specs.declared.trees.TableDef.{TableDef}
use Rattle.salt_stands.specs.Fitting.{is_refused, programs_defined, tables_defined}
use Rattle.salt_model.specs.Kept.{Definition, OfProgram, OfTable}
use Rattle.salt_program.specs.Refusals as program
use Rattle.salt_program.specs.declared.error.DefineErr.TheVariants as define
use Rattle.salt_schema.specs.Refusals.{fault_error, table_refusal}
use Rattle.salt_schema.specs.declared.error.SchemaErr.TheVariants as error
use Rattle.std.proofs.Common.{List, None, Option, Some, is_some, refl, ◌≡◌}
use Rattle.std.specs.Option.{option_or}
use Rattle.std.specs.Prelude.{option_map}

pub table_refused : (ds : List Definition) (d : TableDef) → is_refused ds (OfTable d) ≡ is_some (table_refusal (tables_defined ds) d)
unfolding line_fault
table_refused ds d = by (kept_limit (tables_defined ds)) (table_fault (tables_defined ds) d)
  where
    by : (l : Option LimitName) (f : Option Fault) →
        is_some (option_or (option_map kept l) (option_map faulty f)) ≡ is_some (option_or (option_map (λ _. error.Tables) l) (option_map fault_error f))
    by (Some l) f = refl
    by None None = refl
    by None (Some f) = refl

pub program_refused : (ds : List Definition) (p : ProgramDef) → is_refused ds (OfProgram p) ≡ is_some (program.program_refusal (tables_defined ds) (programs_defined ds) p)
unfolding line_fault
program_refused ds p = by (program_kept_limit (programs_defined ds)) (program_fault (tables_defined ds) (programs_defined ds) p)
  where
    by : (l : Option LimitName) (f : Option ProgramFault) →
        is_some (option_or (option_map kept l) (option_map of_program_fault f)) ≡ is_some (option_or (option_map (λ _. define.Programs) l) (option_map program.fault_error f))
    by (Some l) f = refl
    by None None = refl
    by None (Some f) = refl
