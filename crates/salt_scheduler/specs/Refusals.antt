-- What is refused of a line under what is defined and under way, as it is told.
use Rattle.salt_ast.specs.ProgramJudgement.{Known, LineFault, line_fault}
use Rattle.salt_ast.specs.declared.limit.LimitName.TheVariants as limit
use Rattle.salt_ast.specs.declared.lines.Line.TheVariants.{Program}
use Rattle.salt_ast.specs.declared.lines.Line.{Line}
use Rattle.salt_ast.specs.declared.programs.ProgramDef.{ProgramDef}
use Rattle.salt_ast.specs.declared.trees.TableDef.{TableDef}
use Rattle.salt_model.specs.Refusals.{refusal_by}
use Rattle.salt_model.specs.declared.events.Refusal.TheVariants as refused
use Rattle.salt_model.specs.declared.events.Refusal.{Refusal}
use Rattle.salt_program.specs.Refusals.{parts_in}
use Rattle.salt_program.specs.declared.error.DefineErr.TheVariants as define
use Rattle.salt_program.specs.declared.error.DefineErr.{DefineErr}
use Rattle.salt_schema.specs.declared.error.SchemaErr.TheVariants as error
use Rattle.salt_schema.specs.declared.error.SchemaErr.{SchemaErr}
use Rattle.salt_values.specs.declared.cont.Cont.{Cont}
use Rattle.std.specs.Prelude.{List, None, Option, Some, length, map, option_map, ℕ, ⊤, ◌<◌, ◌^◌}

-- what is known by the tables and programs defined, the programs that go on, and how many are not released
abbrev pub known_by : List TableDef → List ProgramDef → List Cont → ℕ → Known
known_by schema catalogue conts unreleased = record {
  schema = schema;
  catalogue = catalogue;
  unfinished = map (λ (c : Cont). c.base) conts;
  unreleased = unreleased;
}

abbrev pub told : Option LineFault → Option Refusal
told fault = option_map refusal_by fault

-- the refusal of a line that passes no limit of its text
abbrev pub line_refusal : Known → Line → Option Refusal
line_refusal known line = told (line_fault known line)

-- a program's parts can be numbered, as they can where a program is within its limits
abbrev pub HasFewParts : Line → Type 0
HasFewParts (Program p) = length (parts_in p.body) < 2 ^ 32
HasFewParts line = ⊤

-- how an error is told; want of memory is no refusal
abbrev pub told_by_schema : SchemaErr → Option Refusal
told_by_schema error.Tables = Some (refused.Limit limit.Tables)
told_by_schema (error.Unknown n) = Some (refused.Unknown n)
told_by_schema (error.Exists n) = Some (refused.Exists n)
told_by_schema error.Mistyped = Some refused.Mistyped
told_by_schema error.Memory = None

abbrev pub told_by_definition : DefineErr → Option Refusal
told_by_definition define.Programs = Some (refused.Limit limit.Programs)
told_by_definition (define.Unknown n) = Some (refused.Unknown n)
told_by_definition (define.Exists n) = Some (refused.Exists n)
told_by_definition define.Mistyped = Some refused.Mistyped
told_by_definition (define.NoBranch k) = Some (refused.Branch k)
told_by_definition (define.Backward k) = Some (refused.Branch k)
told_by_definition define.Memory = None
