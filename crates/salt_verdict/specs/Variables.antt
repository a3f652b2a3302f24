-- The variables with which a unit begins, by what is defined and where programs go on.
use Rattle.salt_ast.specs.ProgramJudgement.{program_named}
use Rattle.salt_ast.specs.declared.programs.ProgramDef.{ProgramDef}
use Rattle.salt_audit.specs.Standing.{cont_named}
use Rattle.salt_model.specs.Kept.{vars_at_call, vars_at_cont}
use Rattle.salt_model.specs.declared.events.UnitKind.TheVariants.{Acid, Call, First, Later}
use Rattle.salt_model.specs.declared.events.UnitKind.{UnitKind}
use Rattle.salt_model.specs.declared.vars.Binding.{Binding}
use Rattle.salt_values.specs.declared.cont.Cont.{Cont}
use Rattle.salt_values.specs.declared.value.Value.{Value}
use Rattle.std.specs.Prelude.{List, None, Option, Some, []}

abbrev pub vars_called : List Value → Option ProgramDef → List Binding
vars_called args None = []
vars_called args (Some p) = vars_at_call p args

abbrev pub vars_placed : Cont → Option ProgramDef → List Binding
vars_placed c None = []
vars_placed c (Some p) = vars_at_cont p c

abbrev pub vars_going : List ProgramDef → Option Cont → List Binding
vars_going catalogue None = []
vars_going catalogue (Some c) = vars_placed c (program_named catalogue c.program)

abbrev pub vars_begun : List ProgramDef → List Cont → UnitKind → List Binding
vars_begun catalogue conts (Acid session) = []
vars_begun catalogue conts (Call session n args) = vars_called args (program_named catalogue n)
vars_begun catalogue conts (First session b n args) = vars_called args (program_named catalogue n)
vars_begun catalogue conts (Later b part) = vars_going catalogue (cont_named b conts)
