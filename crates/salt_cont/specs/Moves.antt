-- Where a program goes on from where its continuation stands.
use Rattle.salt_ast.specs.Paths.{Position, next_on_commit, next_on_failure}
use Rattle.salt_ast.specs.ProgramJudgement.{branch_fault, program_named}
use Rattle.salt_ast.specs.declared.programs.Body.TheVariants as body
use Rattle.salt_ast.specs.declared.programs.PartDef.{PartDef}
use Rattle.salt_ast.specs.declared.programs.ProgramDef.{ProgramDef}
use Rattle.salt_cont.specs.declared.places.Place.{Place}
use Rattle.salt_bytes.specs.declared.moves.Move.TheVariants as move
use Rattle.salt_bytes.specs.declared.moves.Move.{Move}
use Rattle.salt_program.specs.Refusals.{parts_in}
use Rattle.salt_values.specs.declared.cont.Cont.{Cont}
use Rattle.salt_values.specs.declared.value.Value.{Value}
use Rattle.std.specs.Prelude.{Bool, List, None, Option, Some, [], false, length, true, ℕ, ◌<◌, ◌^◌, ◌≡◌}

abbrev pub parts_if_defined : Option ProgramDef → List PartDef
parts_if_defined None = []
parts_if_defined (Some p) = parts_in p.body

-- the parts of the program of this name: none, where there is no such program or it is one ACID unit
abbrev pub parts_named : List ProgramDef → List ℕ → List PartDef
parts_named catalogue name = parts_if_defined (program_named catalogue name)

-- ways that lead to later parts or to the end, of parts whose numbers have 32 bits
pub record LeadOn (parts : List PartDef) : Type 0 where
  pub few : length parts < 2 ^ 32
  pub sound : branch_fault (body.Base parts) ≡ None

-- where the program stands
abbrev pub standing : Cont → Position
standing c = record { part = c.next; tries = c.tries }

abbrev pub position_meant : Place → Position
position_meant p = record { part = p.part; tries = p.tries }

-- where it goes on behind a failure, or a commit: none is the end
abbrev pub next_from : List PartDef → Cont → (failed : Bool) → Option Position
next_from parts c true = next_on_failure parts c.next c.tries
next_from parts c false = next_on_commit parts c.next

-- its variables behind a failure, which leaves them, or a commit
abbrev pub vars_behind : Cont → List Value → (failed : Bool) → List Value
vars_behind c vars true = c.vars
vars_behind c vars false = vars

abbrev pub with_place : Cont → List Value → Position → Cont
with_place c vars at = record c { vars = vars; next = at.part; tries = at.tries }

abbrev pub move_to : Cont → List Value → Option Position → Move
move_to c vars None = move.Finish c.base
move_to c vars (Some at) = move.Continue (with_place c vars at)

-- what a decided end of its part does to a continuation, where the unit leaves these variables
abbrev pub move_on : List ProgramDef → Cont → List Value → (failed : Bool) → Move
move_on catalogue c vars failed = move_to c (vars_behind c vars failed) (next_from (parts_named catalogue c.program) c failed)
