-- What is known behind an event, by what was known before it.
use Rattle.law_definitions.specs.Texts.{definition_in}
use Rattle.salt_ast.specs.Paths.{Position, next_on_commit, next_on_failure}
use Rattle.salt_ast.specs.ProgramJudgement.{program_named}
use Rattle.salt_ast.specs.declared.programs.ProgramDef.{ProgramDef}
use Rattle.salt_ast.specs.declared.trees.Statement.{Statement}
use Rattle.salt_ast.specs.declared.trees.TableDef.{TableDef}
use Rattle.salt_audit.specs.Standing.{begun_in, cont_named}
use Rattle.salt_audit.specs.declared.state.Begun.{Begun}
use Rattle.salt_audit.specs.declared.state.State.{State}
use Rattle.salt_cont.specs.Move.TheVariants.{Continue}
use Rattle.salt_cont.specs.Move.{Move}
use Rattle.salt_model.specs.Kept.{Definition, OfProgram, OfTable, begun_cont, block_of_call, block_of_part, moved, parts_of}
use Rattle.salt_model.specs.Units.{program_of_kind}
use Rattle.salt_model.specs.declared.events.End.TheVariants.{Branched, Committed}
use Rattle.salt_model.specs.declared.events.End.{End}
use Rattle.salt_model.specs.declared.events.Event.TheVariants.{Accepted, Armed, Began, Defined, Did, Down, Early, Ended, Finished, Opened, Ready, Refused, Released, Shown, Waits}
use Rattle.salt_model.specs.declared.events.Event.{Event}
use Rattle.salt_model.specs.declared.events.UnitKind.TheVariants.{Acid, Call, First, Later}
use Rattle.salt_model.specs.declared.events.UnitKind.{UnitKind}
use Rattle.salt_values.specs.Id.{is_same_id}
use Rattle.salt_values.specs.declared.cont.Cont.{Cont}
use Rattle.salt_values.specs.declared.id.Id.{Id}
use Rattle.salt_values.specs.declared.value.Value.{Value}
use Rattle.std.specs.Prelude.{Bool, List, None, Option, Some, [], false, if◌then◌else◌, option_and_then, option_map, true, ℕ, ◌+◌, ◌++◌, ◌∷◌, ◌≡◌}

abbrev pub opened_by : Event → Bool → Bool
opened_by (Opened boot n) opened = true
opened_by e opened = opened

-- DEFINITIONS

abbrev pub with_table : Option Definition → List TableDef → List TableDef
with_table None schema = schema
with_table (Some (OfTable d)) schema = schema ++ d ∷ []
with_table (Some (OfProgram p)) schema = schema

abbrev pub with_program : Option Definition → List ProgramDef → List ProgramDef
with_program None catalogue = catalogue
with_program (Some (OfTable d)) catalogue = catalogue
with_program (Some (OfProgram p)) catalogue = catalogue ++ p ∷ []

abbrev pub schema_by : Event → List TableDef → List TableDef
schema_by (Defined n text) schema = with_table (definition_in text) schema
schema_by e schema = schema

abbrev pub programs_by : Event → List ProgramDef → List ProgramDef
programs_by (Defined n text) catalogue = with_program (definition_in text) catalogue
programs_by e catalogue = catalogue

-- PROGRAMS

abbrev pub with_base : Option Id → List Id → List Id
with_base None bases = bases
with_base (Some b) bases = bases ++ b ∷ []

abbrev pub bases_by : Event → List Id → List Id
bases_by (Began u kind) bases = with_base (program_of_kind kind) bases
bases_by e bases = bases

abbrev pub accepted_by : Event → List Id → List Id
accepted_by (Accepted b) bases = bases ++ b ∷ []
accepted_by e bases = bases

abbrev pub finished_by : Event → List Id → List Id
finished_by (Finished b) bases = bases ++ b ∷ []
finished_by e bases = bases

-- UNITS

-- the statements of a unit's program or part; a unit of a session has none
abbrev pub block_by : List ProgramDef → List Cont → UnitKind → Option (List Statement)
block_by catalogue conts (Acid session) = None
block_by catalogue conts (Call session n args) = option_map block_of_call (program_named catalogue n)
block_by catalogue conts (First session b n args) = option_map (λ p. block_of_part p 1) (program_named catalogue n)
block_by catalogue conts (Later b part) =
    option_and_then (λ (c : Cont). option_map (λ p. block_of_part p part) (program_named catalogue c.program)) (cont_named b conts)

abbrev pub begins_as : State → Id → UnitKind → Begun
begins_as s u kind = record { name = u; kind = kind; is_open = true; block = block_by s.catalogue s.conts kind; done = 0 }

abbrev pub one_more : Begun → Begun
one_more n = record n { done = n.done + 1 }

-- a unit that is over does no statement more
abbrev pub over : Begun → Begun
over n = record n { is_open = false; block = None }

abbrev pub unit_by : Event → State → Id → Option Begun
unit_by (Began v kind) s u = if is_same_id u v then Some (begins_as s v kind) else begun_in u s.units
unit_by (Did v st a) s u = if is_same_id u v then option_map one_more (begun_in u s.units) else begun_in u s.units
unit_by (Ended v end) s u = if is_same_id u v then option_map over (begun_in u s.units) else begun_in u s.units
unit_by e s u = begun_in u s.units

-- WHERE PROGRAMS GO ON: their variables are as they were, or none, until units are done again

abbrev pub first_by : Id → ℕ → List Value → Option ProgramDef → List Cont → List Cont
first_by b n args None cs = cs
first_by b n args (Some p) cs = begun_cont b n p args [] (next_on_commit (parts_of p) 1) cs

abbrev pub moved_by : Id → (ProgramDef → Option Position) → Option ProgramDef → List Cont → List Cont
moved_by b way None cs = cs
moved_by b way (Some p) cs = moved b (way p) (λ c. c) cs

-- the program that goes on
abbrev pub program_by : List ProgramDef → List Cont → Id → Option ProgramDef
program_by catalogue conts b = option_and_then (λ (c : Cont). program_named catalogue c.program) (cont_named b conts)

abbrev pub tries_of : Option Cont → ℕ
tries_of None = 0
tries_of (Some c) = c.tries

-- the way of a part behind its failure, with so many tries left, or behind its commit
abbrev pub way_behind : (failed : Bool) → (part tries : ℕ) → ProgramDef → Option Position
way_behind true part tries p = next_on_failure (parts_of p) part tries
way_behind false part tries p = next_on_commit (parts_of p) part

-- a later part has failed, or is committed
abbrev pub later_by : (failed : Bool) → List ProgramDef → Id → ℕ → List Cont → List Cont
later_by failed catalogue b part conts = moved_by b (way_behind failed part (tries_of (cont_named b conts))) (program_by catalogue conts b) conts

-- a program that goes on behind its first part is the last of those that do; one that ends there goes on nowhere
abbrev pub with_last : Move → List Cont → List Cont
with_last (Continue c) conts = conts ++ c ∷ []
with_last made conts = conts

abbrev pub committed_by : List ProgramDef → ℕ → UnitKind → List Cont → List Cont
committed_by catalogue n (Acid session) conts = conts
committed_by catalogue n (Call session name args) conts = conts
committed_by catalogue n (First session b name args) conts = first_by b n args (program_named catalogue name) conts
committed_by catalogue n (Later b part) conts = later_by false catalogue b part conts

abbrev pub branched_by : List ProgramDef → UnitKind → List Cont → List Cont
branched_by catalogue (Later b part) conts = later_by true catalogue b part conts
branched_by catalogue kind conts = conts

abbrev pub conts_ended : List ProgramDef → End → Option Begun → List Cont → List Cont
conts_ended catalogue (Committed n) (Some unit) conts = committed_by catalogue n unit.kind conts
conts_ended catalogue (Branched n c) (Some unit) conts = branched_by catalogue unit.kind conts
conts_ended catalogue end unit conts = conts

abbrev pub conts_by : Event → State → List Cont
conts_by (Ended u end) s = conts_ended s.catalogue end (begun_in u s.units) s.conts
conts_by e s = s.conts

-- the event changes nothing of what is known
abbrev pub is_quiet : Event → Bool
is_quiet (Waits u owners) = true
is_quiet (Released bs) = true
is_quiet (Down why) = true
is_quiet Ready = true
is_quiet (Early bs) = true
is_quiet (Refused r) = true
is_quiet (Armed pairs) = true
is_quiet (Shown items) = true
is_quiet e = false

-- what is known behind the event
pub record IsBehind (s t : State) (e : Event) : Type 0 where
  pub opened : t.opened ≡ opened_by e s.opened
  pub schema : t.schema ≡ schema_by e s.schema
  pub programs : t.catalogue ≡ programs_by e s.catalogue
  pub conts : t.conts ≡ conts_by e s
  pub units : (u : Id) → begun_in u t.units ≡ unit_by e s u
  pub bases : t.bases ≡ bases_by e s.bases
  pub accepted : t.accepted ≡ accepted_by e s.accepted
  pub finished : t.finished ≡ finished_by e s.finished
