-- What was asked of the storage where an engine was broken off.
use Rattle.salt_ast.specs.ProgramTexts.{program_text}
use Rattle.salt_ast.specs.Texts.{table_text}
use Rattle.salt_ast.specs.declared.lines.Line.TheVariants as line
use Rattle.salt_ast.specs.declared.lines.Line.{Line}
use Rattle.salt_ast.specs.declared.programs.ProgramDef.{ProgramDef}
use Rattle.salt_ast.specs.declared.trees.TableDef.{TableDef}
use Rattle.salt_books.specs.Coming.{IsLaterUnit}
use Rattle.salt_engine.specs.Deciding.{branches_in}
use Rattle.salt_engine.specs.declared.flights.InFlight.TheVariants.{Branch, Commit, Program, Table}
use Rattle.salt_engine.specs.declared.flights.InFlight.{InFlight}
use Rattle.law_states.specs.OpenUnits.{OpenUnit, UnitState, unit_named}
use Rattle.law_states.specs.Told.{commits_in, next_decision_number}
use Rattle.salt_model.specs.Kept.{programs_of, schema_of}
use Rattle.salt_model.specs.declared.events.Event.TheVariants.{Defined}
use Rattle.salt_model.specs.declared.events.Event.{Event}
use Rattle.salt_model.specs.declared.events.Flight.TheVariants as flight
use Rattle.salt_model.specs.declared.events.Flight.{Flight}
use Rattle.salt_program.specs.Refusals.{parts_in, program_refusal}
use Rattle.salt_schema.specs.Refusals.{table_refusal}
use Rattle.std.specs.Prelude.{List, None, Option, Some, [], length, option_map, ℕ, ◌<◌, ◌^◌, ◌≡◌}

-- what is told of it
abbrev pub told_of : InFlight → Flight
told_of (Commit u) = flight.Unit u
told_of (Branch u b cause) = flight.Unit u
told_of (Table d text) = flight.Definition text
told_of (Program p text) = flight.Definition text

abbrev pub flight_of : Option InFlight → Option Flight
flight_of f = option_map told_of f

-- what a line asks of the storage that defines something, by its canonical text
abbrev pub definition_of : Line → Option InFlight
definition_of (line.Table d) = Some (Table d (table_text d))
definition_of (line.Program p) = Some (Program p (program_text p))
definition_of l = None

abbrev pub text_of : InFlight → List ℕ
text_of (Table d text) = text
text_of (Program p text) = text
text_of f = []

-- a table, and a program, of the last line that may be defined
pub record IsTableToCome (s : UnitState) (d : TableDef) : Type 0 where
  pub line : s.line ≡ line.Table d
  pub allowed : table_refusal (schema_of s.kept) d ≡ None

pub record IsProgramToCome (s : UnitState) (p : ProgramDef) : Type 0 where
  pub line : s.line ≡ line.Program p
  pub allowed : program_refusal (schema_of s.kept) (programs_of s.kept) p ≡ None
  pub few : length (parts_in p.body) < 2 ^ 32

-- it is the event that is in flight in a state
abbrev pub IsInFlight : Option InFlight → Option Event → UnitState → Type 0
IsInFlight None e s = e ≡ None
IsInFlight (Some (Commit u)) e s = (o : OpenUnit) × (unit_named u s.units ≡ Some o) × (e ≡ Some (commits_in s o))
IsInFlight (Some (Branch u b cause)) e s = IsLaterUnit s u b × (e ≡ Some (branches_in s u cause))
IsInFlight (Some (Table d text)) e s = IsTableToCome s d × (text ≡ table_text d) × (e ≡ Some (Defined (next_decision_number s) text))
IsInFlight (Some (Program p text)) e s = IsProgramToCome s p × (text ≡ program_text p) × (e ≡ Some (Defined (next_decision_number s) text))
