-- What the storage holds is found, and a boot begins over it.
use Rattle.salt_ast.specs.declared.lines.Line.{Line}
use Rattle.salt_books.specs.Books.{AreBooks, HaveUnit, programs_in, tables_in}
use Rattle.salt_books.specs.declared.books.Books.{Books}
use Rattle.salt_engine.specs.Flights.{IsInFlight}
use Rattle.salt_engine.specs.Standing.{KnowUnits}
use Rattle.salt_engine.specs.Stored.{IsEither, IsNumbered}
use Rattle.salt_engine.specs.declared.flights.InFlight.TheVariants.{Branch, Commit, Program, Table}
use Rattle.salt_engine.specs.declared.flights.InFlight.{InFlight}
use Rattle.salt_engine.specs.declared.stage.Stage.{Stage}
use Rattle.salt_engine.specs.declared.stage.Stage.TheVariants.{Down, Going}
use Rattle.law_states.specs.Follows.{opened_in}
use Rattle.law_states.specs.Laws.{IsSound}
use Rattle.law_states.specs.OpenUnits.{UnitState}
use Rattle.law_states.specs.States.{After, Keeps, State}
use Rattle.salt_model.specs.Kept.{Kept}
use Rattle.salt_model.specs.Next.{decision_in}
use Rattle.salt_model.specs.Phases.{Phase}
use Rattle.salt_model.specs.Trace.{Trace, ◌says◌}
use Rattle.salt_model.specs.Turns.{is_statement_line}
use Rattle.salt_model.specs.declared.events.Event.{Event}
use Rattle.salt_model.specs.declared.events.Event.TheVariants.{Opened}
use Rattle.salt_drain.specs.Follows.{rest_in}
use Rattle.salt_drain.specs.Recovering as recovering
use Rattle.salt_drain.specs.declared.recovery.Recovery.{Recovery}
use Rattle.salt_program.specs.Refusals.{parts_in, program_refusal}
use Rattle.salt_schema.specs.Refusals.{table_refusal}
use Rattle.salt_storage.specs.Storing.{IsSoundKept}
use Rattle.salt_storage.specs.declared.found.Numbers.{Numbers}
use Rattle.std.specs.Prelude.{Bool, IsSome, None, Option, Some, [], false, length, true, ℕ, ⊤, ◌+◌, ◌<◌, ◌^◌, ◌≡◌, ◌⊎◌}

-- nothing is open over what is kept; openings may be early, or not
abbrev pub HaveNothingOpen : Bool → Books → Kept → Type 0
HaveNothingOpen early x k = (phase : Phase) (line : Line) → AreBooks x (record {
  kept = k;
  phase = phase;
  line = line;
  to_go = [];
  early = early;
  named = [];
  owes = false;
  units = [];
  unit_count = 0;
  base_count = 0;
})

-- so it stands over what is kept
pub record IsTakenOn (early : Bool) (k : Kept) (found : Option Numbers) (stage : Stage Recovery) : Type 0 where
  pub books : Books
  pub numbers : Numbers
  pub is : found ≡ Some numbers
  pub there : stage ≡ Down books
  pub fresh : HaveNothingOpen early books k
  pub numbered : IsNumbered numbers k

-- and was asked nothing yet
pub record IsNew (early : Bool) (k : Kept) (found : Option Numbers) (stage : Stage Recovery) (single : Bool) (in_flight : Option InFlight) : Type 0 where
  pub taken : IsTakenOn early k found stage
  pub line : single ≡ false
  pub none : in_flight ≡ None

-- behind a fall: the one or the other is held, and the books stay
pub record IsFoundAgain (holds : Kept → Type 0) (books : Books) (a b : Kept) (found : Option Numbers) (stage : Stage Recovery) : Type 0 where
  pub kept : Kept
  pub numbers : Numbers
  pub either : IsEither a b kept
  pub holding : holds kept
  pub is : found ≡ Some numbers
  pub there : stage ≡ Down books
  pub numbered : IsNumbered numbers kept

-- A boot has begun over a run that is down: the state behind its Opened, where the decision in flight stands if its number is told.
pub record IsOpenedBy (x : Books) (single : Bool) (in_flight : Option InFlight) (flight : Option Event) (boot number : ℕ) (old new : State) : Type 0 where
  pub knows : KnowUnits x old.units
  pub going : old.units.to_go ≡ []
  pub line : single ≡ is_statement_line old.units.line
  pub flies : IsInFlight in_flight flight old.units
  pub stands_for : (number ≡ old.units.kept.decisions) ⊎ (IsSome flight × (number ≡ old.units.kept.decisions + 1))
  pub after : After (Opened boot number) old new
  pub trace : Trace
  pub keeps : Keeps new (trace says Opened boot number)
  pub sound : IsSound (trace says Opened boot number)
  pub may_be_kept : IsSoundKept old.units.kept
  pub above : old.units.kept.boot < boot

-- whatever the disks tell, what was in flight can be told over these books: its unit is open, or what it defines is not refused
abbrev pub CanFly : Books → Option InFlight → Type 0
CanFly x (Some (Commit u)) = HaveUnit x u
CanFly x (Some (Branch u b cause)) = HaveUnit x u
CanFly x (Some (Table d text)) = table_refusal (tables_in x) d ≡ None
CanFly x (Some (Program p text)) = (length (parts_in p.body) < 2 ^ 32) × (program_refusal (tables_in x) (programs_in x) p ≡ None)
CanFly x None = ⊤

-- a recovery in an opening of what may be kept
pub record Rests (x : Recovery) (s : State) : Type 0 where
  pub stands : recovering.StandsForState x s
  pub recovers : recovering.IsRecovering s
  pub sound : IsSoundKept s.units.kept
  pub comes : IsSome (rest_in s.units)

-- with this event in flight
pub record Flies (x : Recovery) (in_flight : InFlight) (e : Event) (s : State) : Type 0 where
  pub rests : Rests x s
  pub flies : IsInFlight (Some in_flight) (Some e) s.units

-- or none
pub record RestsOrFlies (x : Recovery) (in_flight : Option InFlight) (flight : Option Event) (s : State) : Type 0 where
  pub rests : Rests x s
  pub flies : IsInFlight in_flight flight s.units

-- what comes first: the decision in flight, where it stands; else a cut, a program, or the end of the opening
abbrev pub first_in : Bool → Option Event → UnitState → Option Event
first_in true (Some e) s = Some e
first_in later flight s = rest_in s

-- the first event behind an Opened is given, and the recovery has done it
abbrev pub BeginsOpening : Option Event → ℕ → State → Recovery → Event → Type 0
BeginsOpening flight number new x e = recovering.AnswersWith new (opened_in new.units number flight) x (Some e)

-- so it is in an opening; the decision that was in flight still is where it is at hand
pub record IsOpeningWith (flight : Option Event) (number : ℕ) (new : State) (stage : Stage Recovery) (in_flight : Option InFlight) (e : Event) : Type 0 where
  pub recovery : Recovery
  pub there : stage ≡ Going recovery
  pub begins : BeginsOpening flight number new recovery e
  pub flies : IsInFlight in_flight (decision_in (Some e)) new.units
