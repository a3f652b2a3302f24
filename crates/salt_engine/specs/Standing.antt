-- What an engine stands for: a state, over a storage that holds what that keeps; broken off, a point at which it can be opened.
use Rattle.salt_ast.specs.declared.programs.ProgramDef.{ProgramDef}
use Rattle.salt_ast.specs.declared.trees.TableDef.{TableDef}
use Rattle.salt_books.specs.Books.{AreBooks}
use Rattle.salt_books.specs.declared.books.Books.{Books}
use Rattle.salt_engine.specs.Flights.{IsInFlight}
use Rattle.salt_driver.specs.Devices.{OnDevices, on_devices}
use Rattle.salt_engine.specs.Stored.{IsAlone, IsLeft, IsNumbered, Stored}
use Rattle.salt_engine.specs.declared.flights.InFlight.{InFlight}
use Rattle.salt_engine.specs.declared.stage.Stage.TheVariants.{Down, Going, Lost}
use Rattle.salt_engine.specs.declared.stage.Stage.{Stage}
use Rattle.law_states.specs.OpenUnits.{UnitState}
use Rattle.law_states.specs.Points.{Point}
use Rattle.law_states.specs.States.{State}
use Rattle.law_states.specs.Watches.{empty_watch}
use Rattle.salt_model.specs.Kept.{Kept, programs_of, schema_of}
use Rattle.salt_model.specs.Next.{decision_in}
use Rattle.salt_model.specs.Phases as phases
use Rattle.salt_model.specs.Turns.{is_statement_line}
use Rattle.salt_model.specs.declared.events.Event.{Event}
use Rattle.salt_scheduler.specs.Standing as scheduling
use Rattle.salt_scheduler.specs.declared.follow.Follow.TheVariants.{Nothing}
use Rattle.salt_scheduler.specs.declared.follow.Follow.{Follow}
use Rattle.salt_scheduler.specs.declared.scheduler.Scheduler.{Scheduler}
use Rattle.salt_storage.specs.Writing.{ToWrite}
use Rattle.salt_storage.specs.Storing.{IsSoundKept}
use Rattle.salt_storage.specs.declared.found.Numbers.{Numbers}
use Rattle.salt_values.specs.declared.id.Id.{Id}
use Rattle.std.specs.Prelude.{Bool, IsSome, List, None, Option, Some, [], false, if◌then◌else◌, length, ℕ, ⊤, ◌+◌, ◌≡◌, ◌⊎◌}

-- THE STAGES. With the event at hand, which the half in memory has done, it stands for the state before that.

-- of a scheduler, lines are served
abbrev pub StandsAtEventIn : (holds : Kept → Type 0) (is_new : Id → Type 0) → Stage Scheduler → Option Event → State → Type 0
StandsAtEventIn holds is_new (Going x) None s = scheduling.StandsForState x s × Stored holds is_new s.units
StandsAtEventIn holds is_new (Going x) (Some e) s = (t : State) × scheduling.HasDoneEvent x e s t × Stored holds is_new t.units × (s.units.phase ≡ phases.Serving)
StandsAtEventIn holds is_new stage next s = ⊥

-- beside what is seen: whether stops can be armed, how the run began, whether the last line is one statement, and what is in flight, which is
-- the decision at hand
pub record AgreesWithState (sees : Option Event → State → Type 0) (stoppable single : Bool) (in_flight : Option InFlight) (next : Option Event) (s : State) : Type 0 where
  pub seen : sees next s
  pub can_stop : s.can_stop ≡ stoppable
  pub line : single ≡ is_statement_line s.units.line
  pub flies : IsInFlight in_flight (decision_in next) s.units

abbrev pub IsGoingStage : {H : Type 0} → Stage H → Type 0
IsGoingStage (Going x) = ⊤
IsGoingStage stage = ⊥

-- it goes on, and this holds of what goes on
abbrev pub GoesWith : {H : Type 0} → (H → Type 0) → Stage H → Type 0
GoesWith holds (Going x) = holds x
GoesWith holds stage = ⊥

-- it was broken off, and its books stay
abbrev pub IsBrokenStage : {H : Type 0} → Stage H → Type 0
IsBrokenStage (Down x) = ⊤
IsBrokenStage stage = ⊥

-- AN ENGINE is made behind a Ready.

-- a state behind a Ready, with these tables and programs, this boot and so many units begun in it, and this last decision
pub record IsReadyOver (numbers : Numbers) (ts : List TableDef) (ps : List ProgramDef) (b u : ℕ) (s : State) : Type 0 where
  pub schema : ts ≡ schema_of s.units.kept
  pub catalogue : ps ≡ programs_of s.units.kept
  pub boot : b ≡ s.units.kept.boot
  pub decisions : numbers.decisions ≡ s.units.kept.decisions
  pub begun : u ≡ s.units.unit_count
  pub units : s.units.units ≡ []
  pub bases : s.units.base_count ≡ 0
  pub conts : s.units.kept.conts ≡ []
  pub to_go : s.units.to_go ≡ []
  pub early : s.units.early ≡ false
  pub named : s.units.named ≡ []
  pub owes : s.units.owes ≡ false
  pub watch : s.watch ≡ empty_watch 0

-- lines are served from it on
abbrev pub ServesFrom : Stage Scheduler → State → Type 0
ServesFrom stage s = (x : Scheduler) × (stage ≡ Going x) × scheduling.StandsForState x s

-- BROKEN OFF.

-- the books that it has
abbrev pub books_in : {H : Type 0} → (H → Books) → Stage H → Option Books
books_in books (Going x) = Some (books x)
books_in books (Down x) = Some x
books_in books Lost = None

abbrev pub serving_books : Stage Scheduler → Option Books
serving_books stage = books_in scheduling.books_of stage

-- They have the units and know what is kept; an opening counts units and programs anew. To the programs of a `go all` it goes no more,
-- or as it went.
pub record KnowUnits (x : Books) (s : UnitState) : Type 0 where
  pub units : ℕ
  pub bases : ℕ
  pub goes : List Id
  pub are : AreBooks x (record s { unit_count = units; base_count = bases; to_go = goes })
  pub going : (goes ≡ []) ⊎ (goes ≡ s.to_go)

abbrev pub KnowsUnits : Option Books → UnitState → Type 0
KnowsUnits books s = (x : Books) × (books ≡ Some x) × KnowUnits x s

-- what a stop leaves of the devices stands for what is kept at this point, or, where a decision is in flight, for that with it; where it is
-- found which, for that
abbrev pub LeavesOnDevices : (holds : Kept → Type 0) (leaves : Kept → Kept → Type 0) → (doubt : Type 0) → (found : Option Numbers) → ℕ → Point → Type 0
LeavesOnDevices holds leaves doubt None room p = (a b : Kept) × leaves a b × IsLeft doubt room p a × IsLeft doubt room p b
LeavesOnDevices holds leaves doubt (Some numbers) room p = (k : Kept) × holds k × IsLeft doubt room p k × IsNumbered numbers k

-- it can be opened at this point
pub record CanReopenAt (holds : Kept → Type 0) (leaves : Kept → Kept → Type 0) (stoppable : Bool) (found : Option Numbers) (books : Option Books) (single : Bool)
    (in_flight : Option InFlight) (room : ℕ) (p : Point) : Type 0 where
  pub left : LeavesOnDevices holds leaves (IsSome in_flight) found room p
  pub knows : KnowsUnits books p.state.units
  pub sound : IsSoundKept p.state.units.kept
  pub can_stop : p.state.can_stop ≡ stoppable
  pub line : single ≡ is_statement_line p.state.units.line
  pub flies : IsInFlight in_flight p.flight p.state.units

-- what is so left on its devices; where numbers are told, they are its own
abbrev pub left_on_devices : (holds : Kept → Type 0) (leaves : Kept → Kept → Type 0) (rests : Kept → Type 0) (fills : ToWrite → ℕ → Type 0) (stoppable : Bool) (found : Option Numbers) (books : Option Books) (single : Bool)
    (in_flight : Option InFlight) → OnDevices
left_on_devices holds leaves rests fills stoppable found books single in_flight =
    on_devices (λ room p. CanReopenAt holds leaves stoppable found books single in_flight room p) (λ numbers room p. LeavesOnDevices holds leaves (IsSome in_flight) found room p × IsAlone rests numbers room p) fills

-- WHAT IS STILL TO COME.

-- what follows the event at hand
abbrev pub follow_in : Stage Scheduler → Follow
follow_in (Going x) = scheduling.follow_of x
follow_in stage = Nothing

-- the waiting units
abbrev pub waits_in : Stage Scheduler → List Id
waits_in (Going x) = scheduling.waiting_of x
waits_in stage = []

-- how many turns may still come behind the line: those of `go all`, and the one that is owed
abbrev pub turns_by : List Id → Bool → ℕ
turns_by bases owes = length bases + (if owes then 1 else 0)

abbrev pub turns_in : Stage Scheduler → ℕ
turns_in (Going x) = turns_by (scheduling.turns_of x) (scheduling.owes_in x)
turns_in stage = 0
