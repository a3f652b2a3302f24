-- What is to come is performed, over the half in memory that has chosen it; or it is broken off.
use Rattle.salt_ast.specs.declared.lines.Line.TheVariants.{Crash, Nothing}
use Rattle.salt_ast.specs.declared.lines.Line.{Line}
use Rattle.salt_books.specs.Books.{AreBooks}
use Rattle.salt_books.specs.Coming.{event_meant}
use Rattle.salt_books.specs.declared.books.Books.{Books}
use Rattle.salt_books.specs.declared.coming.Coming.TheVariants as coming
use Rattle.salt_books.specs.declared.coming.Coming.{Coming}
use Rattle.salt_disk.specs.Disks.{View}
use Rattle.salt_engine.specs.Flights.{IsInFlight}
use Rattle.salt_engine.specs.Standing.{GoesWith}
use Rattle.salt_engine.specs.Stored.{LeavesEither, Stored, kept_behind}
use Rattle.salt_engine.specs.declared.flights.InFlight.{InFlight}
use Rattle.salt_engine.specs.declared.stage.Stage.TheVariants.{Down, Going, Lost}
use Rattle.salt_engine.specs.declared.stage.Stage.{Stage}
use Rattle.law_states.specs.KeptWaits.{AreDistinct}
use Rattle.law_states.specs.Laws.{IsSound, is_of_run}
use Rattle.law_states.specs.Nexts.{asked_next, next_turn_of, turned_next}
use Rattle.law_states.specs.OpenUnits.{UnitState}
use Rattle.law_states.specs.Readings.{WatchReading, clash_by, items_by}
use Rattle.law_states.specs.States.{Keeps, State, asked_of, turned_to}
use Rattle.law_states.specs.Steps.{units_after}
use Rattle.law_states.specs.Told.{at_devices_in, line_in}
use Rattle.salt_model.specs.Kept.{Kept}
use Rattle.salt_model.specs.Next.{decision_in, next}
use Rattle.salt_model.specs.Phases as phases
use Rattle.salt_model.specs.Stops.{is_just_opened}
use Rattle.salt_model.specs.Trace.{Rejected, Trace, Tree, lines_asked, start_of}
use Rattle.salt_model.specs.Words.{Every}
use Rattle.salt_model.specs.declared.events.Event.TheVariants.{Armed, Defined, Refused}
use Rattle.salt_model.specs.declared.events.Event.{Event}
use Rattle.salt_model.specs.declared.events.Refusal.{Refusal}
use Rattle.salt_scheduler.specs.Standing as scheduling
use Rattle.salt_scheduler.specs.Standing.{ServesAllowed, ServesLine, behind_in}
use Rattle.salt_scheduler.specs.declared.scheduler.Scheduler.{Scheduler}
use Rattle.law_decisions.specs.Spelled.{IsSpelledLine}
use Rattle.salt_driver.specs.Writing.{IsWrittenBy}
use Rattle.salt_storage.specs.Staying.{Setup, StaysWithin}
use Rattle.salt_storage.specs.Writing.{ToWrite}
use Rattle.salt_storage.specs.declared.halt.Halt.TheVariants.{DeviceFull, Memory}
use Rattle.salt_storage.specs.declared.halt.Halt.{Halt}
use Rattle.law_types.specs.Played.{HasKey}
use Rattle.law_types.specs.Typed.{IsTyped}
use Rattle.salt_values.specs.declared.id.Id.{Id}
use Rattle.std.specs.Result.{MatchResult}
use Rattle.std.specs.Prelude.{Bool, Err, IsSome, None, Ok, Option, Result, Some, false, not, true, ◌&&◌, ℕ, ⊤, ◌≡◌, ◌≤◌, ◌⊎◌}

-- this comes next in a state of a played trace, of a typed start and over lines whose tables have keys
pub record IsPlayedBefore (comes : Option Event) (s : State) : Type 0 where
  pub trace : Trace
  pub keeps : Keeps s trace
  pub sound : IsSound trace
  pub typed : IsTyped (start_of trace).kept
  pub keyed : Every HasKey (lines_asked trace)
  pub next : next trace ≡ comes
  pub late : is_just_opened trace ≡ false

-- a refusal, a definition and stops that are armed are prepared before anything of a unit comes
abbrev pub is_prepared : Option Event → Bool
is_prepared (Some (Refused refusal)) = true
is_prepared (Some (Armed pairs)) = true
is_prepared (Some (Defined n text)) = true
is_prepared e = false

-- of a line behind what was prepared of it, whatever the disks tell: it is no such event, and neither a fall nor an opening
abbrev pub comes_plain : Option Event → Bool
comes_plain None = true
comes_plain (Some e) = not (is_of_run e) && not (is_prepared (Some e))

-- it holds what the state keeps; where the event is done already, that is what the event leaves too
abbrev pub StoredAt : (holds : Kept → Type 0) (is_new : Id → Type 0) → Coming → State → Type 0
StoredAt holds is_new (coming.Told e) s = Stored holds is_new (units_after e s.units)
StoredAt holds is_new c s = Stored holds is_new s.units

-- a scheduler is ready for what follows in a line, which is no preparation
pub record IsToServe (holds : Kept → Type 0) (is_new : Id → Type 0) (x : Scheduler) (c : Coming) (s : State) : Type 0 where
  pub played : IsPlayedBefore (event_meant s.units c) s
  pub serves : s.units.phase ≡ phases.Serving
  pub plain : is_prepared (event_meant s.units c) ≡ false
  pub ready : scheduling.IsReady x s c
  pub stored : StoredAt holds is_new c s

-- an event that defines something
abbrev pub DefinesSomething : Event → Type 0
DefinesSomething (Defined n text) = ⊤
DefinesSomething e = ⊥

-- so is the scheduler in a stage
abbrev pub IsToServeIn : (holds : Kept → Type 0) (is_new : Id → Type 0) → Stage Scheduler → Coming → State → Type 0
IsToServeIn holds is_new stage c s = GoesWith (λ (x : Scheduler). IsToServe holds is_new x c s) stage

-- a scheduler stands for a state behind an event in a line, and what comes behind that comes next
pub record GoesOnServing (holds : Kept → Type 0) (is_new : Id → Type 0) (line : Line) (x : Scheduler) (s : State) : Type 0 where
  pub played : (r : WatchReading s.watch) → IsPlayedBefore (behind_in s r (scheduling.follow_of x)) s
  pub serves : ServesLine line s
  pub stands : scheduling.StandsBehindEvent x s
  pub stored : Stored holds is_new s.units

abbrev pub GoesOnServingIn : (holds : Kept → Type 0) (is_new : Id → Type 0) → Line → Stage Scheduler → State → Type 0
GoesOnServingIn holds is_new line stage s = GoesWith (λ (x : Scheduler). GoesOnServing holds is_new line x s) stage

-- a program is to have its turn
pub record TurnsTo (line : Line) (base : Id) (x : Scheduler) (s : State) : Type 0 where
  pub turn : next_turn_of s ≡ Some base
  pub serves : ServesLine line (turned_to base s)
  pub stands : scheduling.StandsForState x s

-- and what that brings comes next
pub record Turns (holds : Kept → Type 0) (is_new : Id → Type 0) (line : Line) (base : Id) (x : Scheduler) (s : State) : Type 0 where
  pub turns : TurnsTo line base x s
  pub played : (r : WatchReading s.watch) → IsPlayedBefore (turned_next s r base) (turned_to base s)
  pub stored : Stored holds is_new s.units

abbrev pub TurnsIn : (holds : Kept → Type 0) (is_new : Id → Type 0) → Line → Id → Stage Scheduler → State → Type 0
TurnsIn holds is_new line base stage s = GoesWith (λ (x : Scheduler). Turns holds is_new line base x s) stage

-- the lines that an engine can be asked: a definition is spelled by a text, and stops leave one of the images that there are
abbrev pub IsServed : Line → Type 0
IsServed (Crash pairs) = Every (λ (p : ℕ × ℕ). p.1 ≤ 4) pairs
IsServed line = IsSpelledLine line

-- a line has been asked that is not refused, and its first event comes next
pub record AsksLine (holds : Kept → Type 0) (is_new : Id → Type 0) (stoppable : Bool) (line : Line) (x : Scheduler) (s : State) : Type 0 where
  pub played : (r : WatchReading s.watch) → IsPlayedBefore (line_in s.units (clash_by s) (items_by s r) line) s
  pub allowed : ServesAllowed line s
  pub stands : scheduling.StandsForState x s
  pub stored : Stored holds is_new s.units
  pub served : IsServed line
  pub can_stop : s.can_stop ≡ stoppable

abbrev pub AsksLineIn : (holds : Kept → Type 0) (is_new : Id → Type 0) → Bool → Line → Stage Scheduler → State → Type 0
AsksLineIn holds is_new stoppable line stage s = GoesWith (λ (x : Scheduler). AsksLine holds is_new stoppable line x s) stage

-- before it is asked, and may be refused
pub record IsToAsk (holds : Kept → Type 0) (is_new : Id → Type 0) (stoppable : Bool) (line : Line) (x : Scheduler) (s : State) : Type 0 where
  pub played : (r : WatchReading s.watch) → IsPlayedBefore (asked_next s r (Tree line)) (asked_of (Tree line) s)
  pub distinct : AreDistinct s.watch.programs
  pub serves : ServesLine line (asked_of (Tree line) s)
  pub stands : scheduling.StandsForState x s
  pub stored : Stored holds is_new s.units
  pub served : IsServed line
  pub can_stop : s.can_stop ≡ stoppable

abbrev pub IsToAskIn : (holds : Kept → Type 0) (is_new : Id → Type 0) → Bool → Line → Stage Scheduler → State → Type 0
IsToAskIn holds is_new stoppable line stage s = GoesWith (λ (x : Scheduler). IsToAsk holds is_new stoppable line x s) stage

-- the event that was meant is given, and the engine has done it; a decision is in flight until it is told
pub record PerformsEvent (seen : Option Event → State → Type 0) (in_flight : Option InFlight) (meant given : Option Event) (s : State) : Type 0 where
  pub told : given ≡ meant
  pub sees : seen given s
  pub flies : IsInFlight in_flight (decision_in given) s.units

-- The storage halted: what was to come is at the devices, and a full device is told by what was to be written of it; the books are
-- those of the state, and what is in flight is known.
pub record IsHalted {H : Type 0} (fills : ToWrite → ℕ → Type 0) (halt : Halt) (stage : Stage H) (in_flight : Option InFlight) (meant : Option Event)
    (s : UnitState) : Type 0 where
  pub event : Event
  pub is : meant ≡ Some event
  pub other : halt ≡ Memory → ⊥
  pub devices : at_devices_in s event ≡ true
  pub full : (dev : ℕ) → halt ≡ DeviceFull dev → (w : ToWrite) × IsWrittenBy s (Some event) w × fills w dev
  pub books : Books
  pub there : stage ≡ Down books
  pub are : AreBooks books s
  pub flies : IsInFlight in_flight (decision_in meant) s

-- memory ran out: what was asked by then is known
pub record IsLost {H : Type 0} (stage : Stage H) (in_flight : Option InFlight) (meant : Option Event) (s : UnitState) : Type 0 where
  pub there : stage ≡ Lost
  pub flies : (in_flight ≡ None) ⊎ IsInFlight in_flight (decision_in meant) s

-- or memory ran out; either way a stop leaves what is kept, or, where the decision that was to come was asked, that with it
pub record BreaksOff {H : Type 0} (leaves : Kept → Kept → Type 0) (fills : ToWrite → ℕ → Type 0) (halt : Halt) (stage : Stage H) (in_flight : Option InFlight)
    (meant : Option Event) (s : UnitState) : Type 0 where
  pub left : LeavesEither leaves (IsSome in_flight) s.kept (kept_behind (decision_in meant) s)
  pub how : ((halt ≡ Memory) × IsLost stage in_flight meant s) ⊎ IsHalted fills halt stage in_flight meant s

-- by what the storage answered: unless memory ran out, these books stay
abbrev pub WasBroken : {H : Type 0} → Halt → Books → Stage H → Type 0
WasBroken halt books stage = ((halt ≡ Memory) × (stage ≡ Lost)) ⊎ ((halt ≡ Memory → ⊥) × (stage ≡ Down books))

-- a stage that is broken off by a halt: unless memory ran out, its books stay
abbrev pub broken_by : Halt → Stage Scheduler → Stage Scheduler
broken_by Memory stage = Lost
broken_by halt (Going x) = Down (scheduling.books_of x)
broken_by halt stage = stage

-- the stage behind a move: where that halted, it is broken off
abbrev pub stage_behind : {T : Type 0} → Result T Halt → Stage Scheduler → Stage Scheduler
stage_behind (Ok x) stage = stage
stage_behind (Err halt) stage = broken_by halt stage

-- How it comes out: what was meant is given, and done; or it is broken off.
abbrev pub ComesOut : {H T : Type 0} → (given : T → Option Event) (seen : Option Event → State → Type 0) (leaves : Kept → Kept → Type 0) (fills : ToWrite → ℕ → Type 0) → Stage H →
    Option InFlight → (meant : Option Event) → State → Result T Halt → Type 0
ComesOut given seen leaves fills stage in_flight meant s result =
    MatchResult result (λ x. PerformsEvent seen in_flight meant (given x) s) (λ halt. BreaksOff leaves fills halt stage in_flight meant s.units)

-- No call changes these: what is noted beside the stage, the shape that the storage is asked for, and devices that are not of it.
pub record Stays {A : Type 0} (before now : A) (was is : Setup) (old new : View) : Type 0 where
  pub noted : now ≡ before
  pub within : StaysWithin was is old new

-- a line whose text is refused is asked, and its refusal has been told
abbrev pub Rejects : Refusal → (old new : Scheduler) → Event → Type 0
Rejects refusal old new e = (s : State) (r : WatchReading s.watch) → scheduling.StandsForState old s → ServesLine Nothing (asked_of (Rejected refusal) s) →
    scheduling.AnswersWith (asked_of (Rejected refusal) s) (Some (Refused refusal)) new (Some e)
