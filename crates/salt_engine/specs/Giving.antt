-- What is to come, and what a storage gives for it.
use Rattle.salt_books.specs.Books.{AreBooks, AreLoaded, HaveUnit, tables_in}
use Rattle.salt_books.specs.Coming.{CanCome, IsLaterUnit, event_meant}
use Rattle.salt_books.specs.Moves.{MovesTo}
use Rattle.salt_books.specs.Sound.{IsSoundState}
use Rattle.salt_books.specs.declared.asking.Asking.{Asking}
use Rattle.salt_books.specs.declared.books.Books.{Books}
use Rattle.salt_books.specs.declared.coming.Coming.TheVariants as coming
use Rattle.salt_books.specs.declared.coming.Coming.{Coming}
use Rattle.salt_disk.specs.Disks.{View}
use Rattle.salt_engine.specs.Deciding.{LeavesEventUndone}
use Rattle.salt_engine.specs.Flights.{IsInFlight}
use Rattle.salt_engine.specs.Netted.{net_after}
use Rattle.salt_engine.specs.Performing.{IsPlayedBefore, StoredAt, is_prepared}
use Rattle.salt_engine.specs.Stored.{Stored, kept_behind}
use Rattle.salt_engine.specs.declared.flights.InFlight.{InFlight}
use Rattle.salt_engine.specs.declared.given.Given.TheVariants.{Branched, Committed, Nothing, Rows, Told}
use Rattle.salt_engine.specs.declared.given.Given.{Given}
use Rattle.salt_eval.specs.Scans.{IsKeyed}
use Rattle.law_states.specs.Laws.{is_of_run}
use Rattle.law_states.specs.OpenUnits.{OpenUnit, UnitState, unit_named}
use Rattle.law_states.specs.States.{State}
use Rattle.law_states.specs.Steps.{units_after}
use Rattle.law_states.specs.Told.{next_decision_number}
use Rattle.salt_model.specs.Kept.{Kept, conts_branched, conts_committed, schema_of}
use Rattle.salt_model.specs.Next.{decision_in}
use Rattle.salt_model.specs.Tables.{Tables}
use Rattle.salt_model.specs.declared.events.Event.{Event}
use Rattle.salt_net.specs.Turns.{Turning}
use Rattle.salt_scheduler.specs.Standing as scheduling
use Rattle.salt_scheduler.specs.declared.scheduler.Scheduler.{Scheduler}
use Rattle.salt_storage.specs.Staying.{Setup}
use Rattle.salt_storage.specs.Writing.{ToWrite}
use Rattle.salt_storage.specs.declared.halt.Halt.{Halt}
use Rattle.salt_units.specs.Acting.{leaves_keys}
use Rattle.salt_values.specs.declared.id.Id.{Id}
use Rattle.std.specs.Prelude.{None, Option, Some, false, true, ℕ, ⊤, ◌≡◌}

-- WHATEVER THE DISKS TELL, it can be done over these books: its unit is open, and its statement sets no key

abbrev pub CanBeDone : Books → Coming → Type 0
CanBeDone x (coming.Act a) = HaveUnit x a.unit × (leaves_keys (tables_in x) a.statement ≡ true)
CanBeDone x (coming.Commit u) = HaveUnit x u
CanBeDone x (coming.Branch u b cause) = HaveUnit x u
CanBeDone x c = ⊤

-- and so it can with what was given for it
abbrev pub CanTake : Books → Given → Type 0
CanTake x (Rows a rows) = HaveUnit x a.unit × (leaves_keys (tables_in x) a.statement ≡ true) × IsKeyed rows
CanTake x (Committed u m n) = HaveUnit x u
CanTake x (Branched u b cause m n) = HaveUnit x u
CanTake x g = ⊤

-- BEFORE it

-- the books are those of the units, and it can come; for an event that is done no decision is needed
abbrev pub CanBeAsked : Books → Coming → State → Type 0
CanBeAsked x coming.Nothing s = ⊤
CanBeAsked x (coming.Told e) s = (is_of_run e ≡ false) × (decision_in (Some e) ≡ None)
CanBeAsked x c s = AreBooks x s.units × CanCome c s.units

-- books and a storage before what is to come
pub record AsksFor (holds : Kept → Type 0) (is_new : Id → Type 0) (x : Books) (c : Coming) (s : State) : Type 0 where
  pub played : IsPlayedBefore (event_meant s.units c) s
  pub plain : is_prepared (event_meant s.units c) ≡ false
  pub stored : StoredAt holds is_new c s
  pub can : CanBeAsked x c s

-- WHAT IS GIVEN

-- what it was given for
abbrev pub coming_of : Given → Coming
coming_of Nothing = coming.Nothing
coming_of (Told e) = coming.Told e
coming_of (Rows a rows) = coming.Act a
coming_of (Committed u m n) = coming.Commit u
coming_of (Branched u b cause m n) = coming.Branch u b cause

-- the rows in the reach of a statement, which leaves the keys of rows as they are
pub record AreRowsFor (a : Asking) (rows : Tables) (s : UnitState) : Type 0 where
  pub loaded : AreLoaded a.reach rows s.kept.tables
  pub keyed : IsKeyed rows
  pub leaves : leaves_keys (schema_of s.kept) a.statement ≡ true

-- it fits the units: the rows are those of the statement, the move is the one of the unit's end, and the number that of the next decision
abbrev pub FitsUnits : Given → UnitState → Type 0
FitsUnits (Rows a rows) s = AreRowsFor a rows s
FitsUnits (Committed u m n) s =
    (o : OpenUnit) × (unit_named u s.units ≡ Some o) × MovesTo m s.kept (conts_committed s.kept (next_decision_number s) o.kind o.vars) × (n ≡ next_decision_number s)
FitsUnits (Branched u b cause m n) s = (later : IsLaterUnit s u b) × MovesTo m s.kept (conts_branched s.kept later.unit.kind) × (n ≡ next_decision_number s)
FitsUnits g s = ⊤

-- the units behind what comes next
abbrev pub units_behind : Option Event → UnitState → UnitState
units_behind None s = s
units_behind (Some e) s = units_after e s

-- it is given, and the storage holds what is kept behind what is to come; a decision is in flight
pub record IsGiven (holds : Kept → Type 0) (is_new : Id → Type 0) (in_flight : Option InFlight) (c : Coming) (g : Given) (s : State) : Type 0 where
  pub same : coming_of g ≡ c
  pub fits : FitsUnits g s.units
  pub stored : Stored holds is_new (units_behind (event_meant s.units c) s.units)
  pub kept : (units_behind (event_meant s.units c) s.units).kept ≡ kept_behind (decision_in (event_meant s.units c)) s.units
  pub flies : IsInFlight in_flight (decision_in (event_meant s.units c)) s.units

-- WHAT IS NOT: the event that was to come is undone, with these books; if it is a decision, it is in flight
pub record IsUndone (leaves : Kept → Kept → Type 0) (fills : ToWrite → ℕ → Type 0) (halt : Halt) (x : Books) (in_flight : Option InFlight) (meant : Option Event)
    (s : UnitState) : Type 0 where
  pub event : Event
  pub is : meant ≡ Some event
  pub undone : LeavesEventUndone leaves fills halt s event
  pub kept : (units_after event s).kept ≡ kept_behind (decision_in (Some event)) s
  pub flies : IsInFlight in_flight (decision_in (Some event)) s
  pub books : AreBooks x s

-- a scheduler is ready for what is to come, and what was given for that fits
pub record CanTakeUp (x : Scheduler) (g : Given) (s : State) : Type 0 where
  pub ready : scheduling.IsReady x s (coming_of g)
  pub fits : FitsUnits g s.units
  pub sound : IsSoundState s

-- OVER A STORAGE and its devices: `holds`, `is_new`, `leaves`, `fills`, `asked` and `net` are those of the storage

module _ {S : Type 0} (holds : View → S → Kept → Type 0) (is_new : View → S → Id → Type 0) where
  abbrev pub AsksForOver : View → S → Books → Coming → State → Type 0
  AsksForOver d x books coming s = AsksFor (holds d x) (is_new d x) books coming s

  -- it is given
  abbrev pub Provides : (d e : View) (x y : S) → Books → Option InFlight → Coming → Given → Type 0
  Provides d e x y books in_flight coming given = (s : State) → AsksFor (holds d x) (is_new d x) books coming s → IsGiven (holds e y) (is_new e y) in_flight coming given s

  -- or not
  abbrev pub LeavesUngiven : (leaves : View → S → Kept → Kept → Type 0) (fills : View → S → ToWrite → ℕ → Type 0) → (d e : View) (x y : S) → Books → Option InFlight → Coming → Halt → Type 0
  LeavesUngiven leaves fills d e x y books in_flight coming halt = (s : State) → AsksFor (holds d x) (is_new d x) books coming s →
      IsUndone (leaves e y) (fills e y) halt books in_flight (event_meant s.units coming) s.units

  -- what is sent then
  abbrev pub SendsGiven : (asked : S → Setup) (net : S → Option Turning) → View → (x y : S) → Books → Coming → Type 0
  SendsGiven asked net d x y books coming = (s : State) → AsksFor (holds d x) (is_new d x) books coming s → net y ≡ net_after (asked x) (event_meant s.units coming) s.units (net x)
