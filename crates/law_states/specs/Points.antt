-- Where a run stands: its state, what comes next, and what is in flight; and how a line, a turn and an event move it on.
use Rattle.law_states.specs.Laws.{is_of_run}
use Rattle.law_states.specs.Nexts.{asked_next, flight_next, next_turn_of, said_next, turned_next}
use Rattle.law_states.specs.PlainStates.{as_state, state_of}
use Rattle.law_states.specs.Readings.{WatchReading}
use Rattle.law_states.specs.States.{After, Keeps, State, asked_of, turned_to}
use Rattle.law_states.specs.Told.{at_devices_in}
use Rattle.salt_model.specs.Next.{decision_in, flight, next}
use Rattle.salt_model.specs.Phases.{Serving}
use Rattle.salt_model.specs.Trace.{Asked, Trace, ◌asks◌, ◌says◌, ◌turns◌}
use Rattle.salt_model.specs.declared.events.Event.{Event}
use Rattle.salt_model.specs.declared.events.Event.TheVariants.{Down}
use Rattle.salt_model.specs.declared.events.Why.{Why}
use Rattle.salt_values.specs.declared.id.Id.{Id}
use Rattle.std.specs.Prelude.{List, None, Option, Some, [], false, true, ◌∷◌, ◌≡◌}

pub record Point : Type 0 where
  pub state : State
  pub next : Option Event
  pub flight : Option Event

-- it is that of a trace
pub record KeepsPoint (p : Point) (trace : Trace) : Type 0 where
  pub state : Keeps p.state trace
  pub next : next trace ≡ p.next
  pub flight : flight trace ≡ p.flight

-- that of a trace, with its state by lists
abbrev pub point_of : Trace → Point
point_of trace = record { state = as_state (state_of trace); next = next trace; flight = flight trace }

-- nothing is missing of the segment
pub record IsIdle (p : Point) : Type 0 where
  pub serves : p.state.units.phase ≡ Serving
  pub next : p.next ≡ None
  pub turn : next_turn_of p.state ≡ None

-- a line is asked
pub record Asks (asked : Asked) (old new : Point) : Type 0 where
  pub idle : IsIdle old
  pub state : new.state ≡ asked_of asked old.state
  pub read : WatchReading old.state.watch
  pub next : new.next ≡ asked_next old.state read asked
  pub flight : new.flight ≡ decision_in new.next

-- `go all` turns to a program
pub record Turns (b : Id) (old new : Point) : Type 0 where
  pub serves : old.state.units.phase ≡ Serving
  pub none : old.next ≡ None
  pub turn : next_turn_of old.state ≡ Some b
  pub state : new.state ≡ turned_to b old.state
  pub read : WatchReading old.state.watch
  pub next : new.next ≡ turned_next old.state read b
  pub flight : new.flight ≡ decision_in new.next

-- what comes next is said
pub record Says (e : Event) (old new : Point) : Type 0 where
  pub comes : old.next ≡ Some e
  pub after : After e old.state new.state
  pub read : WatchReading new.state.watch
  pub next : new.next ≡ said_next e old.state new.state read old.flight
  pub flight : new.flight ≡ flight_next e old.flight new.next

pub data TraceStep : Type 0 where
  Ask : Asked → TraceStep
  Turn : Id → TraceStep
  Say : Event → TraceStep

abbrev pub Moves : TraceStep → Point → Point → Type 0
Moves (Ask asked) old new = Asks asked old new
Moves (Turn b) old new = Turns b old new
Moves (Say e) old new = Says e old new × (is_of_run e ≡ false)

-- one move after another
abbrev pub Runs : Point → List TraceStep → Point → Type 0
Runs p [] q = p ≡ q
Runs p (m ∷ ms) q = (mid : Point) × Moves m p mid × Runs mid ms q

abbrev pub stepped : Trace → TraceStep → Trace
stepped trace (Ask asked) = trace asks asked
stepped trace (Turn b) = trace turns b
stepped trace (Say e) = trace says e

-- the trace with these moves
abbrev pub trace_on : Trace → List TraceStep → Trace
trace_on trace [] = trace
trace_on trace (m ∷ ms) = trace_on (stepped trace m) ms

-- the events said
abbrev pub told_by : List TraceStep → List Event
told_by [] = []
told_by (Say e ∷ ms) = e ∷ told_by ms
told_by (m ∷ ms) = told_by ms

-- a stop or a fault where what comes next is at the devices, while serving
pub record Falls (why : Why) (old new : Point) : Type 0 where
  pub serves : old.state.units.phase ≡ Serving
  pub event : Event
  pub comes : old.next ≡ Some event
  pub devices : at_devices_in old.state.units event ≡ true
  pub after : After (Down why) old.state new.state
  pub next : new.next ≡ None
  pub flight : new.flight ≡ old.flight
