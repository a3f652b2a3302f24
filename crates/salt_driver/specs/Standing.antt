-- An engine stands at a point of a run, with what comes next at hand, and goes on from it by moves that its story tells.
use Rattle.salt_ast.specs.declared.lines.Line.{Line}
use Rattle.law_states.specs.Laws.{IsSound, is_of_run}
use Rattle.law_states.specs.Points.{Ask, IsIdle, KeepsPoint, TraceStep, Moves, Point, Runs, Say, told_by}
use Rattle.law_states.specs.Settling.{stage}
use Rattle.law_states.specs.States.{State}
use Rattle.law_states.specs.Told.{at_devices_in}
use Rattle.law_story.specs.ContNames.{AreNamed}
use Rattle.salt_model.specs.Ends.{flight_told}
use Rattle.salt_model.specs.Phases.{Opening, Serving}
use Rattle.salt_model.specs.Trace.{Trace, from, lines_asked, start_of}
use Rattle.salt_model.specs.Words.{Every}
use Rattle.salt_model.specs.declared.events.Event.{Event}
use Rattle.salt_model.specs.declared.events.Flight.{Flight}
use Rattle.salt_driver.specs.Devices.{OnDevices}
use Rattle.salt_driver.specs.Writing.{IsWrittenAt}
use Rattle.salt_storage.specs.Writing.{ToWrite}
use Rattle.salt_storage.specs.declared.halt.Halt.TheVariants.{DeviceFull, Memory}
use Rattle.salt_storage.specs.declared.halt.Halt.{Halt}
use Rattle.law_types.specs.Played.{HasKey}
use Rattle.law_types.specs.Typed.{IsTyped}
use Rattle.salt_values.specs.declared.id.Id.{Id}
use Rattle.std.specs.Prelude.{List, None, Option, Some, [], false, length, true, ℕ, ⊤, ◌*◌, ◌++◌, ◌+◌, ◌∷◌, ◌≡◌, ◌⊎◌}

-- It is the point of a trace that is played, from a start that fits its definitions and names what it continues, and over lines whose
-- tables have keys, so all that laws give of such traces holds of it.
pub record IsSoundPoint (p : Point) : Type 0 where
  pub trace : Trace
  pub keeps : KeepsPoint p trace
  pub sound : IsSound trace
  pub typed : IsTyped (start_of trace).kept
  pub named : AreNamed (from (start_of trace))
  pub keyed : Every HasKey (lines_asked trace)

-- it serves this line, and what comes next of it is at hand
pub record IsAt (stands_for : Option Event → State → Type 0) (served : Line) (next : Option Event) (p : Point) : Type 0 where
  pub state : stands_for next p.state
  pub comes : p.next ≡ next
  pub serves : p.state.units.phase ≡ Serving
  pub line : p.state.units.line ≡ served

-- of a segment, or of an opening behind its Opened: neither a fall nor an opening is at hand
abbrev pub IsOfSegment : Option Event → Type 0
IsOfSegment None = ⊤
IsOfSegment (Some e) = is_of_run e ≡ false

-- where the telling of an event was broken off, it was not told for want of memory, or it was
abbrev pub WasTold : Halt → Event → (story told : List Event) → Type 0
WasTold halt e story told = ((told ≡ story) × (halt ≡ Memory)) ⊎ (told ≡ story ++ e ∷ [])

-- nothing is missing of the last line's segment
pub record IsIdleAt (stands_for : Option Event → State → Type 0) (p : Point) : Type 0 where
  pub state : stands_for None p.state
  pub idle : IsIdle p

-- it is in an opening, and what comes next of that is at hand
pub record IsOpeningAt (stands_for : Option Event → State → Type 0) (next : Option Event) (p : Point) : Type 0 where
  pub state : stands_for next p.state
  pub comes : p.next ≡ next
  pub opening : p.state.units.phase ≡ Opening

-- the opening goes on, or nothing is missing of it
abbrev pub IsOpenedOn : (Option Event → State → Type 0) → Option Event → Point → Type 0
IsOpenedOn stands_for None p = IsIdleAt stands_for p
IsOpenedOn stands_for (Some event) p = IsOpeningAt stands_for (Some event) p

-- Broken off at a point: unless for want of memory, what comes next there is at the devices, and what is in flight is known. A device
-- is told to be full by what was to be written there. What is left of the devices stands there, and unless memory ran out the run can
-- be opened behind it.
pub record HaltsAt (devices : OnDevices) (flight : Option Flight) (halt : Halt) (p : Point) : Type 0 where
  pub reason : (halt ≡ Memory) ⊎ ((e : Event) × (p.next ≡ Some e) × (at_devices_in p.state.units e ≡ true))
  pub flies : ((halt ≡ Memory) × (flight ≡ None)) ⊎ (flight ≡ flight_told p.flight)
  pub full : (dev : ℕ) → halt ≡ DeviceFull dev → (w : ToWrite) × IsWrittenAt p w × devices.fills_device w dev
  pub again : (halt ≡ Memory → ⊥) → devices.can_reopen_at 0 p
  pub stays : devices.stands_for_kept None 0 p

-- in telling an event: before it was told, for want of memory, or behind it
abbrev pub BreaksAt : OnDevices → Option Flight → Halt → Point → Event → (story told : List Event) → Type 0
BreaksAt devices flight halt p e story told =
    ((told ≡ story) × HaltsAt devices flight halt p × (halt ≡ Memory)) ⊎
    ((told ≡ story ++ e ∷ []) × ((q : Point) × Moves (Say e) p q × HaltsAt devices flight halt q))

-- for want of memory a move was not made
abbrev pub RunsShort : OnDevices → Option Flight → Halt → Point → Type 0
RunsShort devices flight halt p = (halt ≡ Memory) × HaltsAt devices flight halt p

-- what is still to come, by these units and that event, as a number
abbrev pub left_to_come : List Id → Option Event → ℕ
left_to_come us None = 0
left_to_come us (Some e) = 6 * length us + stage e

-- a move within the segment of a line
abbrev pub IsInside : TraceStep → Type 0
IsInside (Ask asked) = ⊥
IsInside m = ⊤

-- from a point, where this story was told, it has come by moves of one segment to where it stands, and its story has gained their events
pub record AdvancesInLine (stands_for : Option Event → State → Type 0) (line : Line) (p : Point) (story : List Event)
    (next : Option Event) (told : List Event) : Type 0 where
  pub moves : List TraceStep
  pub point : Point
  pub runs : Runs p moves point
  pub inside : Every IsInside moves
  pub stands : IsAt stands_for line next point
  pub tells : told ≡ story ++ told_by moves

-- it has come so to the end of the segment
pub record FinishesLine (stands_for : Option Event → State → Type 0) (line : Line) (p : Point) (story : List Event)
    (told : List Event) : Type 0 where
  pub advances : AdvancesInLine stands_for line p story None told
  pub idle : IsIdle advances.point

-- or it broke off: the story has gained the events of such moves, and the engine is to be opened anew
pub record StopsWithin (devices : OnDevices) (flight : Option Flight) (halt : Halt) (p : Point) (story told : List Event) : Type 0 where
  pub moves : List TraceStep
  pub point : Point
  pub runs : Runs p moves point
  pub inside : Every IsInside moves
  pub tells : told ≡ story ++ told_by moves
  pub halts : HaltsAt devices flight halt point

-- it has come by events of an opening to where it stands
pub record OpensOn (stands_for : Option Event → State → Type 0) (p : Point) (story : List Event)
    (next : Option Event) (told : List Event) : Type 0 where
  pub moves : List TraceStep
  pub point : Point
  pub runs : Runs p moves point
  pub inside : Every IsInside moves
  pub stands : IsOpenedOn stands_for next point
  pub tells : told ≡ story ++ told_by moves
