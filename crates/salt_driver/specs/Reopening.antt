-- What an opening makes of a run that is down.
use Rattle.salt_storage.specs.OpenErr.TheVariants as opening
use Rattle.law_states.specs.Laws.{is_of_run}
use Rattle.law_states.specs.Points.{KeepsPoint, Point}
use Rattle.law_states.specs.States.{State}
use Rattle.salt_model.specs.Ends.{flight_told}
use Rattle.salt_model.specs.Phases.{Fallen, Opening, downs, has_opened, phase}
use Rattle.salt_model.specs.Played.{Tells}
use Rattle.salt_model.specs.Trace.{Start, Trace, lines_asked, ◌says◌}
use Rattle.salt_model.specs.declared.events.Event.{Event}
use Rattle.salt_model.specs.declared.events.Flight.{Flight}
use Rattle.salt_driver.specs.Along.{StaysInSegment}
use Rattle.salt_driver.specs.Devices.{OnDevices}
use Rattle.salt_driver.specs.Opening.{MayFailAt}
use Rattle.salt_driver.specs.Serving.{GainsEvents, IsDown, IsFitting, ServesTrace}
use Rattle.salt_driver.specs.Standing.{HaltsAt}
use Rattle.salt_storage.specs.Answers.{IsLater, halted_by, numbers_of}
use Rattle.salt_storage.specs.Writing.{OfBoot, OfOpening}
use Rattle.salt_storage.specs.declared.halt.Halt.TheVariants.{Memory}
use Rattle.salt_storage.specs.declared.halt.Halt.{Halt}
use Rattle.salt_storage.specs.OpenErr.{OpenErr}
use Rattle.std.specs.Prelude.{Bool, List, Option, false, if◌then◌else◌, true, ℕ, ◌+◌, ◌≡◌, ◌≤◌, ◌⊎◌}

-- the trace goes on to the end of an opening
pub record ReopensRun (stands_for : Option Event → State → Type 0) (start : Start) (trace : Trace) (story : List Event)
    (told : List Event) : Type 0 where
  pub after : Trace
  pub lines : lines_asked after ≡ lines_asked trace
  pub serves : ServesTrace stands_for start told after
  pub grows : GainsEvents story told
  pub along : StaysInSegment trace after grows.0

-- An opening was not begun: what is left of the devices stands here, where they may have one boot more; and unless memory ran out the
-- engine can be opened. It failed by spent numbers, or halted. Where a device was full, the next boot was to be written there, or what an
-- opening does anew.
pub record NotBegun (devices : OnDevices) (flight : Option Flight) (e : OpenErr) (trace : Trace) (p : Point) : Type 0 where
  pub fallen : phase trace ≡ Fallen
  pub room : ℕ
  pub boots : room ≤ downs trace + (if has_opened trace then 0 else 1)
  pub fails : MayFailAt room p e
  pub full : (dev : ℕ) → e ≡ opening.Full dev → devices.fills_device OfOpening dev ⊎ devices.fills_device OfBoot dev
  pub again : (e ≡ opening.Memory → ⊥) → devices.can_reopen_at room p
  pub stays : devices.stands_for_kept (numbers_of e) room p
  pub flies : flight ≡ flight_told p.flight

-- the trace ends within an opening, behind an event of that
pub record EndsWithin (trace : Trace) : Type 0 where
  pub opening : phase trace ≡ Opening
  pub before : Trace
  pub event : Event
  pub behind : trace ≡ (before says event)
  pub plain : is_of_run event ≡ false

-- or it was broken off within it
pub record WithinOpening (devices : OnDevices) (flight : Option Flight) (e : OpenErr) (trace : Trace) (p : Point) : Type 0 where
  pub halt : Halt
  pub halted : e ≡ halted_by halt
  pub halts : HaltsAt devices flight halt p
  pub place : (halt ≡ Memory) ⊎ EndsWithin trace

-- an opening ends early: the trace has gone on by a front of it
pub record BreaksOpening (devices : OnDevices) (flight : Option Flight) (e : OpenErr) (start : Start)
    (trace : Trace) (story told : List Event) : Type 0 where
  pub after : Trace
  pub lines : lines_asked after ≡ lines_asked trace
  pub tells : Tells start after told
  pub fits : IsFitting start after
  pub point : Point
  pub keeps : KeepsPoint point after
  pub grows : GainsEvents story told
  pub along : StaysInSegment trace after grows.0
  pub later : IsLater e
  pub stops : NotBegun devices flight e after point ⊎ WithinOpening devices flight e after point

-- the run has fallen again, and its trace has gone on by a front of an opening
pub record FallsAnew (devices : OnDevices) (flight : Option Flight) (start : Start) (trace : Trace) (story told : List Event) : Type 0 where
  pub after : Trace
  pub lines : lines_asked after ≡ lines_asked trace
  pub down : IsDown devices flight start told after
  pub grows : GainsEvents story told
  pub along : StaysInSegment trace after grows.0

-- it is opened, or has fallen again
abbrev pub OpensOrFalls : Bool → (Option Event → State → Type 0) → OnDevices → Option Flight → Start → Trace → (story told : List Event) → Type 0
OpensOrFalls true stands_for devices flight start trace story told = ReopensRun stands_for start trace story told
OpensOrFalls false stands_for devices flight start trace story told = FallsAnew devices flight start trace story told
