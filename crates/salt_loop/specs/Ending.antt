-- How a run ends on its devices.
use Rattle.salt_storage.specs.OpenErr.TheVariants as opening
use Rattle.law_states.specs.Points.{KeepsPoint, Point}
use Rattle.law_states.specs.States.{State}
use Rattle.salt_model.specs.Arming.{armed_by_lines}
use Rattle.salt_model.specs.Ends.{MayLeave}
use Rattle.salt_model.specs.Phases.{Fallen, downs, has_opened}
use Rattle.salt_model.specs.Played.{Tells}
use Rattle.salt_model.specs.Trace.{Start, Trace, lines_asked}
use Rattle.salt_model.specs.declared.events.Event.{Event}
use Rattle.salt_model.specs.declared.events.Flight.{Flight}
use Rattle.salt_promise.specs.Counting.{Stops}
use Rattle.salt_promise.specs.Status.{ends_between}
use Rattle.salt_promise.specs.declared.status.Status.{Status}
use Rattle.salt_promise.specs.declared.status.Status.TheVariants.{Broken, DeviceFull, Memory, NotSalt, NumbersSpent, OtherShape, TranscriptTooLong, Unread, Usage, WriteFault}
use Rattle.salt_loop.specs.Run.{IsFlightAt, IsRun, ScriptRun, leave_of}
use Rattle.salt_loop.specs.Stopping.{numbers_of_status, status_of, status_opening}
use Rattle.salt_loop.specs.declared.stop.Stop.{Stop}
use Rattle.salt_driver.specs.Devices.{OnDevices}
use Rattle.salt_driver.specs.Opening.{AreSpentAt}
use Rattle.salt_driver.specs.Along.{StaysInSegment}
use Rattle.salt_driver.specs.Serving.{GainsEvents, IsFitting, ServesTrace}
use Rattle.salt_driver.specs.Writing.{IsWrittenAt}
use Rattle.salt_storage.specs.Writing.{OfBoot, OfOpening, ToWrite}
use Rattle.salt_storage.specs.OpenErr.{OpenErr}
use Rattle.std.specs.Prelude.{List, Option, if◌then◌else◌, true, ℕ, ◌+◌, ◌≡◌, ◌≤◌, ◌⊎◌, ⊤}

-- what may be written at a point: the decision that comes next, or, of a run that is down, an opening, or the next boot
abbrev pub MayBeWritten : Point → ToWrite → Type 0
MayBeWritten p w = IsWrittenAt p w ⊎ ((p.state.units.phase ≡ Fallen) × ((w ≡ OfOpening) ⊎ (w ≡ OfBoot)))

-- how a run may end over what was found: by no refusal of that; and by spent numbers only where it is down, and they are spent
abbrev pub MayEndAt : ℕ → Point → Status → Type 0
MayEndAt room p Usage = ⊥
MayEndAt room p Broken = ⊥
MayEndAt room p Unread = ⊥
MayEndAt room p TranscriptTooLong = ⊥
MayEndAt room p (NotSalt dev) = ⊥
MayEndAt room p (OtherShape kept asked) = ⊥
MayEndAt room p (NumbersSpent boot decisions) = (p.state.units.phase ≡ Fallen) × AreSpentAt room p boot decisions
MayEndAt room p status = ⊤

-- A run ends behind its trace: whatever a stop leaves of its devices stands for what is kept there, or for that with the flight, with
-- no more boots than openings that failed, and with the numbers that the status tells; and unless memory ran out it can be opened there.
-- Where a device was full, what was to be written there would not fit.
pub record EndsFound (devices : OnDevices) (status : Status) (trace : Trace) : Type 0 where
  pub room : ℕ
  pub point : Point
  pub keeps : KeepsPoint point trace
  pub boots : room ≤ downs trace + (if has_opened trace then 0 else 1)
  pub may : MayEndAt room point status
  pub again : (status ≡ Memory → ⊥) → devices.can_reopen_at room point
  pub stands : devices.stands_for_kept (numbers_of_status status) room point
  pub full : (dev : ℕ) → status ≡ DeviceFull dev → (w : ToWrite) × MayBeWritten point w × devices.fills_device w dev

-- between two lines a database serves there still
abbrev pub ServesBetween : (Option Event → State → Type 0) → Start → Status → List Event → Trace → Type 0
ServesBetween stands_for start status story trace = ends_between status ≡ true → ServesTrace stands_for start story trace

-- so ends the run of a script from this start, where these were armed first, and last
abbrev pub EndsServing : (Option Event → State → Type 0) → OnDevices → Start → ScriptRun → (first armed : List (ℕ × ℕ)) → Type 0
EndsServing stands_for devices start r first armed =
    (run : IsRun start r) × EndsFound devices r.status run.played.trace × Stops r.status (armed_by_lines first run.played.trace) armed × ServesBetween stands_for start r.status r.story run.played.trace

-- the trace of a run that ends so, and where it ends
pub record LeavesAt (devices : OnDevices) (flight : Option Flight) (status : Status) (start : Start) (trace : Trace) (story : List Event) : Type 0 where
  pub tells : Tells start trace story
  pub fits : IsFitting start trace
  pub leaves : MayLeave (leave_of status) trace
  pub flies : IsFlightAt status trace flight
  pub ends : EndsFound devices status trace

-- an opening of a run that was down ends early, and with it the run
pub record EndsOpening (devices : OnDevices) (flight : Option Flight) (stop : Stop) (start : Start) (trace : Trace) (story told : List Event) : Type 0 where
  pub after : Trace
  pub lines : lines_asked after ≡ lines_asked trace
  pub ends : LeavesAt devices flight (status_of stop) start after told
  pub grows : GainsEvents story told
  pub along : StaysInSegment trace after grows.0

-- the status is that of an opening that ends so, or the sink failed behind it
abbrev pub IsStatusOf : OpenErr → Status → Type 0
IsStatusOf e status = (status ≡ status_opening e) ⊎ ((status ≡ WriteFault) × (e ≡ opening.Memory → ⊥))
