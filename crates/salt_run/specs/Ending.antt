-- What a run leaves of its devices, and by what they end it.
use Rattle.salt_devices.specs.Filling.{FillsDevice}
use Rattle.salt_devices.specs.Leaving.{StandsFor}
use Rattle.salt_disk.specs.Disks.{IsImage, View}
use Rattle.law_states.specs.Points.{KeepsPoint, Point}
use Rattle.law_states.specs.States.{State}
use Rattle.salt_model.specs.Kept.{Kept}
use Rattle.salt_model.specs.Trace.{Trace}
use Rattle.salt_model.specs.declared.events.Flight.{Flight}
use Rattle.salt_net.specs.declared.kinds.NetEvent.{NetEvent}
use Rattle.salt_promise.specs.Ending.{AreSpentBehind, Flies, HasNumbers, IsInDoubt, IsLeftBehind}
use Rattle.salt_promise.specs.Ways.{way_of}
use Rattle.salt_promise.specs.declared.status.Status.{Status}
use Rattle.salt_promise.specs.declared.status.Status.TheVariants.{DeviceFull, NumbersSpent}
use Rattle.salt_loop.specs.Ending.{MayBeWritten}
use Rattle.salt_storage.specs.Netted.{net_told}
use Rattle.salt_storage.specs.Staying.{Setup}
use Rattle.salt_storage.specs.Writing.{ToWrite}
use Rattle.salt_place.specs.declared.placement.Shape.{Shape}
use Rattle.std.specs.Prelude.{Bool, IsTrue, List, None, Option, false, option_map, true, ℕ, ◌≡◌}

-- an image of the devices stands for what is left, with the numbers that the status tells
pub record StandsBehind (shape : Shape) (status : Status) (told : Option Flight) (trace : Trace) (image : ℕ → List ℕ) : Type 0 where
  pub found : Kept
  pub stands : StandsFor shape image found
  pub is : IsLeftBehind (IsInDoubt status told) trace found
  pub numbers : HasNumbers status found

-- what is to be written next behind a trace would pass the limit of the device
pub record IsFullBehind (d : View) (shape : Shape) (trace : Trace) (dev : ℕ) : Type 0 where
  pub point : Point
  pub keeps : KeepsPoint point trace
  pub next : ToWrite
  pub writes : MayBeWritten point next
  pub fills : FillsDevice d shape next dev

-- Behind a trace, where the disks tell their bytes: each image that a stop may leave of them stands for what is kept there, or, where the
-- decision in flight is told, for that with it. By spent numbers a run ends only where it is down and they are so, and by a full device only
-- where what comes next does not go there.
pub record EndsBehind (d : View) (shape : Shape) (status : Status) (told : Option Flight) (trace : Trace) : Type 0 where
  pub images : IsTrue d.told → (image : ℕ → List ℕ) → IsImage d image → StandsBehind shape status told trace image
  pub spent : (boot decisions : ℕ) → status ≡ NumbersSpent boot decisions → AreSpentBehind trace boot decisions
  pub full : (dev : ℕ) → status ≡ DeviceFull dev → IsTrue d.told → IsFullBehind d shape trace dev

-- what is told to be in flight behind a trace, as the table of statuses has it
abbrev pub IsFlightTold : Status → Trace → Option Flight → Type 0
IsFlightTold status trace told = Flies (way_of status).flight trace told

-- how that is told, by what was in flight
abbrev pub flight_at : Status → Option Flight → Option Flight
flight_at (NumbersSpent boot decisions) flight = None
flight_at status flight = flight

-- how a database is given up: its net is given, or what was in flight is told
abbrev pub flight_left : (given : Bool) → Status → Option Flight → Option Flight
flight_left true status flight = None
flight_left false status flight = flight_at status flight

-- that net is what the commits of its run have come to
abbrev pub IsNetLeft : (given : Bool) → (sees : State → Type 0) → Setup → Option (List NetEvent) → Type 0
IsNetLeft true sees setup net = (s : State) → sees s → net ≡ option_map (λ t. t.events) (net_told setup s.net)
IsNetLeft false sees setup net = net ≡ None
