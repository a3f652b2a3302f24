-- What a run leaves of its devices, and by what they end it.
use Rattle.salt_disk.specs.Disks.{IsImage}
use Rattle.salt_model.specs.After.{kept}
use Rattle.salt_model.specs.Ends.{flight_told, kept_with, raised}
use Rattle.salt_model.specs.Kept.{Kept}
use Rattle.salt_model.specs.Next.{flight}
use Rattle.salt_model.specs.Phases.{Fallen, downs, has_opened, phase}
use Rattle.salt_model.specs.Trace.{Trace}
use Rattle.salt_model.specs.declared.events.Flight.{Flight}
use Rattle.salt_promise.specs.Filling.{IsFullBehind}
use Rattle.salt_promise.specs.Given.{Run}
use Rattle.salt_promise.specs.declared.status.Status.TheVariants.{DeviceFull, NumbersSpent}
use Rattle.salt_promise.specs.declared.status.Status.{Status}
use Rattle.salt_promise.specs.Standing.{StandFor}
use Rattle.salt_promise.specs.Ways.{MayBeTold, Telling, Told, Untold}
use Rattle.salt_stands.specs.Stands.{are_spent}
use Rattle.salt_place.specs.declared.placement.Shape.{Shape}
use Rattle.std.specs.Prelude.{IsTrue, List, None, Option, Some, if◌then◌else◌, true, ℕ, ⊤, ◌+◌, ◌≡◌, ◌≤◌, ◌⊎◌}

-- what is told to be in flight at the end of a trace
abbrev pub Flies : Telling → Trace → Option Flight → Type 0
Flies Untold trace told = told ≡ None
Flies Told trace told = told ≡ flight_told (flight trace)
Flies MayBeTold trace told = (told ≡ None) ⊎ (told ≡ flight_told (flight trace))

-- the openings that may have begun a boot which they did not tell
abbrev pub boots_untold : Trace → ℕ
boots_untold trace = downs trace + (if has_opened trace then 0 else 1)

-- what is kept behind the trace, or, where that is in doubt, with the decision in flight; but for boots that are not told
pub record IsLeftBehind (doubt : Type 0) (trace : Trace) (k : Kept) : Type 0 where
  pub boots : ℕ
  pub most : boots ≤ boots_untold trace
  pub is : (k ≡ raised boots (kept trace)) ⊎ (doubt × (k ≡ raised boots (kept_with trace (flight trace))))

-- the decision in flight is in doubt where it is told; where numbers are spent, they tell
abbrev pub IsInDoubt : Status → Option Flight → Type 0
IsInDoubt (NumbersSpent boot decisions) told = ⊤
IsInDoubt status None = ⊥
IsInDoubt status (Some f) = ⊤

abbrev pub HasNumbers : Status → Kept → Type 0
HasNumbers (NumbersSpent boot decisions) k = (k.boot ≡ boot) × (k.decisions ≡ decisions)
HasNumbers status k = ⊤

-- an image of the devices stands for what is left behind the trace, with the numbers that the status tells
pub record StandsBehind (r : Run) (shape : Shape) (trace : Trace) (image : ℕ → List ℕ) : Type 0 where
  pub kept : Kept
  pub stands : StandFor shape image kept
  pub is : IsLeftBehind (IsInDoubt r.status r.flight) trace kept
  pub numbers : HasNumbers r.status kept

-- the run is down, and the numbers of what is left behind it are spent
pub record AreSpentBehind (trace : Trace) (boot decisions : ℕ) : Type 0 where
  pub down : phase trace ≡ Fallen
  pub spent : are_spent boot decisions ≡ true
  pub kept : Kept
  pub is : IsLeftBehind ⊤ trace kept
  pub boot_is : kept.boot ≡ boot
  pub decisions_are : kept.decisions ≡ decisions

-- Each image that a stop may leave of the devices stands for what is left. By spent numbers, and by a full device, a run ends only where
-- they are so.
pub record Ends (r : Run) (shape : Shape) (trace : Trace) : Type 0 where
  pub images : IsTrue r.after.devices.told → (image : ℕ → List ℕ) → IsImage r.after.devices image → StandsBehind r shape trace image
  pub spent : (boot decisions : ℕ) → r.status ≡ NumbersSpent boot decisions → AreSpentBehind trace boot decisions
  pub full : (dev : ℕ) → r.status ≡ DeviceFull dev → IsTrue r.after.devices.told → IsFullBehind r.after.devices shape trace dev
