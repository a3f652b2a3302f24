-- Faults and stops, as they are counted over a run.
use Rattle.salt_disk.specs.Disks.{Rose, View}
use Rattle.salt_model.specs.declared.events.Event.TheVariants.{Down}
use Rattle.salt_model.specs.declared.events.Event.{Event}
use Rattle.salt_model.specs.declared.events.Why.TheVariants as why
use Rattle.salt_promise.specs.declared.status.Status.{Status}
use Rattle.salt_promise.specs.declared.status.Status.TheVariants.{DeviceFull, DiskFault, Memory}
use Rattle.salt_loop.specs.Stopping.{answer_of}
use Rattle.salt_driver.specs.Counting.{CountsFall, CountsStops}
use Rattle.salt_storage.specs.declared.halt.Halt.TheVariants as halt
use Rattle.salt_storage.specs.declared.halt.Halt.{Halt}
use Rattle.std.specs.Prelude.{List, None, [], ℕ, ◌++◌, ◌∷◌, ◌≡◌, ◌≤◌}

-- up to an event the faults do not fall; before a fall by a fault they rise
abbrev pub AreMet : Event → ℕ → ℕ → Type 0
AreMet (Down why.Fault) before now = (before ≤ now) × Rose before now
AreMet e before now = before ≤ now

-- so many at first, and so many at last
abbrev pub AreFaults : ℕ → List Event → ℕ → Type 0
AreFaults first [] last = first ≤ last
AreFaults first (e ∷ es) last = (n : ℕ) × AreMet e first n × AreFaults n es last

-- a run that the devices end in an opening has met a fault behind its last event
abbrev pub AreFaultsOf : Status → ℕ → List Event → ℕ → Type 0
AreFaultsOf DiskFault first story last = (n : ℕ) × AreFaults first story n × (n ≤ last) × Rose n last
AreFaultsOf status first story last = AreFaults first story last

-- Over a run; which stops are armed at its end is told by the lines of its trace.
pub record CountsRun (old new : View) (status : Status) (story : List Event) : Type 0 where
  pub faults : AreFaultsOf status old.faults story new.faults

-- over the events by which a story has grown
pub record CountsAdded (old new : View) (status : Status) (story told : List Event) : Type 0 where
  pub more : List Event
  pub grows : told ≡ story ++ more
  pub counts : CountsRun old new status more

-- nothing is told, and nothing counted
pub record CountsNothing (old new : View) (story told : List Event) : Type 0 where
  pub untold : told ≡ story
  pub counts : CountsStops old new None [] 0

-- over what follows where a line was broken off
abbrev pub CountsResumed : Halt → (old new : View) → Status → (story told : List Event) → Type 0
CountsResumed halt.Stopped old new status story told = CountsFall why.Stopped old new (answer_of status) story told
CountsResumed halt.DiskFault old new status story told = CountsFall why.Fault old new (answer_of status) story told
CountsResumed (halt.DeviceFull dev) old new status story told = (status ≡ DeviceFull dev) × CountsNothing old new story told
CountsResumed halt.Memory old new status story told = (status ≡ Memory) × CountsNothing old new story told
