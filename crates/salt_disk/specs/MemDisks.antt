-- What contracts see of disks in memory, and what is done to them beside the calls of the trait.
use Rattle.std.specs.Prelude.{IsTrue, List, None, Option, Some, [], if◌then◌else◌, nat_le, ℕ, ◌<◌, ◌≡◌, ◌≢◌, ◌∷◌}
use Rattle.salt_disk.specs.Calls.{one_more}
use Rattle.salt_disk.specs.Devices.{ChangesAt, ChangesEach, HasStopped, Writes, view_of}
use Rattle.salt_disk.specs.Disks.{IsSettled, IsUnchanged, SameShape, View}
use Rattle.salt_disk.specs.declared.device.Device.{Device}
use Rattle.salt_disk.specs.declared.memory.MemDisks.{MemDisks}
use Rattle.salt_disk.specs.declared.memory.Stop.{Stop}

-- what contracts see of them
abbrev pub seen : MemDisks → View
seen m = view_of m.devices.items m.faults m.stops.items

-- so many devices without a byte and with this limit, on which nothing has happened
pub record AreNew (d : View) (count limit : ℕ) : Type 0 where
  pub count_is : d.count ≡ count
  pub is_told : IsTrue d.told
  pub stops_can_come : IsTrue d.can_stop
  pub limits : (dev : ℕ) → dev < count → d.limit dev ≡ limit
  pub bytes : (dev : ℕ) → d.bytes dev ≡ []
  pub settled : (dev : ℕ) → IsSettled d dev
  pub faults : d.faults ≡ 0
  pub stops : d.armed ≡ []

-- no count has changed
pub record SameCounts (old new : View) : Type 0 where
  pub faults : new.faults ≡ old.faults
  pub stops : new.armed ≡ old.armed

-- one device has another limit, and all else is as it was
pub record HasLimit (old new : View) (dev limit : ℕ) : Type 0 where
  pub count : new.count ≡ old.count
  pub can_stop : new.can_stop ≡ old.can_stop
  pub told : new.told ≡ old.told
  pub limit_is : new.limit dev ≡ limit
  pub other_limits : (k : ℕ) → k ≢ dev → new.limit k ≡ old.limit k
  pub devices : (k : ℕ) → IsUnchanged old new k
  pub counts : SameCounts old new

-- one device has these bytes, with nothing pending, and all else is as it was
pub record HasBytes (old new : View) (dev : ℕ) (bytes : List ℕ) : Type 0 where
  pub shape : SameShape old new
  pub bytes_are : new.bytes dev ≡ bytes
  pub settled : IsSettled new dev
  pub others : (k : ℕ) → k ≢ dev → IsUnchanged old new k
  pub counts : SameCounts old new

-- the pick of the stop that falls on the next call, after so many since it is the first in the list
abbrev pub due_pick : List Stop → ℕ → Option ℕ
due_pick [] since = None
due_pick (stop ∷ stops) since = if nat_le stop.calls (one_more since) then Some stop.pick else None

-- A stop has come at a write, the first in the list: the write is issued, and then each device is left as the pick says.
pub record IsStoppedWrite (old new : MemDisks) (dev at : ℕ) (bytes : List ℕ) : Type 0 where
  pub pick : ℕ
  pub due : due_pick old.stops.items old.since_first ≡ Some pick
  pub issued : List Device
  pub writes : ChangesAt old.devices.items issued dev (λ d e. Writes d e at bytes)
  pub stops : ChangesEach issued new.devices.items (HasStopped pick)

-- likewise at a sync, which is not done
pub record IsStoppedSync (old new : MemDisks) : Type 0 where
  pub pick : ℕ
  pub due : due_pick old.stops.items old.since_first ≡ Some pick
  pub stops : ChangesEach old.devices.items new.devices.items (HasStopped pick)
