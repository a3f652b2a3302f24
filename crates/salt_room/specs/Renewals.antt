-- New generations of all logs of a store.
use Rattle.law_generations.specs.AsIf.{IsAsIf}
use Rattle.salt_bytes.specs.Generations.{WhichLog}
use Rattle.salt_decisions.specs.Decisions.{IsDecisions, snapshot_payload, snapshotted}
use Rattle.salt_decisions.specs.declared.decisions.Decisions.{Decisions}
use Rattle.salt_disk.specs.Disks.{FullWhere, View}
use Rattle.salt_disk.specs.declared.disks.DiskErr.{DiskErr}
use Rattle.salt_model.specs.Kept.{Definition}
use Rattle.salt_paged.specs.declared.partition.Partition.{Partition}
use Rattle.salt_room.specs.Rooms.{ArePartsOf, HaveSameTables, IsOfPart, IsTooLong}
use Rattle.salt_stands.specs.Commits.{partition_count}
use Rattle.salt_stands.specs.Coordinator.{Coordinator, device_of}
use Rattle.salt_stands.specs.LogDevices.{IsCoordinatorLog}
use Rattle.salt_stands.specs.Pieces.{PartView, other_log}
use Rattle.salt_stands.specs.Reading.{Reading}
use Rattle.salt_values.specs.declared.cont.Cont.{Cont}
use Rattle.std.specs.Prelude.{List, Option, [], length, ℕ, ◌+◌, ◌<◌, ◌≡◌, ◌⊎◌}

-- the coordinator's log and the partitions under it are a store's
pub record IsStoreOf (r : Reading Definition) (d : View) (x : Decisions) (parts : List Partition) (which : WhichLog) (c : Coordinator Definition) (v : ℕ → PartView) : Type 0 where
  pub decisions : IsDecisions d x which c.log
  pub are : ArePartsOf r d parts which c v

-- they are some store's
pub record StandAsStore (d : View) (x : Decisions) (parts : List Partition) : Type 0 where
  pub r : Reading Definition
  pub which : WhichLog
  pub c : Coordinator Definition
  pub v : ℕ → PartView
  pub is : IsStoreOf r d x parts which c v

-- the device is one of n partitions, or a log of the coordinator
abbrev pub IsOfStore : ℕ → ℕ → Type 0
IsOfStore n dev = IsCoordinatorLog dev ⊎ IsOfPart n dev

-- the coordinator behind a snapshot with these continuations, which are its own where the disks tell
abbrev pub renewed : {D : Type 0} → Coordinator D → List Cont → Coordinator D
renewed c conts = record { log = snapshotted c.log conts; definitions = c.definitions; conts = c.conts }

-- The store goes on in other generations, and no entry stands behind a header.
pub record IsRenewed (r : Reading Definition) (d : View) (x : Decisions) (parts : List Partition) (conts : List Cont) (which : WhichLog) (c : Coordinator Definition) (v : ℕ → PartView) : Type 0 where
  pub view : ℕ → PartView
  pub as_if : IsAsIf c v (renewed c conts) view
  pub same : HaveSameTables c v (renewed c conts) view
  pub is : IsStoreOf r d x parts (other_log which) (renewed c conts) view
  pub none : (p : ℕ) → p < partition_count c → (view p).log.prepared ≡ []

-- `Full` comes only where a partition is too long for its devices, or the coordinator's next header for that of its other log
abbrev pub FullAtRenewal : View → Decisions → List Partition → WhichLog → Option DiskErr → Type 0
FullAtRenewal d x parts which answer = FullWhere (λ dev. IsTooLong d parts dev ⊎ ((dev ≡ device_of 0 (other_log which)) × (d.limit dev < 10 + length (snapshot_payload x)))) answer
