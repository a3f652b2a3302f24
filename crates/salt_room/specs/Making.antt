-- Room in a store's logs, and what it may lack a place for.
use Rattle.law_generations.specs.AsIf.{IsAsIf}
use Rattle.salt_bytes.specs.Coordinator.{spell_header}
use Rattle.salt_bytes.specs.Generations.{Counts, WhichLog}
use Rattle.salt_bytes.specs.Log.{entries_in}
use Rattle.salt_bytes.specs.Page.{page_place}
use Rattle.salt_checkpoint.specs.Checkpoints.{StandsAlways}
use Rattle.salt_decisions.specs.Decisions.{conts_in, count_in, format_of, next_header, numbers_in, shape_of}
use Rattle.salt_decisions.specs.declared.decisions.Decisions.{Decisions}
use Rattle.salt_decisions.specs.declared.header_payload.TheConstants.{FORMAT}
use Rattle.salt_disk.specs.Disks.{FullWhere, HasCause, KeepsBut, View}
use Rattle.salt_disk.specs.declared.disks.DiskErr.{DiskErr}
use Rattle.salt_model.specs.Kept.{Definition}
use Rattle.salt_paged.specs.Checkpoints.{header_end}
use Rattle.salt_paged.specs.Partitions.{page_count}
use Rattle.salt_paged.specs.declared.partition.Partition.{Partition}
use Rattle.salt_room.specs.Renewals.{IsOfStore, IsStoreOf}
use Rattle.salt_room.specs.Rooms.{HaveSameTables}
use Rattle.salt_stands.specs.Coordinator.{Coordinator, coordinator_pair, device_of}
use Rattle.salt_stands.specs.CoordinatorLog.{CoordinatorLog}
use Rattle.salt_stands.specs.LogDevices.{IsPartitionLog}
use Rattle.salt_stands.specs.OpenConts.{moved}
use Rattle.salt_stands.specs.Partition.{HoldsPages, pages_device}
use Rattle.salt_stands.specs.Pieces.{PartView, other_log}
use Rattle.salt_stands.specs.Reading.{Reading}
use Rattle.salt_stands.specs.Stands.{logs_of}
use Rattle.salt_values.specs.declared.change.Change.{Change}
use Rattle.std.specs.Prelude.{IsTrue, List, None, Option, Some, length, slice_get, ℕ, ◌+◌, ◌<◌, ◌≡◌, ◌≤◌, ◌⊎◌}

-- how many entries the coordinator's log may have behind its header before it is begun anew
abbrev pub most_entries : ℕ
most_entries = 1024

-- the coordinator's log has fewer behind its header, where its format is the newest: one of an older format is begun anew at an opening
abbrev pub HasRoom : Decisions → Type 0
HasRoom x = format_of x ≡ FORMAT → count_in x ≤ most_entries

-- another generation of the store
pub record GoesOn (r : Reading Definition) (d : View) (x : Decisions) (parts : List Partition) (c : Coordinator Definition) (v : ℕ → PartView) : Type 0 where
  pub which : WhichLog
  pub coordinator : Coordinator Definition
  pub views : ℕ → PartView
  pub as_if : IsAsIf c v coordinator views
  pub same : HaveSameTables c v coordinator views
  pub is : IsStoreOf r d x parts which coordinator views

-- WHERE A DEVICE IS FULL, behind the call

-- this log of the coordinator counts, with as many entries as it had
pub record CountsAsBefore (d : View) (x : Decisions) (which : WhichLog) (log : CoordinatorLog) : Type 0 where
  pub counts : coordinator_pair (logs_of d.bytes) ≡ Counts which log
  pub entries : List (List ℕ)
  pub reads : entries_in (d.bytes (device_of 0 which)) ≡ Some entries
  pub count : length entries ≡ count_in x

-- the other one is too short for the next header, with the continuations that are open
pub record SnapshotPassesLimit (d : View) (x : Decisions) (which : WhichLog) (log : CoordinatorLog) (dev : ℕ) : Type 0 where
  pub open_conts : moved log.header.format (Some log.header.conts) log.told.decided ≡ Some (conts_in x)
  pub device : dev ≡ device_of 0 (other_log which)
  pub over : d.limit dev < 10 + length (spell_header (next_header log (conts_in x)))

-- one of these partitions is too long for its devices: its pages for theirs, or its next header, which names those that stand, for a log
pub record CheckpointPassesLimit (d : View) (parts : List Partition) (dev : ℕ) : Type 0 where
  pub p : ℕ
  pub part : Partition
  pub at : slice_get parts p ≡ Some part
  pub passes : ((dev ≡ pages_device p) × (d.limit dev < page_place (page_count part) 0))
      ⊎ (IsPartitionLog p dev × (d.limit dev < header_end (page_count part)) × (IsTrue d.told → HoldsPages (page_count part) (d.bytes (pages_device p))))

-- all logs begin anew: those of the partitions, and then the coordinator's
pub record IsFullAtRenewal (d : View) (x : Decisions) (parts : List Partition) (dev : ℕ) : Type 0 where
  pub which : WhichLog
  pub log : CoordinatorLog
  pub counting : CountsAsBefore d x which log
  pub passes : SnapshotPassesLimit d x which log dev ⊎ CheckpointPassesLimit d parts dev

-- which they do where the coordinator's has too many entries
abbrev pub RenewalPassesLimit : View → Decisions → List Partition → ℕ → Type 0
RenewalPassesLimit d x parts dev = (most_entries < count_in x) × IsFullAtRenewal d x parts dev

-- a partition that has one of these shares
pub record ShareRoomPassesLimit (d : View) (parts : List Partition) (shares : List (List Change)) (dev : ℕ) : Type 0 where
  pub checkpoint : CheckpointPassesLimit d parts dev
  pub share : List Change
  pub at : slice_get shares checkpoint.p ≡ Some share
  pub some : 0 < length share

abbrev pub RoomPassesLimit : View → Decisions → List Partition → List (List Change) → ℕ → Type 0
RoomPassesLimit d x parts shares dev = RenewalPassesLimit d x parts dev ⊎ ShareRoomPassesLimit d parts shares dev

abbrev pub FullAtRoom : View → Decisions → List Partition → List (List Change) → Option DiskErr → Type 0
FullAtRoom d x parts shares answer = FullWhere (RoomPassesLimit d x parts shares) answer

-- WHAT MAKING ROOM DOES for a unit with these shares: behind Ok the store goes on in another generation; whatever is answered, each image
-- stands for what stood before
pub record MakesRoom (d e : View) (x y : Decisions) (parts now : List Partition) (shares : List (List Change)) (answer : Option DiskErr) : Type 0 where
  pub on : answer ≡ None → (r : Reading Definition) (which : WhichLog) (c : Coordinator Definition) (v : ℕ → PartView) → IsStoreOf r d x parts which c v → GoesOn r e y now c v
  pub images : (r : Reading Definition) (which : WhichLog) (c : Coordinator Definition) (v : ℕ → PartView) → IsTrue d.told → IsStoreOf r d x parts which c v → StandsAlways r e c v
  pub room : answer ≡ None → HasRoom y
  pub numbers : numbers_in y ≡ numbers_in x
  pub shape : shape_of y ≡ shape_of x
  pub size : length now ≡ length parts
  pub others : KeepsBut (IsOfStore (length parts)) d e answer
  pub cause : HasCause d e answer
  pub full : IsTrue d.told → FullAtRoom e x parts shares answer
