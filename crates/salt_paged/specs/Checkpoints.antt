-- What a checkpoint of a partition makes, touches, and may be too long for.
use Rattle.salt_bytes.specs.Generations.{WhichLog}
use Rattle.salt_bytes.specs.Page.{page_place}
use Rattle.salt_checkpoint.specs.Checkpoints.{IsReady}
use Rattle.salt_disk.specs.Disks.{FullWhere, View}
use Rattle.salt_disk.specs.declared.disks.DiskErr.{DiskErr}
use Rattle.salt_partition.specs.Choices.{which_of}
use Rattle.salt_paged.specs.Partitions.{IsCheckpointOf, IsPartition, page_count, pages_of}
use Rattle.salt_paged.specs.declared.partition.Partition.{Partition}
use Rattle.salt_stands.specs.Commits.{partition_count, with_view}
use Rattle.salt_stands.specs.Coordinator.{Coordinator, decided_for, device_of}
use Rattle.salt_stands.specs.Partition.{HoldsPages, part_device}
use Rattle.salt_stands.specs.Pieces.{PartView, other_log}
use Rattle.salt_stands.specs.Reading.{Reading}
use Rattle.salt_values.specs.declared.id.Id.{Id}
use Rattle.std.specs.Prelude.{IsTrue, List, Option, ℕ, ◌+◌, ◌<◌, ◌≡◌, ◌⊎◌}

-- the device of the log that does not count
abbrev pub other_device : Partition → ℕ
other_device x = device_of (part_device x.part) (other_log (which_of x.side))

-- it stands by the next header, whatever units are said to be applied, since its log has none
pub record IsCheckpointed (old new : View) (x : Partition) (p : ℕ) (v : PartView) (applied : List Id) : Type 0 where
  pub view : PartView
  pub made : IsCheckpointOf applied v view
  pub is : (others : List Id) → IsPartition new x p view others

-- A partition stands among the others of a store that is ready, and the coordinator's decisions for it are applied.
pub record StandsUnder {D : Type 0} (r : Reading D) (d : View) (x : Partition) (which : WhichLog) (c : Coordinator D) (v : ℕ → PartView) : Type 0 where
  pub below : x.part < partition_count c
  pub ready : IsReady r d which c v
  pub is : IsPartition d x x.part (v x.part) (decided_for x.part c.log.told.decided)

-- It stands behind its next header, the store is ready again, and each partition has the tables that it had.
pub record StandsBehind {D : Type 0} (r : Reading D) (d : View) (x : Partition) (which : WhichLog) (c : Coordinator D) (v : ℕ → PartView) : Type 0 where
  pub view : PartView
  pub made : IsCheckpointOf (decided_for x.part c.log.told.decided) (v x.part) view
  pub ready : IsReady r d which c (with_view x.part view v)
  pub is : (others : List Id) → IsPartition d x x.part view others

abbrev pub IsTouched : Partition → ℕ → Type 0
IsTouched x dev = (dev ≡ pages_of x) ⊎ (dev ≡ other_device x)

-- a header that names so many pages takes so many bytes in a log that is begun with it: its gate, its length, 19 bytes, one for each
-- page, and the gate behind it
abbrev pub header_end : ℕ → ℕ
header_end pages = 29 + pages

-- `Full` comes only where the pages pass the limit of their device, or the header that of the other log's: then all pages that it names
-- stand on their device, where that tells. All is said of the devices behind the call.
abbrev pub FullAtCheckpoint : View → Partition → Option DiskErr → Type 0
FullAtCheckpoint d x answer = FullWhere (λ dev. ((dev ≡ pages_of x) × (d.limit dev < page_place (page_count x) 0))
    ⊎ ((dev ≡ other_device x) × (d.limit dev < header_end (page_count x)) × (IsTrue d.told → HoldsPages (page_count x) (d.bytes (pages_of x))))) answer
