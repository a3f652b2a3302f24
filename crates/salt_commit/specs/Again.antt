-- What a partition of a store needs to be opened again while it stands.
use Rattle.salt_bytes.specs.Generations.{Counts, WhichLog}
use Rattle.salt_disk.specs.Disks.{IsSettled, View}
use Rattle.salt_paged.specs.Partitions.{IsPartition}
use Rattle.salt_paged.specs.Reopening.{AreDecided}
use Rattle.salt_paged.specs.declared.partition.Partition.{Partition}
use Rattle.salt_parts.specs.Openings.{decided_in}
use Rattle.salt_stands.specs.Coordinator.{coordinator_pair}
use Rattle.salt_stands.specs.CoordinatorLog.{CoordinatorLog}
use Rattle.salt_stands.specs.OpenedPart.{is_known_log}
use Rattle.salt_stands.specs.Pieces.{PartView}
use Rattle.salt_stands.specs.Stands.{logs_of}
use Rattle.salt_values.specs.declared.id.Id.{Id}
use Rattle.std.specs.Prelude.{IsTrue, List, true, ℕ, ◌<◌, ◌≡◌}

-- The coordinator's log counts, and nothing is pending on the devices of its pair.
pub record ReadsAs (d : View) (which : WhichLog) (log : CoordinatorLog) : Type 0 where
  pub known : 1 < d.count
  pub settled_a : IsSettled d 0
  pub settled_b : IsSettled d 1
  pub counts : IsTrue d.told → coordinator_pair (logs_of d.bytes) ≡ Counts which log

-- A partition stands, and what is applied in it is decided by the coordinator's log.
pub record StandsUnder (d : View) (x : Partition) : Type 0 where
  pub which : WhichLog
  pub log : CoordinatorLog
  pub reads : ReadsAs d which log
  pub p : ℕ
  pub low : p < 8
  pub v : PartView
  pub applied : List Id
  pub is : IsPartition d x p v applied
  pub goes_on : AreDecided applied (decided_in log p)
  pub known : IsTrue d.told → is_known_log log.told.boot (decided_in log p) v.log ≡ true
