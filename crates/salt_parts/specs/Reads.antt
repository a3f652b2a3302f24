-- Rows that are read from several partitions.
use Rattle.salt_disk.specs.Disks.{View}
use Rattle.salt_paged.specs.Partitions.{ArePartitions}
use Rattle.salt_paged.specs.declared.partition.Partition.{Partition}
use Rattle.salt_stands.specs.Pieces.{PartView}
use Rattle.salt_values.specs.declared.id.Id.{Id}
use Rattle.std.specs.Prelude.{List, ℕ}

-- partitions stand
pub record StandAll (d : View) (parts : List Partition) : Type 0 where
  pub v : ℕ → PartView
  pub applied : ℕ → List Id
  pub are : ArePartitions d parts v applied
