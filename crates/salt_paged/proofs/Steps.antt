-- How far the units of a partition that was read are done.
use Rattle.salt_checkpoint.specs.Sides.{KeepsNamed}
use Rattle.salt_codec.specs.declared.prepared.PreparedUnit.{PreparedUnit}
use Rattle.salt_directory.specs.Bytes.{IsWithin, bytes_of_changes, bytes_of_entries}
use Rattle.salt_disk.specs.Disks.{HasCause, KeepsOthers, View}
use Rattle.salt_model.specs.Tables.{no_rows, with_changes}
use Rattle.salt_paged.specs.Openings.{IsReadAs}
use Rattle.salt_paged.specs.Partitions.{StandsUpTo, page_count, pages_of}
use Rattle.salt_paged.specs.declared.partition.Partition.{Partition}
use Rattle.salt_paged.specs.declared.redo.ReadPartition.{ReadPartition}
use Rattle.salt_partition.specs.Contents.{units_of}
use Rattle.salt_stands.specs.Partition.{decided_changes}
use Rattle.salt_stands.specs.Pieces.{PartView}
use Rattle.salt_values.specs.declared.id.Id.{Id}
use Rattle.std.proofs.Common.{IsTrue, List, None, length, take, ℕ, ◌+◌, ◌≡◌}

pub record RedoneSoFar (d0 d : View) (x : ReadPartition) (now : Partition) (decided : List Id) (units : List PreparedUnit) : Type 0 where
  pub stands : (p : ℕ) (v : PartView) → IsReadAs d0 x p v → StandsUpTo d now p v decided (units_of units)
  pub same : pages_of now ≡ pages_of x.partition
  pub keeps : KeepsOthers (pages_of x.partition) d0 d None
  pub named : (p : ℕ) (v : PartView) → IsReadAs d0 x p v → KeepsNamed v.log.header.sides d0 d (pages_of x.partition)
  pub cause : HasCause d0 d None
  pub pages : (p : ℕ) (v : PartView) → IsReadAs d0 x p v → IsTrue d0.told
      → IsWithin (length v.log.header.sides) (bytes_of_entries (with_changes v.rows no_rows).list + bytes_of_changes (decided_changes decided (units_of units))) (page_count now)
  pub first : units ≡ take (length units) x.units.items
