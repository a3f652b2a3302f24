use Rattle.salt_model.specs.Tables.{no_rows, with_changes}
use Rattle.salt_partition.proofs.rows.rows_of.Given as goal
use Rattle.salt_partition.specs.Contents.{units_of}
use Rattle.salt_partition.specs.Partitions.{IsLastKept}
use Rattle.salt_stands.specs.Partition.{decided_changes}
use Rattle.std.proofs.Common.{◌≡◌}

abbrev pub invariant-loop-prepared : goal.invariant-loop-prepared
invariant-loop-prepared l = record {
  rows : l.rows.entries ≡ (with_changes (decided_changes l.decided (units_of l.yielded)) no_rows).list;
  last : IsLastKept l.decided (units_of l.yielded) l.last;
}
