use Rattle.salt_partition.proofs.Steps.{ReadSoFar}
use Rattle.salt_partition.proofs.units.read_units.Given as goal
use Rattle.salt_partition.specs.Contents.{units_of}

abbrev pub invariant-loop-i : goal.invariant-loop-i
invariant-loop-i g l = ReadSoFar (g.D.Disks.view l.fn.disks) (g.D.Disks.view l.disks) l.fn.log l.log l.nulls (units_of l.units.items) l.i
