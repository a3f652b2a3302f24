use Rattle.salt_parts.proofs.Redone.{RedoneSoFar}
use Rattle.salt_parts.proofs.redo.redo_all.Given as goal
use Rattle.std.proofs.Common.{length}

abbrev pub invariant-loop-partition : goal.invariant-loop-partition
invariant-loop-partition g l = RedoneSoFar (g.D.Disks.view l.fn.disks) (g.D.Disks.view l.disks) l.fn.read.items l.decided l.made.items (length l.yielded)
