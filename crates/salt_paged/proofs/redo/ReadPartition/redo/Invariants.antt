use Rattle.salt_paged.proofs.Steps.{RedoneSoFar}
use Rattle.salt_paged.proofs.redo.ReadPartition.redo.Given as goal

abbrev pub invariant-loop-unit : goal.invariant-loop-unit
invariant-loop-unit g l = RedoneSoFar (g.D.Disks.view l.fn.disks) (g.D.Disks.view l.disks) l.fn.self l.partition l.decided l.yielded
