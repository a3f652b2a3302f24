use Rattle.salt_room.proofs.Begun.{BegunSoFar}
use Rattle.salt_room.proofs.checkpoints.checkpoint_older.Given as goal

abbrev pub invariant-loop-number : goal.invariant-loop-number
invariant-loop-number g l = BegunSoFar 0 (g.D.Disks.view l.fn.disks) (g.D.Disks.view l.disks) l.fn.parts.items l.parts.items l.number
