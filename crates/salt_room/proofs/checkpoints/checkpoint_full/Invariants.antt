use Rattle.salt_room.proofs.Rooms.{FilledSoFar}
use Rattle.salt_room.proofs.checkpoints.checkpoint_full.Given as goal

abbrev pub invariant-loop-number : goal.invariant-loop-number
invariant-loop-number g l = FilledSoFar (g.D.Disks.view l.fn.disks) (g.D.Disks.view l.disks) l.fn.parts.items l.parts.items l.shares l.number
