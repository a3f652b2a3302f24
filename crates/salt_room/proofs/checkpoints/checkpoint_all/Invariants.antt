use Rattle.salt_room.proofs.Rooms.{EmptiedSoFar}
use Rattle.salt_room.proofs.checkpoints.checkpoint_all.Given as goal

abbrev pub invariant-loop-number : goal.invariant-loop-number
invariant-loop-number g l = EmptiedSoFar (g.D.Disks.view l.fn.disks) (g.D.Disks.view l.disks) l.fn.parts.items l.parts.items l.number
