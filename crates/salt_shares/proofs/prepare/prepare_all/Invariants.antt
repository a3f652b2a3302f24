use Rattle.salt_shares.proofs.Sharing.{SoFar}
use Rattle.salt_shares.proofs.prepare.prepare_all.Given as goal

abbrev pub invariant-loop-number : goal.invariant-loop-number
invariant-loop-number g l = SoFar (g.D.Disks.view l.fn.disks) (g.D.Disks.view l.disks) l.fn.parts.items l.parts.items l.unit l.shares l.number
