use Rattle.salt_shares.proofs.Applying.{AppliedSoFar}
use Rattle.salt_shares.proofs.apply.apply_all.Given as goal

abbrev pub invariant-loop-number : goal.invariant-loop-number
invariant-loop-number g l = AppliedSoFar (g.D.Disks.view l.fn.disks) (g.D.Disks.view l.disks) l.fn.parts.items l.parts.items l.unit l.shares l.number
