use Rattle.salt_commit.proofs.Making.{MadeSoFar}
use Rattle.salt_commit.proofs.open.create_all.Given as goal

abbrev pub invariant-loop-part : goal.invariant-loop-part
invariant-loop-part g l = MadeSoFar (g.D.Disks.view l.fn.disks) (g.D.Disks.view l.disks) l.made.items l.part
