use Rattle.salt_decisions.proofs.Hearing.{HearsSoFar}
use Rattle.salt_decisions.proofs.read.hear_all.Given as goal

abbrev pub invariant-loop-i : goal.invariant-loop-i
invariant-loop-i g l = HearsSoFar (g.D.Disks.view l.fn.disks) (g.D.Disks.view l.disks) l.fn.gate l.gate l.parts l.fn.said l.said l.i
