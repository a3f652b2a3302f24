use Rattle.salt_gatelog.proofs.Entries.{Found}
use Rattle.salt_gatelog.proofs.log.GateLog.find.Given as goal
use Rattle.std.proofs.Common.{◌-◌}

abbrev pub invariant-loop-self : goal.invariant-loop-self
invariant-loop-self g l = Found (g.D.Disks.view l.fn.disks) (g.D.Disks.view l.disks) l.fn.self l.self l.i l.block

abbrev pub decreases-loop-self : goal.decreases-loop-self
decreases-loop-self g l = l.i - l.self.next
