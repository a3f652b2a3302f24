use Rattle.salt_commit.proofs.Telling.{Tells}
use Rattle.salt_commit.proofs.tell.tell_all.Given as goal
use Rattle.std.proofs.Common.{◌-◌, ◌^◌}

abbrev pub invariant-tell : goal.invariant-tell
invariant-tell g l = Tells (g.D.Disks.view l.fn.disks) (g.D.Disks.view l.disks) l.fn.parts.items l.parts.items l.unit l.fn.shares.items l.shares.items l.fn.messages l.messages

abbrev pub decreases-tell : goal.decreases-tell
decreases-tell g l = 2 ^ 64 - l.steps
