use Rattle.salt_gatelog.proofs.Opening.{Counted}
use Rattle.salt_gatelog.proofs.open.open_counted.Given as goal

abbrev pub invariant-loop-count : goal.invariant-loop-count
invariant-loop-count g l = Counted (g.D.Disks.view l.fn.disks) (g.D.Disks.view l.disks) l.dev l.end l.count l.fn.steps l.steps l.block
