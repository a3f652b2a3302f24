use Rattle.salt_locks.proofs.Meeting.{met_part}
use Rattle.salt_locks.proofs.clear.met.Goals as goal
use Rattle.std.proofs.Common.{arith}

pub returns-clause-part : goal.returns-clause-part
returns-clause-part c = let min = c.min-from.ensures in met_part c.args.table c.args.range.now c.args.locks.now.items c.min-from.result c.count_to-to.result c.requires.order c.count_to-to.ensures.value (λ k d h. c.first_reaching.ensures k d (omega (arith, h, min)))
