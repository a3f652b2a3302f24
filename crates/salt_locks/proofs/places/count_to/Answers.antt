use Rattle.salt_locks.proofs.Near.{counted, end_closed, parted, up_to_end}
use Rattle.salt_locks.proofs.places.count_to.Goals as goal
use Rattle.std.proofs.Common.{arith, of_calls, rules}
use Rattle.std.proofs.lemmas.Fn.{always_returns_same}

pub returns-clause-value : goal.returns-clause-value
returns-clause-value c = counted (up_to_end c.args.table c.args.hi.now) c.args.locks.now.items c.partition_point.result (omega (arith, c.partition_point.ensures.bound, c.args.locks.now.ok.0))
    (c.partition_point.ensures.partitioned (up_to_end c.args.table c.args.hi.now) (always_returns_same _ _ _ (λ a r f k. search (rules, of_calls))) (parted (up_to_end c.args.table c.args.hi.now) (end_closed c.args.table c.args.hi.now) c.args.locks.now.items c.requires))
