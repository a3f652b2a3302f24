use Rattle.salt_locks.proofs.Near.{counted, parted, up_to_low}
use Rattle.salt_locks.proofs.Orders.{low_closed, up_to_earlier}
use Rattle.salt_locks.proofs.places.count_no_later.Goals as goal
use Rattle.salt_locks.specs.Places.{is_low_at_most}
use Rattle.std.proofs.Common.{arith, of_calls, rules}
use Rattle.std.proofs.lemmas.Fn.{always_returns_same}

pub returns-clause-value : goal.returns-clause-value
returns-clause-value c = counted (up_to_low c.args.table c.args.low.now) c.args.locks.now.items c.partition_point.result (omega (arith, c.partition_point.ensures.bound, c.args.locks.now.ok.0))
    (c.partition_point.ensures.partitioned (up_to_low c.args.table c.args.low.now) (always_returns_same _ _ _ (λ a r f k. search (rules, of_calls)))
    (parted (up_to_low c.args.table c.args.low.now) (up_to_earlier c.args.table (λ lo. is_low_at_most lo c.args.low.now) (low_closed c.args.low.now)) c.args.locks.now.items c.requires))
