use Rattle.salt_loaded.proofs.Ordered.{order_total}
use Rattle.salt_loaded.proofs.among.sort.Goals as goal
use Rattle.salt_loaded.specs.Order.{spot_order}
use Rattle.std.proofs.Common.{of_calls, rules}
use Rattle.std.proofs.lemmas.Fn.{always_returns_same}
use Rattle.std.proofs.lemmas.List.Sorted.{ranks_by}
use Rattle.std.specs.Ordering.{is_lt}

pub returns-clause-sorted : goal.returns-clause-sorted
returns-clause-sorted c =
    c.sort_unstable_by.ensures.sorted (λ a b. is_lt (spot_order c.args.bytes.now a b)) (ranks_by (order_total c.args.bytes.now) (λ s. s)) (always_returns_same _ _ _ (λ a r f k. search (rules, of_calls)))
