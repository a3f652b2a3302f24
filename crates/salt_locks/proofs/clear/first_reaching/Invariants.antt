use Rattle.salt_locks.proofs.Near.{up_to_below}
use Rattle.salt_locks.proofs.clear.first_reaching.Given as goal
use Rattle.std.proofs.Common.{◌≤◌}
use Rattle.std.specs.List.{prefix_len}

abbrev pub invariant-loop-left : goal.invariant-loop-left
invariant-loop-left l = l.left ≤ prefix_len (up_to_below l.table l.low) l.locks.items

abbrev pub decreases-loop-left : goal.decreases-loop-left
decreases-loop-left l = l.left
