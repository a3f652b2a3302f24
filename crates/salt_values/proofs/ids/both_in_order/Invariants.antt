use Rattle.salt_values.proofs.ids.both_in_order.Given as goal
use Rattle.salt_values.specs.Id.{in_order}
use Rattle.std.proofs.Common.{drop, length, ◌++◌, ◌≡◌, ◌≤◌}

abbrev pub invariant-loop-left : goal.invariant-loop-left
invariant-loop-left l = (l.left ≤ length l.first) × (l.ordered.items ≡ in_order (drop l.left l.first ++ l.second))

abbrev pub decreases-loop-left : goal.decreases-loop-left
decreases-loop-left l = l.left
