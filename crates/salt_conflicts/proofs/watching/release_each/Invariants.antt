use Rattle.salt_conflicts.proofs.watching.release_each.Given as goal
use Rattle.salt_conflicts.specs.Calls.{is_unreleased}
use Rattle.std.proofs.Common.{drop, length, ◌≡◌, ◌≤◌}
use Rattle.std.specs.List.{filter}

abbrev pub invariant-loop-left : goal.invariant-loop-left
invariant-loop-left l = (l.left ≤ length l.bases) × (l.locks ≡ filter (is_unreleased (drop l.left l.bases)) l.initial.locks)

abbrev pub decreases-loop-left : goal.decreases-loop-left
decreases-loop-left l = l.left
