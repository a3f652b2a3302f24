use Rattle.salt_locks.proofs.Clearing.{EndLast, IsMarkedTo}
use Rattle.salt_locks.proofs.clear.mark.Given as goal
use Rattle.std.proofs.Common.{length, ◌-◌, ◌<◌, ◌≡◌, ◌≤◌}

abbrev pub invariant-loop-at : goal.invariant-loop-at
invariant-loop-at l = (l.at ≤ length l.locks.items) × (l.last ≤ l.at) × (0 < l.at → l.last < l.at) × (length l.clear.items ≡ length l.locks.items) × IsMarkedTo l.at l.clear.items l.locks.items
    × EndLast l.last l.at l.locks.items

abbrev pub decreases-loop-at : goal.decreases-loop-at
decreases-loop-at l = length l.locks.items - l.at
