use Rattle.salt_locks.proofs.clear.cover.Given as goal
use Rattle.salt_locks.specs.Clear.{IsMarked}
use Rattle.std.proofs.Common.{false, length, ℕ, ◌-◌, ◌<◌, ◌≡◌, ◌≤◌}
use Rattle.std.specs.Prelude.{Bool, get_or}

abbrev pub invariant-loop-at : goal.invariant-loop-at
invariant-loop-at l = (l.place ≤ l.at) × (l.at ≤ length l.locks.items) × IsMarked l.clear.items l.locks.items
    × ((k : ℕ) (b : Bool) → l.place ≤ k → k < l.at → get_or l.clear.items k b ≡ false)

abbrev pub decreases-loop-at : goal.decreases-loop-at
decreases-loop-at l = length l.locks.items - l.at
