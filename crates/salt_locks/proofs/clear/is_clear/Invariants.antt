use Rattle.salt_locks.proofs.clear.is_clear.Given as goal
use Rattle.salt_locks.specs.Clear.{ends_by}
use Rattle.salt_model.specs.declared.locks.Lock.{Lock}
use Rattle.std.proofs.Common.{length, true, ℕ, ◌<◌, ◌≡◌, ◌≤◌}
use Rattle.std.specs.Prelude.{get_or}

abbrev pub invariant-loop-left : goal.invariant-loop-left
invariant-loop-left l = (l.left ≤ l.place) × (l.place ≤ length l.locks.items) × (length l.clear.items ≡ length l.locks.items) × ((k : ℕ) (d : Lock) → l.left ≤ k → k < l.place → ends_by (get_or l.locks.items k d) l.lock ≡ true)

abbrev pub decreases-loop-left : goal.decreases-loop-left
decreases-loop-left l = l.left
