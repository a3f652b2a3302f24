use Rattle.law_states.specs.KeptLocks.{is_owned_by}
use Rattle.salt_locks.proofs.salts.last_own.Given as goal
use Rattle.salt_model.specs.declared.locks.Lock.{Lock}
use Rattle.std.proofs.Common.{get_or, ℕ, ◌<◌, ◌≡◌, ◌≤◌}
use Rattle.std.specs.Prelude.{false}

abbrev pub invariant-loop-left : goal.invariant-loop-left
invariant-loop-left l = (l.left ≤ l.to) × ((k : ℕ) (d : Lock) → l.left ≤ k → k < l.to → is_owned_by l.owner (get_or l.locks.items k d) ≡ false)

abbrev pub decreases-loop-left : goal.decreases-loop-left
decreases-loop-left l = l.left
