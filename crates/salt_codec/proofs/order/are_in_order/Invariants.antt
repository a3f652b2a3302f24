use Rattle.salt_bytes.specs.Changes.{are_in_order}
use Rattle.salt_codec.proofs.order.are_in_order.Given as goal
use Rattle.std.proofs.Common.{drop, suc, ℕ, ◌≡◌}

abbrev pub invariant-loop-next : goal.invariant-loop-next
invariant-loop-next l = (before : ℕ) → l.next ≡ suc before → are_in_order (drop before l.changes) ≡ are_in_order l.changes
