use Rattle.salt_locks.proofs.turns.locks_in_turn.Given as goal
use Rattle.salt_locks.specs.Tables.{numbered}
use Rattle.salt_locks.specs.Turns.{at_numbers, locks_in_turn}
use Rattle.std.proofs.Common.{length, ◌≡◌, ◌≤◌}
use Rattle.std.specs.Prelude.{drop}

abbrev pub invariant-loop-left : goal.invariant-loop-left
invariant-loop-left l =
    (l.left ≤ length l.locks.items)
    × (at_numbers l.taken.entries ≡ locks_in_turn l.owner (numbered (drop l.left l.numbers.items) (drop l.left l.locks.items)))

abbrev pub decreases-loop-left : goal.decreases-loop-left
decreases-loop-left l = l.left
