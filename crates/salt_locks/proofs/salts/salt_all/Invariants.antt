use Rattle.salt_locks.proofs.salts.salt_all.Given as goal
use Rattle.salt_locks.specs.Tables.{salted_lock}
use Rattle.std.proofs.Common.{length, map, ◌-◌, ◌++◌, ◌≡◌, ◌≤◌}
use Rattle.std.specs.Prelude.{drop, take}

abbrev pub invariant-loop-at : goal.invariant-loop-at
invariant-loop-at l =
    (l.at ≤ length l.locks.items)
    × (length l.locks.items ≡ length l.initial.locks.items)
    × (l.locks.items ≡ map (salted_lock l.unit l.base) (take l.at l.initial.locks.items) ++ drop l.at l.initial.locks.items)

abbrev pub decreases-loop-at : goal.decreases-loop-at
decreases-loop-at l = length l.locks.items - l.at
