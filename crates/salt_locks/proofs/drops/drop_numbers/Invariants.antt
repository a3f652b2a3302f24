use Rattle.salt_locks.proofs.drops.drop_numbers.Given as goal
use Rattle.salt_locks.specs.Leaving.{stays}
use Rattle.salt_locks.specs.Tables.{numbered}
use Rattle.std.proofs.Common.{length, map, ◌-◌, ◌++◌, ◌≡◌, ◌≤◌}
use Rattle.std.specs.List.{filter}
use Rattle.std.specs.Prelude.{drop, take}

abbrev pub invariant-loop-at : goal.invariant-loop-at
invariant-loop-at l =
    (l.kept ≤ l.at)
    × (l.at ≤ length l.locks.items)
    × (length l.numbers.items ≡ length l.locks.items)
    × (take l.kept l.numbers.items ++ map (λ n. n.number) (filter (stays l.leaving) (numbered (drop l.at l.numbers.items) (drop l.at l.locks.items)))
    ≡ map (λ n. n.number) (filter (stays l.leaving) (numbered l.initial.numbers.items l.locks.items)))

abbrev pub decreases-loop-at : goal.decreases-loop-at
decreases-loop-at l = length l.locks.items - l.at
