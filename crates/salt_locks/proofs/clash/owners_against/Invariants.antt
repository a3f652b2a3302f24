use Rattle.salt_locks.proofs.clash.owners_against.Given as goal
use Rattle.salt_locks.specs.Tables.{bases_in, units_in}
use Rattle.salt_model.specs.Locks.{clashes}
use Rattle.std.proofs.Common.{length, ◌-◌, ◌≡◌, ◌≤◌}
use Rattle.std.specs.List.{filter}
use Rattle.std.specs.Prelude.{drop, take}

abbrev pub invariant-loop-left : goal.invariant-loop-left
invariant-loop-left l =
    (l.from ≤ l.left)
    × (l.left ≤ l.to)
    × (l.to ≤ length l.locks.items)
    × (l.units.items ≡ units_in (filter (clashes l.owner l.family l.reach) (take (l.to - l.left) (drop l.left l.locks.items))))
    × (l.bases.items ≡ bases_in (filter (clashes l.owner l.family l.reach) (take (l.to - l.left) (drop l.left l.locks.items))))

abbrev pub decreases-loop-left : goal.decreases-loop-left
decreases-loop-left l = l.left
