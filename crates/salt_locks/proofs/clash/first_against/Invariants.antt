use Rattle.salt_locks.proofs.clash.first_against.Given as goal
use Rattle.salt_model.specs.Locks.{clashes}
use Rattle.std.proofs.Common.{◌-◌, ◌≡◌}
use Rattle.std.specs.List.{find}
use Rattle.std.specs.Prelude.{drop, take}

abbrev pub invariant-loop-at : goal.invariant-loop-at
invariant-loop-at l =
    find (clashes l.owner l.family l.reach) (take (l.to - l.at) (drop l.at l.locks.items))
    ≡ find (clashes l.owner l.family l.reach) (take (l.to - l.from) (drop l.from l.locks.items))

abbrev pub decreases-loop-at : goal.decreases-loop-at
decreases-loop-at l = l.to - l.at
