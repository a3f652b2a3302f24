use Rattle.salt_locks.proofs.owners.add_bases.Given as goal
use Rattle.salt_model.specs.declared.events.Owner.{Owner}
use Rattle.std.proofs.Common.{length, map, ◌-◌, ◌++◌, ◌≡◌, ◌≤◌}
use Rattle.std.specs.Prelude.{take}

abbrev pub invariant-loop-at : goal.invariant-loop-at
invariant-loop-at l = (l.at ≤ length l.bases) × (l.owners ≡ l.initial.owners ++ map Owner.Base (take l.at l.bases))

abbrev pub decreases-loop-at : goal.decreases-loop-at
decreases-loop-at l = length l.bases - l.at
