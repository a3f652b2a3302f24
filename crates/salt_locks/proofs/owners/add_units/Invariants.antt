use Rattle.salt_locks.proofs.owners.add_units.Given as goal
use Rattle.salt_model.specs.declared.events.Owner.{Owner}
use Rattle.std.proofs.Common.{length, map, ◌-◌, ◌++◌, ◌≡◌, ◌≤◌}
use Rattle.std.specs.Prelude.{take}

abbrev pub invariant-loop-at : goal.invariant-loop-at
invariant-loop-at l = (l.at ≤ length l.units) × (l.owners ≡ l.initial.owners ++ map Owner.Unit (take l.at l.units))

abbrev pub decreases-loop-at : goal.decreases-loop-at
decreases-loop-at l = length l.units - l.at
