use Rattle.salt_conflicts.proofs.shown.add_units.Given as goal
use Rattle.salt_conflicts.specs.Shown.{owned_by_units}
use Rattle.std.proofs.Common.{take, ◌++◌, ◌≡◌}

abbrev pub invariant-loop-unit : goal.invariant-loop-unit
invariant-loop-unit l = l.items ≡ l.initial.items ++ owned_by_units l.locks (take l.unit-index l.units)
