use Rattle.salt_driver.proofs.opening.units_told.Given as goal
use Rattle.salt_driver.specs.Draining.{units_told}
use Rattle.std.proofs.Common.{take}
use Rattle.std.specs.Prelude.{◌≡◌, ◌≤◌}

abbrev pub invariant-loop-event : goal.invariant-loop-event
invariant-loop-event l = (l.units ≡ units_told (take l.event-index l.events)) × (l.units ≤ l.event-index)
