use Rattle.salt_driver.proofs.Draining.{units-taken}
use Rattle.salt_driver.proofs.opening.units_told.Goals as goal

pub loop-event-preserved : goal.loop-event-preserved
loop-event-preserved c =
    units-taken c.args.events.now c.loop-event.event-index c.event-item.result c.loop-event.units c.unit_in-units.result c.loop-event-test.true c.event-item.is c.unit_in-units.ensures c.loop-event.invariant
