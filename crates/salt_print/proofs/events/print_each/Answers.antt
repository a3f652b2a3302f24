use Rattle.salt_model.specs.EventTexts.{event_text}
use Rattle.salt_ast.proofs.Joins.{Prints-nil}
use Rattle.salt_ast.proofs.Loops.{Prints-more}
use Rattle.salt_print.proofs.events.print_each.Goals as goal

pub loop-event-init : goal.loop-event-init
loop-event-init g c = Prints-nil _ _ c.args.out.now

pub loop-event-preserved : goal.loop-event-preserved
loop-event-preserved g c =
    Prints-more (event_text c.args.schema.now) c.args.events.now c.loop-event.event-index c.event-item.result c.loop-event-test.true
    c.event-item.is c.loop-event.invariant c.print_whole.ensures
