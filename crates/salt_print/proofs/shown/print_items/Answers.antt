use Rattle.salt_model.specs.EventTexts.{item_text}
use Rattle.salt_ast.proofs.Loops.{Prints-more}
use Rattle.salt_print.proofs.shown.print_items.Goals as goal

pub loop-item-preserved : goal.loop-item-preserved
loop-item-preserved g c = Prints-more (item_text c.args.schema.now) c.args.items.now c.loop-item.item-index c.item-item.result c.loop-item-test.true c.item-item.is c.loop-item.invariant c.print_item.ensures
