use Rattle.std.proofs.Common.{take}
use Rattle.std.specs.List.{flat_map}
use Rattle.salt_model.specs.EventTexts.{item_text}
use Rattle.salt_ast.specs.Prints.{Prints}
use Rattle.salt_print.proofs.shown.print_items.Given as goal

abbrev pub invariant-loop-item : goal.invariant-loop-item
invariant-loop-item g l = Prints g.K.Sink.held g.K.Sink.faults l.fn.out l.out (flat_map (item_text l.fn.schema) (take l.item-index l.items))
