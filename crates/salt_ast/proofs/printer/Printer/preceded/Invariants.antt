use Rattle.std.proofs.Common.{take, ◌++◌}
use Rattle.std.specs.List.{flat_map}
use Rattle.salt_ast.specs.Prints.{Prints}
use Rattle.salt_ast.proofs.printer.Printer.preceded.Given as goal

abbrev pub invariant-loop-item : goal.invariant-loop-item
invariant-loop-item g l = Prints g.K.Sink.held g.K.Sink.faults l.fn.self l.self (flat_map (λ item. l.fn.before ++ g.T.Canonical.text item) (take l.item-index l.items))
