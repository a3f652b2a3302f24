use Rattle.std.proofs.Common.{arith, ◌++◌}
use Rattle.salt_ast.proofs.Loops.{Prints-more, preceded-taken}
use Rattle.salt_ast.proofs.Joins.{◌⨾◌}
use Rattle.salt_ast.proofs.printer.Printer.preceded.Goals as goal

pub loop-item-preserved : goal.loop-item-preserved
loop-item-preserved g c = Prints-more (λ item. c.args.before.now ++ g.T.Canonical.text item) c.args.items.now c.loop-item.item-index c.item-item.result c.loop-item-test.true c.item-item.is c.loop-item.invariant (c.bytes.ensures ⨾ c.print.ensures)

pub returns : goal.returns
returns g c = rw (preceded-taken c.args.before.now g.T.Canonical.text c.args.items.now c.loop-item.item-index (omega arith)) c.loop-item.invariant
