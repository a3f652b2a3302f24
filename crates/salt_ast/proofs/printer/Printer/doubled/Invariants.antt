use Rattle.std.proofs.Common.{length, ◌≤◌}
use Rattle.salt_ast.proofs.Quotes.{Doubles}
use Rattle.salt_ast.proofs.printer.Printer.doubled.Given as goal

abbrev pub invariant-loop-left : goal.invariant-loop-left
invariant-loop-left g l = record {
  doubles : Doubles g.K.Sink.held g.K.Sink.faults l.fn.self l.self l.fn.text l.left;
  shorter : length l.left ≤ length l.fn.text;
}

abbrev pub decreases-loop-left : goal.decreases-loop-left
decreases-loop-left g l = length l.left
