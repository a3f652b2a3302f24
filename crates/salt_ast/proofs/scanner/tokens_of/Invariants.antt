use Rattle.std.proofs.Common.{◌≡◌, ◌≤◌, ◌-◌, length, drop}
use Rattle.salt_ast.specs.Scanning.{lex}
use Rattle.salt_ast.specs.Spans.{pieces, AreInOrder}
use Rattle.salt_ast.proofs.Steps.{with_front}
use Rattle.salt_ast.proofs.scanner.tokens_of.Given as goal

abbrev pub invariant-loop-at : goal.invariant-loop-at
invariant-loop-at l = record {
  so_far : with_front (pieces l.bytes l.tokens) (lex 0 (drop l.at l.bytes)) ≡ lex 0 l.bytes;
  in_order : AreInOrder 0 l.tokens l.at;
  in_range : l.at ≤ length l.bytes;
}

abbrev pub decreases-loop-at : goal.decreases-loop-at
decreases-loop-at l = length l.bytes - l.at
