use Rattle.std.proofs.Common.{◌≤◌, ◌-◌, length}
use Rattle.salt_ast.proofs.Lexing.{IsLexed}
use Rattle.salt_ast.proofs.lexeme.lexemes.Given as goal

abbrev pub invariant-loop-at : goal.invariant-loop-at
invariant-loop-at l = record {
  lexed : IsLexed l.bytes l.at l.lexemes.items;
  in_range : l.at ≤ length l.bytes;
}

abbrev pub decreases-loop-at : goal.decreases-loop-at
decreases-loop-at l = length l.bytes - l.at
