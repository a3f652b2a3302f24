use Rattle.std.proofs.Common.{◌≡◌, ◌≤◌, ◌+◌, length}
use Rattle.salt_ast.specs.Symbols.{undoubled}
use Rattle.salt_parse.proofs.quoted.content_len.Given as goal

abbrev pub invariant-loop-rest : goal.invariant-loop-rest
invariant-loop-rest l = record {
  so_far : l.count + length (undoubled l.left) ≡ length (undoubled l.fn.quoted);
  few : l.count + length l.left ≤ length l.fn.quoted;
}

abbrev pub decreases-loop-rest : goal.decreases-loop-rest
decreases-loop-rest l = length l.left
