use Rattle.std.proofs.Common.{◌≡◌, ◌++◌, length}
use Rattle.salt_ast.specs.Symbols.{undoubled}
use Rattle.salt_parse.proofs.quoted.content.Given as goal

abbrev pub invariant-loop-byte : goal.invariant-loop-byte
invariant-loop-byte l = l.content.items ++ undoubled l.left ≡ undoubled l.fn.quoted

abbrev pub decreases-loop-byte : goal.decreases-loop-byte
decreases-loop-byte l = length l.left
