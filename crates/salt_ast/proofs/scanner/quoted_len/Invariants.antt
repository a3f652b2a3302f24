use Rattle.std.proofs.Common.{◌≡◌, drop, false}
use Rattle.salt_ast.specs.Scanning.{more, quoted_at}
use Rattle.salt_ast.proofs.scanner.quoted_len.Given as goal

abbrev pub invariant-loop-i : goal.invariant-loop-i
invariant-loop-i l = more l.i (quoted_at l.after_quote (drop l.i l.bytes)) ≡ quoted_at false l.bytes
