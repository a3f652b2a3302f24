use Rattle.std.proofs.Common.{◌≡◌, min, take}
use Rattle.std.specs.Str.Parse.{digits_value}
use Rattle.salt_ast.specs.Symbols.{largest_int}
use Rattle.salt_ast.proofs.lexeme.number.Given as goal

abbrev pub invariant-loop-digit : goal.invariant-loop-digit
invariant-loop-digit l = l.n ≡ min (digits_value 10 (take l.digit-index l.digits)) largest_int
