use Rattle.std.proofs.Common.{arith}
use Rattle.salt_ast.specs.Symbols.{largest_int}
use Rattle.salt_ast.proofs.Digits.{digit_from, number_more}
use Rattle.salt_ast.proofs.lexeme.number.Goals as goal

pub overflow_sub-digit : goal.overflow_sub-digit
overflow_sub-digit c = let r = digit_from c.args.digits.now c.loop-digit.digit-index c.requires c.loop-digit-test.true in r.0

pub loop-digit-preserved : goal.loop-digit-preserved
loop-digit-preserved c = let n = c.loop-digit.invariant in number_more c.args.digits.now c.loop-digit.digit-index largest_int _ _ c.requires c.loop-digit-test.true (omega arith) (rw n at c.saturating_mul.ensures) c.saturating_add-n.ensures
