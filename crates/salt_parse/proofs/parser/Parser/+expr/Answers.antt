use Rattle.std.proofs.Common.{◌+◌, ◌-◌, length, sym, ap, ◌∙◌, arith}
use Rattle.std.proofs.lemmas.Result.{err_from_is_err_and}
use Rattle.salt_parse.specs.Flags.{built_of}
use Rattle.salt_parse.specs.Reading.{level_precedence, negations, operand_at, sum_at, within_at}
use Rattle.salt_parse.proofs.Loop.{IsTail-ends, IsTail-fails, IsTail-goes_on, negations-goes_on, once_alone, same_read}
use Rattle.salt_parse.proofs.parser.Parser.+expr.Goals as goal

pub operation-returns-in_err-right-clause-reads : goal.operation-returns-in_err-right-clause-reads
operation-returns-in_err-right-clause-reads t c =
    let p = err_from_is_err_and c.from_residual-in_err-right.result c.from_residual-in_err-right.ensures.1 in
    let next = rw c.precedence.ensures at c.in-Some.ensures.takes in
    rw (p.1, p.2) (IsTail-fails (level_precedence c.args.level) (operand_at c.args.level (within_at c.args.room))
    (built_of c.loop-op.left) c.loop-op.self c.take_operator.new.self c.in-Some.op _ _ c.loop-op.invariant.tail
    (sym next) c.in-Some.ensures.flags c.in_err-right.ensures.reads)

pub operation-loop-op-preserved : goal.operation-loop-op-preserved
operation-loop-op-preserved t c =
    let join = c.in_ok-left-2.ensures in
    let next = rw c.precedence.ensures at c.in-Some.ensures.takes in
    record {
      tail = IsTail-goes_on (level_precedence c.args.level) (operand_at c.args.level (within_at c.args.room)) (built_of c.loop-op.left)
          (built_of c.in_ok-right.right) (built_of c.in_ok-left-2.left) c.loop-op.self c.take_operator.new.self c.level_operand-in-Some.new.self
          c.join.new.self c.in-Some.op _ c.loop-op.invariant.tail
          (sym next) c.in-Some.ensures.flags c.in_ok-right.ensures.reads c.in_ok-right.ensures.shrinks join.built join.flags join.left;
      shorter = omega (arith, ap (λ ts. length ts) join.left, c.in_ok-right.ensures.shrinks, c.in-Some.ensures.shrinks, c.loop-op.invariant.shorter);
    }

pub operation-returns-clause-reads : goal.operation-returns-clause-reads
operation-returns-clause-reads t c =
    let next = rw c.precedence.ensures at c.in_default.ensures.takes in
    IsTail-ends (level_precedence c.args.level) (operand_at c.args.level (within_at c.args.room))
    (built_of c.loop-op.left) c.loop-op.self c.take_operator.new.self _ c.loop-op.invariant.tail (sym next) c.in_default.ensures.flags

pub negation-loop-preserved : goal.negation-loop-preserved
negation-loop-preserved t c =
    let one = c.in_ok-inside-2.ensures in
    let n = c.skip_nots-nots.result in
    let i = c.loop.counter in
    let renamed = same_read _ (built_of c.in_ok-inside-2.inside) _ c.surround.new.self.flags c.loop.self.left c.surround.new.self.left one.built one.flags
    one.left in
    record {
      so_far = ap (negations (n - (i + 1))) renamed
          ∙ negations-goes_on n i (built_of c.loop.inside, c.loop.self.flags, c.loop.self.left) _ c.loop-test.true c.loop.invariant.so_far;
      stays = one.left ∙ c.loop.invariant.stays;
    }

pub comparison-returns-in-None-clause-reads : goal.comparison-returns-in-None-clause-reads
comparison-returns-in-None-clause-reads t c =
    once_alone (sum_at (within_at c.args.room)) (built_of c.in_ok-left.left) c.args.self.now c.operation.new.self c.take_operator.new.self
    c.null_test.new.self c.null_test.result c.in_ok-left.ensures.reads (sym c.in-None.ensures.takes) c.in-None.ensures.stays c.null_test.ensures.reads
