use Rattle.std.proofs.Common.{arith, length, ◌<◌}
use Rattle.salt_ast.proofs.Quotes.{doubles-all, doubles-more, doubles-none, rest_within}
use Rattle.salt_ast.proofs.printer.Printer.doubled.Goals as goal

pub loop-left-init : goal.loop-left-init
loop-left-init g c = record { doubles = doubles-none; shorter = omega arith }

pub returns-then-run-left : goal.returns-then-run-left
returns-then-run-left g c =
    doubles-all _ _ c.run_len-run.ensures.value c.if-run-left.true c.loop-left.invariant.doubles c.bytes.ensures

pub loop-left-preserved : goal.loop-left-preserved
loop-left-preserved g c =
    let more : c.run_len-run.result < length c.loop-left.left.now = omega arith in
    record {
      doubles = doubles-more _ _ c.run_len-run.ensures.value more c.loop-left.invariant.doubles c.bytes.ensures c.bytes-in-loop-left.ensures;
      shorter = rest_within _ _ _ _ c.loop-left.invariant.shorter;
    }
