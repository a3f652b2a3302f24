use Rattle.rows_logs.proofs.numbers_in.Goals as goal
use Rattle.std.proofs.Common.{arith, ◌∙◌}

pub entry-requires-clause-log : goal.entry-requires-clause-log
entry-requires-clause-log c = c.loop-i.invariant.is_log

pub entry-requires-clause-below : goal.entry-requires-clause-below
entry-requires-clause-below c = omega (arith, c.loop-i-test.true, c.loop-i.invariant.count)

pub loop-i-preserved : goal.loop-i-preserved
loop-i-preserved c =
    let was = c.loop-i.invariant.is_log in
    record { is_log = (was.0, c.in_ok-entry.ensures.log was.0 was.1); count = c.in_ok-entry.ensures.same.count ∙ c.loop-i.invariant.count }
