use Rattle.rows_files.proofs.lines_of.Goals as goal
use Rattle.std.proofs.Common.{arith, ◌∙◌}

pub entry-requires-clause-log : goal.entry-requires-clause-log
entry-requires-clause-log g c = c.loop-i.invariant.is_log

pub entry-requires-clause-below : goal.entry-requires-clause-below
entry-requires-clause-below g c = omega (arith, c.loop-i-test.true, c.loop-i.invariant.count)

pub loop-i-preserved : goal.loop-i-preserved
loop-i-preserved g c =
    let was = c.loop-i.invariant.is_log in
    record { is_log = (was.0, c.in_ok-entry.ensures.log was.0 was.1); count = c.in_ok-entry.ensures.same.count ∙ c.loop-i.invariant.count }
