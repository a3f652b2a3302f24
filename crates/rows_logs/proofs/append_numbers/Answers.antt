use Rattle.rows_logs.proofs.append_numbers.Goals as goal
use Rattle.std.proofs.Common.{◌∙◌}

pub append-requires : goal.append-requires
append-requires c = c.loop-i.invariant.is_log

pub loop-i-preserved : goal.loop-i-preserved
loop-i-preserved c =
    let was = c.loop-i.invariant.is_log in
    record { is_log = (_, c.in_ok-append.ensures.ok was.0 was.1); count = c.in_ok-append.ensures.others.shape.count ∙ c.loop-i.invariant.count }
