use Rattle.rows_logs.proofs.append_all.Goals as goal
use Rattle.std.proofs.Common.{◌∙◌}

pub append-requires : goal.append-requires
append-requires c = c.loop-payload.invariant.is_log

pub loop-payload-preserved : goal.loop-payload-preserved
loop-payload-preserved c =
    let was = c.loop-payload.invariant.is_log in
    record { is_log = (_, c.in_ok-append.ensures.ok was.0 was.1); count = c.in_ok-append.ensures.others.shape.count ∙ c.loop-payload.invariant.count }
