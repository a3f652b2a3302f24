use Rattle.bench_devices.proofs.part.append_units.Goals as goal
use Rattle.std.proofs.Common.{◌∙◌}

pub append-requires : goal.append-requires
append-requires c = c.loop-number.invariant.is_log

pub loop-number-preserved : goal.loop-number-preserved
loop-number-preserved c =
    let was = c.loop-number.invariant.is_log in
    record { is_log = (_, c.in_ok-append.ensures.ok was.0 was.1); count = c.in_ok-append.ensures.others.shape.count ∙ c.loop-number.invariant.count }
