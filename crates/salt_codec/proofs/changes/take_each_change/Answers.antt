use Rattle.salt_bytes.specs.Changes.{take_change}
use Rattle.salt_codec.proofs.Values.{took_next}
use Rattle.salt_codec.proofs.Lists.{each_fails}
use Rattle.salt_codec.proofs.changes.take_each_change.Goals as goal
use Rattle.std.proofs.lemmas.Result.{err_from_is_err_and}

pub loop-taken-preserved : goal.loop-taken-preserved
loop-taken-preserved c =
    took_next (take_change c.args.nulls) c.args.count c.args.bytes.now c.loop-taken.changes.items c.push.new.self.items c.loop-taken._taken c.loop-taken.rest.now c.in_ok-change.behind.now c.in_ok-change.change
    c.loop-taken-test.true c.in_ok-change.ensures c.in_ok-push.ensures.items c.loop-taken.invariant

pub returns-in_err-change : goal.returns-in_err-change
returns-in_err-change c =
    let p = err_from_is_err_and c.from_residual-in_err-change.result c.from_residual-in_err-change.ensures.1 in
    rw (p.1, p.2) (each_fails (take_change c.args.nulls) c.args.count c.args.bytes.now c.loop-taken.changes.items c.loop-taken._taken c.loop-taken.rest.now c.in_err-change.field-0.0 c.loop-taken-test.true c.in_err-change.ensures c.loop-taken.invariant)
