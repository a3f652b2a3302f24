use Rattle.salt_bytes.specs.Values.{take_value}
use Rattle.salt_codec.proofs.Lists.{list_fails}
use Rattle.salt_codec.proofs.Values.{took_next}
use Rattle.salt_codec.proofs.take.take_values.Goals as goal
use Rattle.std.proofs.lemmas.Result.{err_from_is_err_and}

pub loop-taken-preserved : goal.loop-taken-preserved
loop-taken-preserved c =
    took_next (take_value c.args.nulls) c.args.count c.args.bytes.now c.loop-taken.values.items c.push.new.self.items c.loop-taken._taken c.loop-taken.rest.now c.in_ok-value.behind.now c.in_ok-value.value
    c.loop-taken-test.true c.in_ok-value.ensures c.in_ok-push.ensures.items c.loop-taken.invariant

pub returns-in_err-value : goal.returns-in_err-value
returns-in_err-value c =
    let p = err_from_is_err_and c.from_residual-in_err-value.result c.from_residual-in_err-value.ensures.1 in
    rw (p.1, p.2) (list_fails (take_value c.args.nulls) c.args.count c.args.bytes.now c.loop-taken.values.items c.loop-taken._taken c.loop-taken.rest.now c.in_err-value.field-0.0 c.loop-taken-test.true c.in_err-value.ensures c.loop-taken.invariant)
