use Rattle.salt_bytes.specs.Conts.{take_cont}
use Rattle.salt_decisions.proofs.Each.{each_fails}
use Rattle.salt_codec.proofs.Values.{took_next}
use Rattle.salt_decisions.proofs.conts.take_each_cont.Goals as goal
use Rattle.std.proofs.lemmas.Result.{err_from_is_err_and}

pub loop-taken-preserved : goal.loop-taken-preserved
loop-taken-preserved c =
    took_next (take_cont c.args.format) c.args.count c.args.bytes.now c.loop-taken.conts c.push.new.self c.loop-taken._taken c.loop-taken.rest.now c.in_ok-cont.behind.now c.in_ok-cont.cont
    c.loop-taken-test.true c.in_ok-cont.ensures c.in_ok-push.ensures.ok c.loop-taken.invariant

pub returns-in_err-cont : goal.returns-in_err-cont
returns-in_err-cont c =
    let p = err_from_is_err_and c.from_residual.result c.from_residual.ensures.1 in
    rw (p.1, p.2) (each_fails (take_cont c.args.format) c.args.count c.args.bytes.now c.loop-taken.conts c.loop-taken._taken c.loop-taken.rest.now c.loop-taken-test.true c.loop-taken.invariant c.in_err-cont.field-0.0 c.in_err-cont.ensures)
