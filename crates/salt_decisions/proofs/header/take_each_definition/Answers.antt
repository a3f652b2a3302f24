use Rattle.salt_bytes.specs.Coordinator.{take_numbered}
use Rattle.salt_decisions.proofs.Each.{each_fails_as, each_next_as}
use Rattle.salt_decisions.proofs.header.take_each_definition.Goals as goal
use Rattle.salt_decisions.specs.Header.{numbered_of}
use Rattle.std.proofs.lemmas.Result.{err_from_is_err_and}
use Rattle.std.specs.Prelude.{map}

pub loop-taken-preserved : goal.loop-taken-preserved
loop-taken-preserved c =
    each_next_as numbered_of take_numbered c.args.count c.args.bytes.now c.loop-taken.definitions c.push.new.self c.loop-taken._taken c.loop-taken.rest.now c.in_ok-definition.behind.now c.in_ok-definition.definition
    c.loop-taken-test.true c.in_ok-definition.ensures c.in_ok-push.ensures.ok c.loop-taken.invariant

pub returns-in_err-definition : goal.returns-in_err-definition
returns-in_err-definition c =
    let p = err_from_is_err_and c.from_residual.result c.from_residual.ensures.1 in
    rw (p.1, p.2) (each_fails_as take_numbered c.args.count c.args.bytes.now (map numbered_of c.loop-taken.definitions) c.loop-taken._taken c.loop-taken.rest.now c.loop-taken-test.true c.loop-taken.invariant numbered_of (map numbered_of) c.in_err-definition.field-0.0 c.in_err-definition.ensures)
