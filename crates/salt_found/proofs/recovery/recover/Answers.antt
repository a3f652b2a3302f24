use Rattle.salt_found.proofs.Recovering.{conts_fail, definitions_fail, recovers}
use Rattle.salt_found.proofs.recovery.recover.Goals as goal
use Rattle.salt_found.specs.declared.recovery.Recovered.{Recovered}
use Rattle.std.proofs.lemmas.Result.{err_from_is_err_and}

pub returns-in_err-schema : goal.returns-in_err-schema
returns-in_err-schema c log is =
    let p = err_from_is_err_and c.from_residual.result c.from_residual.ensures.1 in
    rw (p.1, p.2) (definitions_fail c.args.kept.now log is c.in_err-schema.field-0.0 c.in_err-schema.ensures)

pub returns-in_err-conts : goal.returns-in_err-conts
returns-in_err-conts c log is =
    let some = c.in_ok-schema.ensures in
    let p = err_from_is_err_and c.from_residual-in_err-conts.result c.from_residual-in_err-conts.ensures.1 in
    rw (p.1, p.2) (conts_fail c.args.kept.now log is some.definitions some.is c.in_err-conts.field-0.0 (c.in_err-conts.ensures log some.definitions is some.are.programs))

pub returns : goal.returns
returns c log is =
    let some = c.in_ok-schema.ensures in
    let r : Recovered = record { schema = c.in_ok-schema.schema; catalogue = c.in_ok-schema.catalogue; conts = c.in_ok-conts.conts } in
    recovers c.args.kept.now log is r some (c.in_ok-conts.ensures log some.definitions is some.are.programs)
