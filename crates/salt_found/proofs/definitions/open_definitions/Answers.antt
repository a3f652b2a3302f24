use Rattle.salt_found.proofs.Defining.{text_fails}
use Rattle.salt_found.proofs.definitions.open_definitions.Goals as goal
use Rattle.std.proofs.lemmas.Result.{err_from_is_err_and}

pub returns-in_err-add : goal.returns-in_err-add
returns-in_err-add c =
    let l = c.loop-text in
    let p = err_from_is_err_and c.from_residual.result c.from_residual.ensures.1 in
    rw (p.1, p.2)
    (text_fails c.args.texts.now l.text-index l.schema l.catalogue l.invariant c.as_slice-text-items.result.now c.as_slice-text-items.ensures c.text-item.result c.loop-text-test.true c.text-item.is
    c.as_slice.result.now c.as_slice.ensures c.in_err-add.field-0.0 (c.in_err-add.ensures l.invariant.definitions l.invariant.are))
