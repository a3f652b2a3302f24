use Rattle.std.proofs.Common.{[]}
use Rattle.std.proofs.lemmas.Result.{err_from_is_err_and}
use Rattle.salt_model.specs.Reaches.{in_row}
use Rattle.salt_exprs.proofs.Lists.{with_sets-goes_on}
use Rattle.salt_exprs.proofs.Steps.{passed_on}
use Rattle.salt_exprs.proofs.sets.row_after_one.Goals as goal

pub returns-in_err-value : goal.returns-in_err-value
returns-in_err-value c =
    let p = err_from_is_err_and c.from_residual.result c.from_residual.ensures.1 in
    let meant = rw (c.as_slice-columns.ensures, c.as_slice.ensures) at c.in_err-value.ensures in
    rw (p.1, p.2) (passed_on _ _ _ meant)

pub returns : goal.returns
returns c =
    let value = rw (c.as_slice-columns.ensures, c.as_slice.ensures) at c.in_ok-value.ensures in
    let put = rw c.as_slice-columns.ensures at c.in_ok-put.ensures in
    with_sets-goes_on c.args.def.now (in_row c.args.def.now c.args.row c.args.vars.now) c.args.set.now [] c.args.row c.put.new.row c.in_ok-value.value value put
