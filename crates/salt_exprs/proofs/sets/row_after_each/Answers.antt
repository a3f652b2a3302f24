use Rattle.std.proofs.Common.{drop, ◌+◌, ◌∙◌}
use Rattle.std.proofs.lemmas.List.{drop_more}
use Rattle.std.proofs.lemmas.Result.{err_from_is_err_and}
use Rattle.salt_model.specs.Reaches.{in_row}
use Rattle.salt_exprs.proofs.Lists.{with_sets-goes_on}
use Rattle.salt_exprs.proofs.Steps.{passed_on}
use Rattle.salt_exprs.proofs.sets.row_after_each.Goals as goal

pub returns-in_err-value : goal.returns-in_err-value
returns-in_err-value c =
    let p = err_from_is_err_and c.from_residual-in_err-value.result c.from_residual-in_err-value.ensures.1 in
    let meant = rw (c.as_slice-columns.ensures, c.as_slice.ensures) at c.in_err-value.ensures in
    rw (p.1, p.2, c.loop-set.invariant, drop_more c.args.sets.now c.loop-set.set-index c.set-item.result c.loop-set-test.true, ← c.set-item.is)
    (passed_on _ _ _ meant)

pub loop-set-preserved : goal.loop-set-preserved
loop-set-preserved c =
    let value = rw (c.as_slice-columns.ensures, c.as_slice.ensures) at c.in_ok-value.ensures in
    let put = rw c.as_slice-columns.ensures at c.in_ok-put.ensures in
    c.loop-set.invariant ∙
    rw (drop_more c.args.sets.now c.loop-set.set-index c.set-item.result c.loop-set-test.true, ← c.set-item.is)
    (with_sets-goes_on c.args.def.now (in_row c.args.def.now c.args.old.now c.args.vars.now) c.set-item.result (drop (c.loop-set.set-index + 1) c.args.sets.now) c.loop-set.row c.put.new.row c.in_ok-value.value
    value put)
