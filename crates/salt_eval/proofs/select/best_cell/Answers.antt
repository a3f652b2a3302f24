use Rattle.salt_eval.proofs.Selecting.{best-gathered, when_err, when_ok}
use Rattle.salt_eval.proofs.select.best_cell.Goals as goal
use Rattle.salt_eval.specs.Filtered.{kept_by}
use Rattle.salt_exprs.specs.Names.{IsNumberOf}
use Rattle.std.proofs.lemmas.Result.{err_from_is_err_and}

pub returns-in_err-scan-clause-answer : goal.returns-in_err-scan-clause-answer
returns-in_err-scan-clause-answer g c = λ vars by fits.
    let is : IsNumberOf c.args.def.now.columns c.args.name.now c.column_number.result = rw (← c.as_slice.ensures, ← c.as_slice-2.ensures) c.column_number.ensures in
    let p = err_from_is_err_and c.from_residual.result c.from_residual.ensures.1 in
    when_err (best-gathered c.args.table c.args.range.now c.args.def.now vars by (kept_by c.args.filter.now) (g.V.RowView.tables c.args.view.now) c.requires fits c.args.is_greatest c.args.name.now c.column_number.result is) c.scan.new.gather c.in_err-scan.field-0.0 p.0 c.from_residual.result c.in_err-scan.ensures.gathered p.1 p.2

pub returns-clause-answer : goal.returns-clause-answer
returns-clause-answer g c = λ vars by fits.
    let is : IsNumberOf c.args.def.now.columns c.args.name.now c.column_number.result = rw (← c.as_slice.ensures, ← c.as_slice-2.ensures) c.column_number.ensures in
    when_ok (best-gathered c.args.table c.args.range.now c.args.def.now vars by (kept_by c.args.filter.now) (g.V.RowView.tables c.args.view.now) c.requires fits c.args.is_greatest c.args.name.now c.column_number.result is) c.scan.new.gather c.in_ok-scan.ensures.gathered
