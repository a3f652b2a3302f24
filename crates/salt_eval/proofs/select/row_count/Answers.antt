use Rattle.salt_eval.proofs.Selecting.{count-gathered, when_err, when_ok}
use Rattle.salt_eval.proofs.select.row_count.Goals as goal
use Rattle.salt_eval.specs.Filtered.{kept_by}
use Rattle.std.proofs.Common.{Ok, ap, sym, ◌∙◌}
use Rattle.std.proofs.lemmas.Result.{err_from_is_err_and}

pub returns-in_err-scan-clause-answer : goal.returns-in_err-scan-clause-answer
returns-in_err-scan-clause-answer g c = λ vars by fits.
    let p = err_from_is_err_and c.from_residual.result c.from_residual.ensures.1 in
    when_err (count-gathered c.args.table c.args.range.now c.args.def.now vars by (kept_by c.args.filter.now) (g.V.RowView.tables c.args.view.now) c.requires fits) c.scan.new.gather c.in_err-scan.field-0.0 p.0 c.from_residual.result c.in_err-scan.ensures.gathered p.1 p.2

pub returns-clause-answer : goal.returns-clause-answer
returns-clause-answer g c = λ vars by fits.
    when_ok (count-gathered c.args.table c.args.range.now c.args.def.now vars by (kept_by c.args.filter.now) (g.V.RowView.tables c.args.view.now) c.requires fits) c.scan.new.gather c.in_ok-scan.ensures.gathered ∙ ap Ok (sym c.answer.ensures)
