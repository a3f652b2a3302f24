use Rattle.salt_eval.proofs.Selecting.{sum-gathered, when_err, when_fails, when_ok}
use Rattle.salt_eval.proofs.select.column_sum.Goals as goal
use Rattle.salt_eval.specs.Filtered.{kept_by}
use Rattle.salt_exprs.specs.Names.{IsNumberOf}
use Rattle.std.proofs.Common.{sym, ◌∙◌}
use Rattle.std.proofs.lemmas.Result.{err_from_is_err_and}

pub returns-in_err-scan-clause-answer : goal.returns-in_err-scan-clause-answer
returns-in_err-scan-clause-answer g c = λ vars by fits.
    let is : IsNumberOf c.args.def.now.columns c.args.name.now c.column_number.result = rw (← c.as_slice.ensures, ← c.as_slice-2.ensures) c.column_number.ensures in
    let p = err_from_is_err_and c.from_residual.result c.from_residual.ensures.1 in
    when_err (sum-gathered c.args.table c.args.range.now c.args.def.now vars by (kept_by c.args.filter.now) (g.V.RowView.tables c.args.view.now) c.requires fits c.args.name.now c.column_number.result is) c.scan.new.gather c.in_err-scan.field-0.0 p.0 c.from_residual.result c.in_err-scan.ensures.gathered p.1 p.2

pub returns-clause-answer : goal.returns-clause-answer
returns-clause-answer g c = λ vars by fits.
    let is : IsNumberOf c.args.def.now.columns c.args.name.now c.column_number.result = rw (← c.as_slice.ensures, ← c.as_slice-2.ensures) c.column_number.ensures in
    when_ok (sum-gathered c.args.table c.args.range.now c.args.def.now vars by (kept_by c.args.filter.now) (g.V.RowView.tables c.args.view.now) c.requires fits c.args.name.now c.column_number.result is) c.scan.new.gather c.in_ok-scan.ensures.gathered ∙ sym c.answer.ensures ∙ c.in_ok-answer.was

pub returns-in_err-answer-clause-answer : goal.returns-in_err-answer-clause-answer
returns-in_err-answer-clause-answer g c = λ vars by fits.
    let is : IsNumberOf c.args.def.now.columns c.args.name.now c.column_number.result = rw (← c.as_slice.ensures, ← c.as_slice-2.ensures) c.column_number.ensures in
    let p = err_from_is_err_and c.from_residual-in_err-answer.result c.from_residual-in_err-answer.ensures.1 in
    when_fails c.in_err-answer.field-0.0 (when_ok (sum-gathered c.args.table c.args.range.now c.args.def.now vars by (kept_by c.args.filter.now) (g.V.RowView.tables c.args.view.now) c.requires fits c.args.name.now c.column_number.result is) c.scan.new.gather c.in_ok-scan.ensures.gathered ∙ sym c.answer.ensures ∙ c.in_err-answer.was) p.0 c.from_residual-in_err-answer.result p.1 p.2
