use Rattle.salt_eval.proofs.Selecting.{columns-gathered, when_err, when_ok}
use Rattle.salt_eval.proofs.select.column_rows.Goals as goal
use Rattle.salt_eval.specs.Filtered.{kept_by}
use Rattle.salt_eval.specs.Cells.{AreNumbersOf}
use Rattle.std.proofs.lemmas.Result.{err_from_is_err_and}

pub returns-in_err-scan-clause-answer : goal.returns-in_err-scan-clause-answer
returns-in_err-scan-clause-answer g c = λ vars by fits.
    let are : AreNumbersOf c.args.def.now.columns c.args.names.now c.in_ok-numbers.numbers = rw (← c.as_slice.ensures, ← c.as_slice-2.ensures) c.in_ok-numbers.ensures in
    let p = err_from_is_err_and c.from_residual-in_err-scan.result c.from_residual-in_err-scan.ensures.1 in
    when_err (columns-gathered c.args.table c.args.range.now c.args.def.now vars by (kept_by c.args.filter.now) (g.V.RowView.tables c.args.view.now) c.requires fits c.args.names.now c.in_ok-numbers.numbers are c.new.result c.new.ensures) c.scan.new.gather c.in_err-scan.field-0.0 p.0 c.from_residual-in_err-scan.result c.in_err-scan.ensures.gathered p.1 p.2

pub returns-clause-answer : goal.returns-clause-answer
returns-clause-answer g c = λ vars by fits.
    let are : AreNumbersOf c.args.def.now.columns c.args.names.now c.in_ok-numbers.numbers = rw (← c.as_slice.ensures, ← c.as_slice-2.ensures) c.in_ok-numbers.ensures in
    when_ok (columns-gathered c.args.table c.args.range.now c.args.def.now vars by (kept_by c.args.filter.now) (g.V.RowView.tables c.args.view.now) c.requires fits c.args.names.now c.in_ok-numbers.numbers are c.new.result c.new.ensures) c.scan.new.gather c.in_ok-scan.ensures.gathered
