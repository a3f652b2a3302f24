use Rattle.salt_eval.proofs.CellsIn.{gives}
use Rattle.salt_eval.proofs.cells.cell.Goals as goal
use Rattle.salt_eval.specs.Cells.{cell_at}
use Rattle.salt_exprs.specs.Operands.{datum_of}
use Rattle.std.proofs.Common.{ap, slice_get, sym, ◌∙◌}
use Rattle.std.proofs.lemmas.Result.{IfOk-weaker}

pub returns-in_ok-operand-in-Some : goal.returns-in_ok-operand-in-Some
returns-in_ok-operand-in-Some g c =
    let row = g.R.Cells.cells c.args.row.now in
    IfOk-weaker c.value_of.result _ _ (λ value is. is _ (gives (datum_of c.in_ok-operand-in-Some.operand) (slice_get row c.in-Some.number) c.in_ok-operand-in-Some.ensures) ∙ ap (cell_at row) (sym c.in-Some.is)) c.value_of.ensures
