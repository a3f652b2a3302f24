use Rattle.salt_eval.proofs.CellsIn.{first-key, gives}
use Rattle.salt_eval.proofs.cells.key_in.Goals as goal
use Rattle.salt_exprs.specs.Operands.{datum_of}
use Rattle.std.proofs.Common.{slice_get, ◌∙◌}
use Rattle.std.proofs.lemmas.Result.{IfOk-weaker}

pub returns : goal.returns
returns g c =
    let row = g.R.Cells.cells c.args.row.now in
    IfOk-weaker c.value_of.result _ _ (λ value is. is _ (gives (datum_of c.in_ok-first.first) (slice_get row 0) c.in_ok-first.ensures) ∙ first-key row) c.value_of.ensures
