use Rattle.salt_eval.proofs.Comings.{mapped-some}
use Rattle.salt_model.specs.Tables.{place}
use Rattle.salt_units.proofs.Overlaid.{row-below, row-put}
use Rattle.salt_units.proofs.overlay.OverlayRowView.find.Goals as goal
use Rattle.std.proofs.Common.{ap, is_some, sym, ◌∙◌}
use Rattle.std.proofs.lemmas.Result.{IfOk-weaker}

pub returns-in-Some-clause-row : goal.returns-in-Some-clause-row
returns-in-Some-clause-row g c =
    row-put c.args.self.now.changes.now.items (g.V.RowView.tables c.args.self.now.view.now) (place c.args.table c.args.key.now) c.place_of-self.result _ c.is_some.result (g.V.Cells.cells c.args.self.now.view.now)
    c.args.self.now.in_order c.place_of-self.ensures c.in-Some.is (c.is_some.ensures ∙ sym (mapped-some _ c.row_put.result) ∙ ap is_some c.row_put.ensures)

pub returns-in-None-clause-row : goal.returns-in-None-clause-row
returns-in-None-clause-row g c =
    IfOk-weaker c.find.result _ _
    (λ found row.
    row-below c.args.self.now.changes.now.items (g.V.RowView.tables c.args.self.now.view.now) (place c.args.table c.args.key.now) c.place_of-self.result found (g.V.Cells.cells c.find.new.self)
    c.args.self.now.in_order c.place_of-self.ensures c.in-None.is row)
    c.find.ensures.row
