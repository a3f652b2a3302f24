use Rattle.salt_units.proofs.Merged.{waited}
use Rattle.salt_units.proofs.overlay.Overlay.look_below.Goals as goal
use Rattle.salt_units.specs.Merging.{rows_ahead}
use Rattle.std.proofs.Common.{ap, sym, ◌∙◌}

pub returns-clause-rows : goal.returns-clause-rows
returns-clause-rows g c =
    let row = g.V.Cells.cells c.args.self.now.view.now in
    let rows = g.V.RowView.coming c.args.self.now.view.now in
    waited c.in_ok-more.more (g.V.Cells.cells c.step.new.self) rows (g.V.RowView.coming c.step.new.self) c.in_ok-more.ensures.row c.in_ok-more.ensures.ended
    ∙ ap (λ b. rows_ahead b row rows) (sym c.if-waits.false)

pub returns-clause-none : goal.returns-clause-none
returns-clause-none g c = c.in_ok-more.ensures.ended
