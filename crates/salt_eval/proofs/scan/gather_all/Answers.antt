use Rattle.salt_eval.proofs.Scanning.{fewer, gathered-next}
use Rattle.salt_eval.proofs.scan.gather_all.Goals as goal
use Rattle.salt_eval.specs.Filtered.{filtered, kept_by}
use Rattle.salt_eval.specs.Views.{coming_where}
use Rattle.std.proofs.Common.{ap, ◌∙◌, ◌∷◌, ◌≡◌}

pub rows-smaller : goal.rows-smaller
rows-smaller g c =
    let is : g.V.RowView.coming c.rows.view ≡ g.V.Cells.cells c.step.new.self ∷ g.V.RowView.coming c.step.new.self =
    c.in_ok-step.ensures.row ∙ ap (λ more. coming_where more (g.V.Cells.cells c.step.new.self) (g.V.RowView.coming c.step.new.self)) c.if-branch.true in
    fewer (g.V.Cells.cells c.step.new.self) (g.V.RowView.coming c.step.new.self) (g.V.RowView.coming c.rows.view) is

pub rows-preserved : goal.rows-preserved
rows-preserved g c =
    let is : g.V.RowView.coming c.rows.view ≡ g.V.Cells.cells c.step.new.self ∷ g.V.RowView.coming c.step.new.self =
    c.in_ok-step.ensures.row ∙ ap (λ more. coming_where more (g.V.Cells.cells c.step.new.self) (g.V.RowView.coming c.step.new.self)) c.if-branch.true in
    record {
      kept = c.in_ok-step.ensures.kept ∙ c.rows.invariant.kept;
      source = c.in_ok-step.ensures.source ∙ c.rows.invariant.source;
      faults = c.in_ok-step.ensures.faults ∙ c.rows.invariant.faults;
      rest =
          gathered-next (filtered (kept_by c.args.filter.now) g.G.Gather.with_row) c.rows.gather c.take_kept.new.gather (g.V.Cells.cells c.step.new.self) (g.V.RowView.coming c.step.new.self) (g.V.RowView.coming c.rows.view) is c.in_ok-take_kept.ensures
          ∙ c.rows.invariant.rest;
    }
