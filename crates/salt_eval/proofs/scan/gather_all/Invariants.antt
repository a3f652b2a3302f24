use Rattle.salt_eval.proofs.scan.gather_all.Given as goal
use Rattle.salt_eval.specs.Filtered.{filtered, kept_by}
use Rattle.salt_eval.specs.Scans.{gathered}
use Rattle.std.proofs.Common.{length, ◌≡◌}

abbrev pub invariant-rows : goal.invariant-rows
invariant-rows g l = record {
  kept : g.V.RowView.tables l.view ≡ g.V.RowView.tables l.initial.view;
  source : g.V.RowView.shown_from l.view ≡ g.V.RowView.shown_from l.initial.view;
  faults : g.V.RowView.faults l.view ≡ g.V.RowView.faults l.initial.view;
  rest : gathered (filtered (kept_by l.filter) g.G.Gather.with_row) l.gather (g.V.RowView.coming l.view) ≡ gathered (filtered (kept_by l.filter) g.G.Gather.with_row) l.initial.gather (g.V.RowView.coming l.initial.view);
}

abbrev pub decreases-rows : goal.decreases-rows
decreases-rows g l = length (g.V.RowView.coming l.view)
