use Rattle.salt_units.proofs.overlay.OverlayRowView.step.Given as goal
use Rattle.salt_units.specs.Merging.{changes_ahead, merged, rows_ahead}
use Rattle.std.proofs.Common.{◌-◌, ◌≡◌}

abbrev pub invariant-changes : goal.invariant-changes
invariant-changes g l = record {
  same : l.self.changes ≡ l.fn.self.changes;
  end : l.self.cursor.end ≡ l.fn.self.cursor.end;
  reference : l.self.view.ghost_name ≡ l.fn.self.view.ghost_name;
  kept : g.V.RowView.tables l.self.view.now ≡ g.V.RowView.tables l.fn.self.view.now;
  source : g.V.RowView.shown_from l.self.view.now ≡ g.V.RowView.shown_from l.fn.self.view.now;
  faults : g.V.RowView.faults l.self.view.now ≡ g.V.RowView.faults l.fn.self.view.now;
  rest : merged (changes_ahead l.self.cursor.next l.self.cursor.end l.self.changes.now.items) (rows_ahead l.self.cursor.waits (g.V.Cells.cells l.self.view.now) (g.V.RowView.coming l.self.view.now)) ≡ merged (changes_ahead l.fn.self.cursor.next l.fn.self.cursor.end l.fn.self.changes.now.items) (rows_ahead l.fn.self.cursor.waits (g.V.Cells.cells l.fn.self.view.now) (g.V.RowView.coming l.fn.self.view.now));
}

abbrev pub decreases-changes : goal.decreases-changes
decreases-changes g l = l.self.cursor.end - l.self.cursor.next
