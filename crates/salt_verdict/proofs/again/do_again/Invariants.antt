use Rattle.law_states.specs.Overlays.{edits_of}
use Rattle.salt_verdict.proofs.again.do_again.Given as goal
use Rattle.salt_verdict.specs.Again.{outcome_on}
use Rattle.std.proofs.Common.{[], length, ◌≡◌}

abbrev pub invariant-statements : goal.invariant-statements
invariant-statements g l = record {
  kept : g.V.RowView.tables l.view ≡ g.V.RowView.tables l.initial.view;
  same : outcome_on l.fn.schema (g.V.RowView.tables l.initial.view) l.answers (edits_of l.unit.changes.items) l.unit.vars l.left
      ≡ outcome_on l.fn.schema (g.V.RowView.tables l.initial.view) [] [] l.fn.vars l.fn.done;
}

abbrev pub decreases-statements : goal.decreases-statements
decreases-statements g l = length l.left
