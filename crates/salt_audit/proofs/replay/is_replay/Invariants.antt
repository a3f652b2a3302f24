use Rattle.salt_audit.specs.Replaying.{LeaveKeys, is_replay}
use Rattle.salt_eval.specs.Views.{tables_of}
use Rattle.salt_eval.specs.MapViews.{shown_by}
use Rattle.law_states.specs.Overlays.{edits_of}
use Rattle.std.proofs.Common.{[], length, ◌≡◌}
use Rattle.salt_audit.proofs.replay.is_replay.Given as goal

abbrev pub invariant-loop-left : goal.invariant-loop-left
invariant-loop-left l = record {
  shown : shown_by l.view ≡ tables_of l.fn.rows.entries;
  leave : LeaveKeys l.fn.schema l.left;
  same : is_replay l.fn.schema (tables_of l.fn.rows.entries) (edits_of l.unit.changes.items) l.unit.vars l.left l.wanted
      ≡ is_replay l.fn.schema (tables_of l.fn.rows.entries) [] l.fn.vars l.fn.done l.fn.answers;
}

abbrev pub decreases-loop-left : goal.decreases-loop-left
decreases-loop-left l = length l.left
