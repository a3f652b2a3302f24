use Rattle.law_states.specs.Overlays.{edits_of}
use Rattle.salt_judge.proofs.readers.put_changes.Given as goal
use Rattle.salt_judge.specs.ReadAfter.{put_edits}
use Rattle.std.proofs.Common.{drop, length, ◌≡◌, ◌≤◌}

abbrev pub invariant-loop-left : goal.invariant-loop-left
invariant-loop-left l = (l.left ≤ length l.changes) × (l.last.items ≡ put_edits l.unit (edits_of (drop l.left l.changes)) l.initial.last.items)

abbrev pub decreases-loop-left : goal.decreases-loop-left
decreases-loop-left l = l.left
