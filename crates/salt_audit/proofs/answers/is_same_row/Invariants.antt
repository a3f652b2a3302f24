use Rattle.salt_audit.specs.Laws.{same_all}
use Rattle.salt_values.specs.Value.{is_same_value}
use Rattle.std.proofs.Common.{length, ◌≡◌}
use Rattle.salt_audit.proofs.answers.is_same_row.Given as goal

abbrev pub invariant-loop-mine : goal.invariant-loop-mine
invariant-loop-mine l = same_all is_same_value l.mine l.theirs ≡ same_all is_same_value l.fn.left l.fn.right

abbrev pub decreases-loop-mine : goal.decreases-loop-mine
decreases-loop-mine l = length l.mine
