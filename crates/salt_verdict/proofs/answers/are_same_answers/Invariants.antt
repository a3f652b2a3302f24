use Rattle.salt_audit.specs.Laws.{is_same_answer, same_all}
use Rattle.salt_verdict.proofs.answers.are_same_answers.Given as goal
use Rattle.std.proofs.Common.{length, ◌≡◌}

abbrev pub invariant-loop-mine : goal.invariant-loop-mine
invariant-loop-mine l = same_all is_same_answer l.mine l.theirs ≡ same_all is_same_answer l.fn.left l.fn.right

abbrev pub decreases-loop-mine : goal.decreases-loop-mine
decreases-loop-mine l = length l.mine
