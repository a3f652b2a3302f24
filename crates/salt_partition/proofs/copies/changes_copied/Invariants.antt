use Rattle.salt_partition.proofs.copies.changes_copied.Given as goal
use Rattle.std.proofs.Common.{take, ◌≡◌}

abbrev pub invariant-loop-change : goal.invariant-loop-change
invariant-loop-change l = l.made.items ≡ take l.change-index l.changes
