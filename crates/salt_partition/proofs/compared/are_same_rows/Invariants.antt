use Rattle.salt_partition.proofs.compared.are_same_rows.Given as goal
use Rattle.std.proofs.Common.{length, take, ◌++◌, ◌≡◌}

abbrev pub invariant-loop-at : goal.invariant-loop-at
invariant-loop-at l = l.initial.left.entries ≡ take (length l.yielded) l.rows.entries ++ l.left.entries
