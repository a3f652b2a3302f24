use Rattle.salt_partition.proofs.compared.rows_copied.Given as goal
use Rattle.std.proofs.Common.{length, take, ◌≡◌}

abbrev pub invariant-loop-at : goal.invariant-loop-at
invariant-loop-at l = l.made.entries ≡ take (length l.yielded) l.rows.entries
