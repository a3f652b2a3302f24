use Rattle.salt_directory.proofs.halving.part_rows.Given as goal
use Rattle.salt_directory.specs.Halves.{HaveGone}
use Rattle.std.proofs.Common.{[], drop, ◌++◌}

abbrev pub invariant-loop-i : goal.invariant-loop-i
invariant-loop-i l = HaveGone l.places.items l.page [] (l.lower ++ drop l.i l.page) l.upper
