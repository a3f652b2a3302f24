use Rattle.salt_waits.proofs.units.victim.Given as goal
use Rattle.salt_waits.proofs.Best.{IsBestBelow}
use Rattle.std.proofs.Common.{option_copied}

abbrev pub invariant-loop-at : goal.invariant-loop-at
invariant-loop-at l = IsBestBelow l.at l.list (option_copied l.best)
