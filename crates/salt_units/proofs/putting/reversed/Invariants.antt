use Rattle.salt_units.proofs.putting.reversed.Given as goal
use Rattle.std.proofs.Common.{length, reverse, ◌++◌, ◌≡◌}

abbrev pub invariant-loop-change : goal.invariant-loop-change
invariant-loop-change l = l.turned.items ++ reverse l.changes ≡ reverse l.initial.changes

abbrev pub decreases-loop-change : goal.decreases-loop-change
decreases-loop-change l = length l.changes
