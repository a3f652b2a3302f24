use Rattle.salt_units.proofs.edits.copied.Given as goal
use Rattle.std.proofs.Common.{take, ◌≡◌}

abbrev pub invariant-loop-at : goal.invariant-loop-at
invariant-loop-at l = l.made.items ≡ take l.at l.changes.items
