use Rattle.salt_commit.proofs.named.units_in_part.Given as goal
use Rattle.salt_commit.specs.Openings.{named_units}
use Rattle.std.proofs.Common.{take, ◌≡◌}

abbrev pub invariant-loop-number : goal.invariant-loop-number
invariant-loop-number l = l.ids ≡ named_units l.part (take l.number l.units) (take l.number l.masks)
