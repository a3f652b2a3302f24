use Rattle.salt_conflicts.proofs.shown.add_bases.Given as goal
use Rattle.salt_conflicts.specs.Shown.{owned_by_bases}
use Rattle.std.proofs.Common.{take, ◌++◌, ◌≡◌}

abbrev pub invariant-loop-base : goal.invariant-loop-base
invariant-loop-base l = l.items ≡ l.initial.items ++ owned_by_bases l.locks (take l.base-index l.bases)
