use Rattle.salt_deps.proofs.sets.listed.Given as goal
use Rattle.std.proofs.Common.{◌++◌, ◌≡◌}

abbrev pub invariant-loop-name : goal.invariant-loop-name
invariant-loop-name l = l.names.items ++ l.name-iterator ≡ l.set.keys
