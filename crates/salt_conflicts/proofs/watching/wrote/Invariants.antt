use Rattle.salt_deps.specs.Kept.{dependencies}
use Rattle.law_states.specs.DependencyCalls.{WroteAll}
use Rattle.salt_conflicts.proofs.watching.wrote.Given as goal
use Rattle.salt_conflicts.specs.Watched.{place_of}
use Rattle.std.proofs.Common.{map, take}

abbrev pub invariant-loop-at : goal.invariant-loop-at
invariant-loop-at l = WroteAll l.base (map place_of (take l.at l.changes.items)) (dependencies l.initial.deps) (dependencies l.deps)
