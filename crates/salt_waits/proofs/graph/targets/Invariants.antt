use Rattle.salt_waits.proofs.graph.targets.Given as goal
use Rattle.salt_waits.specs.Graphs.{AreTargetsBelow}

abbrev pub invariant-loop-at : goal.invariant-loop-at
invariant-loop-at l = AreTargetsBelow l.at l.list l.unit l.targets.items
