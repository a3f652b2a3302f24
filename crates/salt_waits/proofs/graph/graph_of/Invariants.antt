use Rattle.salt_waits.proofs.graph.graph_of.Given as goal
use Rattle.salt_waits.specs.Graphs.{IsGraphBelow}

abbrev pub invariant-loop-unit : goal.invariant-loop-unit
invariant-loop-unit l = IsGraphBelow l.unit-index l.list l.graph.items
