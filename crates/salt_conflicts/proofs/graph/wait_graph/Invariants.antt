use Rattle.salt_deps.specs.Kept.{dependencies}
use Rattle.law_states.specs.KeptWaits.{graph_unit}
use Rattle.salt_locks.specs.Tables.{locks_in}
use Rattle.salt_values.specs.declared.id.Id.{Id}
use Rattle.salt_waits.specs.Victims.{graph_of}
use Rattle.salt_conflicts.proofs.graph.wait_graph.Given as goal
use Rattle.salt_conflicts.specs.Waiters.{askers}
use Rattle.salt_conflicts.specs.Watched.{AreSourcesOf}
use Rattle.std.proofs.Common.{List, map, take, ◌≡◌}

abbrev pub invariant-loop-waiter : goal.invariant-loop-waiter
invariant-loop-waiter l =
    (sources : Id → List Id) → AreSourcesOf (dependencies l.deps) sources →
    graph_of l.graph.items ≡ map (graph_unit (dependencies l.deps) (locks_in l.locks) (askers l.waits) sources) (askers (take l.waiter-index l.waits))
