use Rattle.salt_deps.specs.Kept.{dependencies}
use Rattle.law_states.specs.KeptWaits.{edges_of}
use Rattle.salt_values.specs.declared.id.Id.{Id}
use Rattle.salt_conflicts.proofs.graph.edges_to.Given as goal
use Rattle.salt_conflicts.specs.Waiters.{askers}
use Rattle.salt_conflicts.specs.Watched.{AreSourcesOf}
use Rattle.std.proofs.Common.{List, take, ◌≡◌}
use Rattle.std.specs.List.{flat_map}

abbrev pub invariant-loop-owner : goal.invariant-loop-owner
invariant-loop-owner l =
    (sources : Id → List Id) → AreSourcesOf (dependencies l.deps) sources →
    l.edges ≡ flat_map (edges_of (dependencies l.deps) (askers l.waits) sources) (take l.owner-index l.owners)
