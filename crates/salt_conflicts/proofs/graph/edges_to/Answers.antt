use Rattle.salt_deps.specs.Kept.{dependencies}
use Rattle.law_states.specs.KeptWaits.{edges_of}
use Rattle.salt_conflicts.proofs.Steps.{edges-more}
use Rattle.salt_conflicts.proofs.graph.edges_to.Goals as goal
use Rattle.salt_conflicts.specs.Waiters.{askers}

pub loop-owner-preserved : goal.loop-owner-preserved
loop-owner-preserved c sources are =
    edges-more (edges_of (dependencies c.args.deps.now) (askers c.args.waits.now) sources) c.args.owners.now c.loop-owner.owner-index _ c.loop-owner.edges c.add_edges.new.edges
    c.loop-owner-test.true (c.in_ok-add_edges.ensures sources are) (c.loop-owner.invariant sources are)
