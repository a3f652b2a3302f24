use Rattle.salt_waits.proofs.walk.is_on_cycle.Given as goal
use Rattle.salt_waits.specs.Walks.{IsWalk, steps_left}

abbrev pub invariant-loop-vertex : goal.invariant-loop-vertex
invariant-loop-vertex l = IsWalk l.graph l.start l.walk

abbrev pub decreases-loop-vertex : goal.decreases-loop-vertex
decreases-loop-vertex l = steps_left l.walk
