use Rattle.salt_workload.proofs.counts.counts_of.Given as goal
use Rattle.salt_workload.specs.Counts.{AreCounts}
use Rattle.std.proofs.Common.{take}

abbrev pub invariant-loop-event : goal.invariant-loop-event
invariant-loop-event l = AreCounts l.counts (take l.event-index l.story)
