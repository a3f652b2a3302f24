use Rattle.salt_workload.proofs.counts.last_value.Given as goal
use Rattle.salt_model.specs.Summary.{last_value}
use Rattle.std.proofs.Common.{None, take, ◌≡◌}
use Rattle.std.specs.Option.{option_copied}

abbrev pub invariant-loop-event : goal.invariant-loop-event
invariant-loop-event l = option_copied l.found ≡ last_value None (take l.event-index l.story)
