use Rattle.salt_deps.proofs.Meeting.{IsMet}
use Rattle.salt_deps.proofs.Walking.{IsWalk, all_sources}
use Rattle.salt_deps.proofs.walks.reached.Given as goal
use Rattle.salt_deps.specs.Group.{reads_in}
use Rattle.salt_deps.specs.Walks.{unseen}
use Rattle.salt_values.specs.Id.{has_id}
use Rattle.std.proofs.Common.{[], length, ◌+◌, ◌++◌, ◌∷◌}

abbrev pub invariant-loop-next : goal.invariant-loop-next
invariant-loop-next l = IsWalk (reads_in l.readings) (l.fn.name ∷ []) l.seen.keys l.ahead.items × IsMet l.met (λ y. has_id y l.readings.group.sources.keys) l.seen.keys

abbrev pub decreases-loop-next : goal.decreases-loop-next
decreases-loop-next l = unseen (all_sources l.readings.links.sources.entries ++ l.readings.group.sources.keys) l.seen.keys + length l.ahead.items
