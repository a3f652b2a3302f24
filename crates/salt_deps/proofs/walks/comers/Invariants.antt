use Rattle.salt_deps.proofs.Meeting.{IsMet}
use Rattle.salt_deps.proofs.Walking.{IsWalk, against}
use Rattle.salt_deps.specs.Due.{reads_done}
use Rattle.salt_deps.specs.Group.{reads_in}
use Rattle.salt_deps.specs.Walks.{unseen}
use Rattle.salt_values.specs.Id.{has_id}
use Rattle.std.proofs.Common.{length, ◌&&◌, ◌+◌, ◌++◌, ◌∷◌}
use Rattle.std.specs.Map.{keys_of}
use Rattle.salt_deps.proofs.walks.comers.Given as goal

abbrev pub invariant-loop-next : goal.invariant-loop-next
invariant-loop-next l =
    IsWalk (against (reads_done (reads_in l.readings) (l.base ∷ l.finished.keys))) l.starts l.seen.keys l.ahead.items
    × IsMet l.met (λ x. has_id x l.readings.group.readers.keys && has_id x (l.base ∷ l.finished.keys)) l.seen.keys

abbrev pub decreases-loop-next : goal.decreases-loop-next
decreases-loop-next l = unseen (keys_of l.readings.links.sources.entries ++ l.readings.group.readers.keys) l.seen.keys + length l.ahead.items
