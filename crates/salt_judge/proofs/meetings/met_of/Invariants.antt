use Rattle.salt_model.specs.Locks.{touches}
use Rattle.salt_judge.proofs.meetings.met_of.Given as goal
use Rattle.salt_judge.specs.Meetings.{met_as}
use Rattle.salt_judge.specs.declared.met.Touch.{Touch}
use Rattle.std.proofs.Common.{map, take, ◌≡◌}
use Rattle.std.specs.List.{filter}

abbrev pub invariant-loop-touch : goal.invariant-loop-touch
invariant-loop-touch l = l.met ≡ map (met_as l.acid) (filter (λ (t : Touch). touches t.reach l.reach) (take l.touch-index l.taken))
