use Rattle.salt_judge.proofs.meetings.unwhole.Given as goal
use Rattle.salt_judge.specs.Meetings.{has_committed}
use Rattle.salt_judge.specs.declared.met.Met.{Met}
use Rattle.std.proofs.Common.{map, take, ◌≡◌}
use Rattle.std.specs.List.{filter}

abbrev pub invariant-loop-met : goal.invariant-loop-met
invariant-loop-met l = l.ids ≡ map (λ (x : Met). x.acid) (filter (λ (x : Met). has_committed l.meetings.endings x.part) (take l.met-index l.met-items))
