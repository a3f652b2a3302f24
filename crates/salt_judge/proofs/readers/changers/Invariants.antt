use Rattle.salt_judge.proofs.readers.changers.Given as goal
use Rattle.salt_judge.specs.ReadAfter.{is_written_within}
use Rattle.salt_judge.specs.declared.reads.Writing.{Writing}
use Rattle.std.proofs.Common.{map, take, ◌≡◌}
use Rattle.std.specs.List.{filter}

abbrev pub invariant-loop-writing : goal.invariant-loop-writing
invariant-loop-writing l = l.ids ≡ map (λ (w : Writing). w.unit) (filter (is_written_within l.reach) (take l.writing-index l.last))
