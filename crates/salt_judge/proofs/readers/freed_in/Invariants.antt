use Rattle.salt_judge.proofs.readers.freed_in.Given as goal
use Rattle.salt_judge.specs.Reads.{freed_in}
use Rattle.std.proofs.Common.{take, ◌≡◌}

abbrev pub invariant-loop-opening : goal.invariant-loop-opening
invariant-loop-opening l = l.ids ≡ freed_in l.bases (take l.opening-index l.openings)
