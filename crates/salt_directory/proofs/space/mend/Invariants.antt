use Rattle.salt_directory.proofs.space.mend.Given as goal
use Rattle.salt_directory.specs.Space.{AreMostBut, most_from}
use Rattle.std.proofs.Common.{length, ◌<◌, ◌≡◌}

abbrev pub invariant-loop-at : goal.invariant-loop-at
invariant-loop-at l = record {
  within : l.at < length l.free;
  others : AreMostBut l.at l.free l.most;
  is : l.greatest ≡ most_from l.free l.most l.at;
}

abbrev pub decreases-loop-at : goal.decreases-loop-at
decreases-loop-at l = l.at
