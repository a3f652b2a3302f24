use Rattle.salt_books.proofs.conts.finish.Given as goal
use Rattle.salt_stands.specs.OpenConts.{is_not_of}
use Rattle.std.proofs.Common.{drop, length, take, ◌++◌, ◌≡◌, ◌≤◌}
use Rattle.std.specs.List.{filter}

abbrev pub invariant-loop-at : goal.invariant-loop-at
invariant-loop-at l = record {
  within : l.at ≤ length l.initial.conts;
  so_far : l.conts ≡ take l.at l.initial.conts ++ filter (is_not_of l.base) (drop l.at l.initial.conts);
}

abbrev pub decreases-loop-at : goal.decreases-loop-at
decreases-loop-at l = l.at
