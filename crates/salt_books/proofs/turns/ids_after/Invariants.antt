use Rattle.salt_books.proofs.turns.ids_after.Given as goal
use Rattle.salt_model.specs.Turns.{ids_after}
use Rattle.std.proofs.Common.{drop, length, ◌-◌, ◌≡◌, ◌≤◌}

abbrev pub invariant-loop-at : goal.invariant-loop-at
invariant-loop-at l = record {
  within : l.at ≤ length l.ids;
  so_far : ids_after l.base (drop l.at l.ids) ≡ ids_after l.base l.ids;
}

abbrev pub decreases-loop-at : goal.decreases-loop-at
decreases-loop-at l = length l.ids - l.at
