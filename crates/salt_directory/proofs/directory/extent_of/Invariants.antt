use Rattle.salt_directory.proofs.Marking.{IsMarking}
use Rattle.salt_directory.proofs.directory.extent_of.Given as goal
use Rattle.std.proofs.Common.{length, ◌≡◌}

abbrev pub invariant-loop-place : goal.invariant-loop-place
invariant-loop-place l =
    record {
      can_next : (goal.iterator-loop-place).can_next l.place-iterator;
      is_finite : (goal.iterator-loop-place).is_finite l.place-iterator;
      so_far : IsMarking l.table l.range l.directory l.pages.items l.rows l.place-iterator;
      count : length l.pages.items ≡ l.count;
    }
