use Rattle.salt_directory.proofs.seats.few_seats.Given as goal
use Rattle.salt_directory.specs.Loading.{seat_of, seats_in}
use Rattle.std.proofs.Common.{map, take, ◌++◌, ◌≡◌}

abbrev pub invariant-loop-place : goal.invariant-loop-place
invariant-loop-place l =
    record {
      can_next : (goal.iterator-loop-place).can_next l.place-iterator;
      is_finite : (goal.iterator-loop-place).is_finite l.place-iterator;
      listed : l.seats.items ++ map seat_of (take l.place-iterator.n l.place-iterator.iter) ≡ seats_in l.table l.range l.directory;
    }
