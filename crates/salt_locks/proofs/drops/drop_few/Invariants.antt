use Rattle.salt_locks.proofs.drops.drop_few.Given as goal
use Rattle.salt_locks.specs.Clear.{IsMarked}
use Rattle.salt_locks.specs.Places.{AreInOrder}
use Rattle.salt_locks.specs.Tables.{is_of_another, numbered}
use Rattle.std.proofs.Common.{length, ◌≡◌, ◌≤◌}
use Rattle.std.specs.List.{filter}
use Rattle.std.specs.Prelude.{drop}

abbrev pub invariant-loop-left : goal.invariant-loop-left
invariant-loop-left l =
    (l.left ≤ length l.locks.items)
    × (length l.numbers.items ≡ length l.locks.items)
    × AreInOrder l.locks.items
    × IsMarked l.clear.items l.locks.items
    × (filter (is_of_another l.owner) (numbered l.numbers.items l.locks.items) ≡ filter (is_of_another l.owner) (numbered l.initial.numbers.items l.initial.locks.items))
    × (filter (is_of_another l.owner) (drop l.left (numbered l.numbers.items l.locks.items)) ≡ drop l.left (numbered l.numbers.items l.locks.items))

abbrev pub decreases-loop-left : goal.decreases-loop-left
decreases-loop-left l = l.left
