use Rattle.law_states.specs.Members.{In}
use Rattle.salt_locks.proofs.Runs.{NoneBefore, NoneFrom}
use Rattle.salt_locks.proofs.drops.drop_between.Given as goal
use Rattle.salt_locks.specs.Clear.{IsMarked}
use Rattle.salt_locks.specs.Places.{AreInOrder}
use Rattle.salt_locks.specs.Tables.{is_of_another, numbered}
use Rattle.salt_model.specs.declared.locks.Lock.{Lock}
use Rattle.std.proofs.Common.{length, ◌≡◌, ◌≤◌}
use Rattle.std.specs.List.{filter}

abbrev pub invariant-loop-left : goal.invariant-loop-left
invariant-loop-left l =
    (l.left ≤ length l.locks.items)
    × (length l.numbers.items ≡ length l.locks.items)
    × AreInOrder l.locks.items
    × IsMarked l.clear.items l.locks.items
    × (filter (is_of_another l.owner) (numbered l.numbers.items l.locks.items) ≡ filter (is_of_another l.owner) (numbered l.initial.numbers.items l.initial.locks.items))
    × ((x : Lock) → In x l.locks.items → In x l.initial.locks.items)
    × NoneBefore l.spot l.from l.locks.items
    × NoneFrom l.owner l.spot l.left l.locks.items

abbrev pub decreases-loop-left : goal.decreases-loop-left
decreases-loop-left l = l.left
