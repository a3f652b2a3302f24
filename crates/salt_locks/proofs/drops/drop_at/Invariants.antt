use Rattle.salt_locks.proofs.drops.drop_at.Given as goal
use Rattle.salt_locks.specs.Clear.{IsMarked}
use Rattle.salt_locks.specs.Places.{AreInOrder}
use Rattle.salt_locks.specs.Spots.{AreAt}
use Rattle.salt_locks.specs.Tables.{is_of_another, numbered}
use Rattle.std.proofs.Common.{length, ◌≡◌}
use Rattle.std.specs.List.{filter}
use Rattle.std.specs.Prelude.{drop}

abbrev pub invariant-loop-spot : goal.invariant-loop-spot
invariant-loop-spot l =
    (length l.numbers.items ≡ length l.locks.items)
    × AreInOrder l.locks.items
    × IsMarked l.clear.items l.locks.items
    × (filter (is_of_another l.owner) (numbered l.numbers.items l.locks.items) ≡ filter (is_of_another l.owner) (numbered l.initial.numbers.items l.initial.locks.items))
    × AreAt l.owner (drop l.spot-index l.spots) l.locks.items
