use Rattle.salt_locks.proofs.salts.salt_at.Given as goal
use Rattle.salt_locks.specs.Places.{AreInOrder}
use Rattle.salt_locks.specs.Spots.{AreCounted}
use Rattle.salt_locks.specs.Tables.{salted_lock}
use Rattle.salt_model.specs.declared.events.Owner.{Owner}
use Rattle.std.proofs.Common.{map, ◌≡◌}
use Rattle.std.specs.Prelude.{drop}

abbrev pub invariant-loop-spot : goal.invariant-loop-spot
invariant-loop-spot l =
    AreInOrder l.locks.items
    × (map (salted_lock l.unit l.base) l.locks.items ≡ map (salted_lock l.unit l.base) l.initial.locks.items)
    × AreCounted (Owner.Unit l.unit) (drop l.spot-index l.spots) l.locks.items
