use Rattle.salt_deps.proofs.links.list_readers.Given as goal
use Rattle.salt_deps.specs.Maps.{is_listed}
use Rattle.salt_values.specs.Id.{has_id}
use Rattle.salt_values.specs.Id.{is_same_id}
use Rattle.salt_values.specs.declared.id.Id.{Id}
use Rattle.std.proofs.Common.{take, ◌&&◌, ◌||◌, ◌≡◌}

abbrev pub invariant-loop-source : goal.invariant-loop-source
invariant-loop-source l = (x y : Id) → is_listed l.readers x y ≡ (is_listed l.fn.readers x y || (is_same_id x l.reader && has_id y (take l.source-index l.sources)))
