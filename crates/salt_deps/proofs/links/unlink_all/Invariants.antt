use Rattle.salt_deps.proofs.links.unlink_all.Given as goal
use Rattle.salt_deps.specs.Maps.{is_source}
use Rattle.salt_values.specs.Id.{has_id}
use Rattle.salt_values.specs.Id.{is_same_id}
use Rattle.salt_values.specs.declared.id.Id.{Id}
use Rattle.std.proofs.Common.{not, take, ◌&&◌, ◌≡◌}

abbrev pub invariant-loop-reader : goal.invariant-loop-reader
invariant-loop-reader l = (x y : Id) → is_source l.sources x y ≡ (is_source l.fn.sources x y && not (has_id x (take l.reader-index l.readers) && is_same_id y l.source))
