use Rattle.salt_values.specs.Id.{has_id}
use Rattle.salt_partition.proofs.sets.prepared_set.Given as goal
use Rattle.salt_partition.specs.Contents.{units_of}
use Rattle.salt_stands.specs.Pieces.{is_prepared_in}
use Rattle.salt_values.specs.declared.id.Id.{Id}
use Rattle.std.proofs.Common.{take, ◌≡◌}

abbrev pub invariant-loop-prepared : goal.invariant-loop-prepared
invariant-loop-prepared l = (q : Id) → has_id q l.set.keys ≡ is_prepared_in q (units_of (take l.prepared-index l.units))
