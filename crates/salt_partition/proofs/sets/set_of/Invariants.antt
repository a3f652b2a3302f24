use Rattle.salt_values.specs.Id.{has_id}
use Rattle.salt_partition.proofs.sets.set_of.Given as goal
use Rattle.salt_values.specs.declared.id.Id.{Id}
use Rattle.std.proofs.Common.{take, ◌≡◌}

abbrev pub invariant-loop-id : goal.invariant-loop-id
invariant-loop-id l = (q : Id) → has_id q l.set.keys ≡ has_id q (take l.id-index l.ids)
