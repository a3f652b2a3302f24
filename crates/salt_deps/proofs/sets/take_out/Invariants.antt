use Rattle.salt_deps.proofs.sets.take_out.Given as goal
use Rattle.salt_values.specs.Id.{has_id}
use Rattle.salt_values.specs.declared.id.Id.{Id}
use Rattle.std.proofs.Common.{not, take, ◌&&◌, ◌≡◌}

abbrev pub invariant-loop-name : goal.invariant-loop-name
invariant-loop-name l = (q : Id) → has_id q l.set.keys ≡ (has_id q l.fn.set.keys && not (has_id q (take l.name-index l.names)))
