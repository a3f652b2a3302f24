use Rattle.salt_deps.proofs.sets.set_of.Given as goal
use Rattle.salt_values.specs.Id.{has_id}
use Rattle.salt_values.specs.declared.id.Id.{Id}
use Rattle.std.proofs.Common.{take, ◌≡◌}

abbrev pub invariant-loop-name : goal.invariant-loop-name
invariant-loop-name l = (q : Id) → has_id q l.set.keys ≡ has_id q (take l.name-index l.names)
