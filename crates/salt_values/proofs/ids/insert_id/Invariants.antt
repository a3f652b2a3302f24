use Rattle.salt_values.specs.Id.{insert_id}
use Rattle.salt_values.proofs.ids.insert_id.Given as goal
use Rattle.std.proofs.Common.{drop, length, take, ◌++◌, ◌-◌, ◌≡◌, ◌≤◌}

abbrev pub invariant-loop-at : goal.invariant-loop-at
invariant-loop-at l = (l.at ≤ length l.ids.items) × (insert_id l.id l.ids.items ≡ take l.at l.ids.items ++ insert_id l.id (drop l.at l.ids.items))

abbrev pub decreases-loop-at : goal.decreases-loop-at
decreases-loop-at l = length l.ids.items - l.at
