use Rattle.salt_values.specs.Id.{has_id}
use Rattle.salt_values.specs.declared.id.Id.{Id}
use Rattle.salt_audit.proofs.marks.mark_all.Given as goal
use Rattle.salt_audit.specs.Marks.{is_marked}
use Rattle.std.proofs.Common.{take, ◌||◌, ◌≡◌}

abbrev pub invariant-loop-id : goal.invariant-loop-id
invariant-loop-id l = (u : Id) → is_marked u l.marks ≡ (has_id u (take l.id-index l.ids) || is_marked u l.initial.marks)
