use Rattle.salt_room.proofs.checkpoints.lacks_room.Goals as goal
use Rattle.std.proofs.Common.{sym, ◌∙◌}

pub returns-then-is_empty-clause-room : goal.returns-then-is_empty-clause-room
returns-then-is_empty-clause-room c same change more share = absurd (cc (sym share ∙ c.is_empty.ensures.0 c.if-is_empty.true))
