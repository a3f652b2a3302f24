use Rattle.law_story.proofs.HeldLocks.{none-conflict-always}
use Rattle.law_story.proofs.laws.held_locks_stand_together.Goals as goal

pub returns : goal.returns
returns c = none-conflict-always
