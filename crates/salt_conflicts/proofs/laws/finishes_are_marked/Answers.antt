use Rattle.salt_conflicts.proofs.Others.{marks}
use Rattle.salt_conflicts.proofs.laws.finishes_are_marked.Goals as goal

pub returns : goal.returns
returns c = marks
