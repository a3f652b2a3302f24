use Rattle.salt_conflicts.proofs.Readable.{distinct}
use Rattle.salt_conflicts.proofs.laws.waiting_units_are_distinct.Goals as goal

pub returns : goal.returns
returns c = distinct
