use Rattle.salt_conflicts.proofs.Readable.{readable}
use Rattle.salt_conflicts.proofs.laws.readings_are_there.Goals as goal

pub returns : goal.returns
returns c = readable
