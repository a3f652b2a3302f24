use Rattle.salt_cont.proofs.Limited.{limited}
use Rattle.salt_cont.proofs.laws.limited_are_few.Goals as goal

pub returns : goal.returns
returns c = limited
