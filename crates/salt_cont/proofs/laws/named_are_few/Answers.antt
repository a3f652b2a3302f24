use Rattle.salt_cont.proofs.Limited.{are-few}
use Rattle.salt_cont.proofs.laws.named_are_few.Goals as goal

pub returns : goal.returns
returns c = are-few
