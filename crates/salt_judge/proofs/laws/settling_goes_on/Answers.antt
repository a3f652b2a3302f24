use Rattle.salt_judge.proofs.Settling.{settled_on}
use Rattle.salt_judge.proofs.laws.settling_goes_on.Goals as goal

pub returns : goal.returns
returns c = λ l m r s e f after read settled h. settled_on l m r s e f after read settled h
