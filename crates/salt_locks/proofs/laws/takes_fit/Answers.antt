use Rattle.salt_locks.proofs.Fits.{takes}
use Rattle.salt_locks.proofs.laws.takes_fit.Goals as goal

pub returns : goal.returns
returns c = λ k l old. takes k l old
