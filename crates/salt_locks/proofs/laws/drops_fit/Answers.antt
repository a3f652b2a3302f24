use Rattle.salt_locks.proofs.Fits.{drops}
use Rattle.salt_locks.proofs.laws.drops_fit.Goals as goal

pub returns : goal.returns
returns c = λ o old. drops o old
