use Rattle.salt_locks.proofs.InTurn.{turns}
use Rattle.salt_locks.proofs.laws.turns_fit.Goals as goal

pub returns : goal.returns
returns c = λ table ls o k. turns table ls o k
