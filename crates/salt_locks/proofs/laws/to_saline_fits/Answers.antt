use Rattle.salt_locks.proofs.Fits.{salts}
use Rattle.salt_locks.proofs.laws.to_saline_fits.Goals as goal

pub returns : goal.returns
returns c = λ u b old. salts u b old
