use Rattle.salt_waits.proofs.Fits.{fits}
use Rattle.salt_waits.proofs.laws.victims_fit.Goals as goal

pub returns : goal.returns
returns c = λ list found distinct right. fits c.rounds_find_cycles.ensures list distinct found right
