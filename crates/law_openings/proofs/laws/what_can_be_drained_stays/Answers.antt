use Rattle.law_openings.proofs.Staying.{can-stay}
use Rattle.law_openings.proofs.laws.what_can_be_drained_stays.Goals as goal

pub returns : goal.returns
returns c = can-stay
