use Rattle.law_openings.proofs.Rests.{each-does-rests}
use Rattle.law_openings.proofs.laws.openings_do_their_rests.Goals as goal

pub returns : goal.returns
returns c = each-does-rests
