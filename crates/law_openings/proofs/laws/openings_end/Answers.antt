use Rattle.law_openings.proofs.Ending.{openings-end}
use Rattle.law_openings.proofs.laws.openings_end.Goals as goal

pub returns : goal.returns
returns c = openings-end
