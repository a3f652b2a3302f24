use Rattle.law_openings.proofs.Resting.{never-rests}
use Rattle.law_openings.proofs.laws.drains_never_rest.Goals as goal

pub returns : goal.returns
returns c = never-rests
