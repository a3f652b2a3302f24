use Rattle.law_story.proofs.LateOpenings.{as-ever}
use Rattle.law_story.proofs.laws.late_openings_are_as_ever.Goals as goal

pub returns : goal.returns
returns c = as-ever
