use Rattle.law_story.proofs.WellKept.{kept-well}
use Rattle.law_story.proofs.laws.kept_stays_well_kept.Goals as goal

pub returns : goal.returns
returns c = kept-well
