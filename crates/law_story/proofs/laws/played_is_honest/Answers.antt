use Rattle.law_story.proofs.HonestLaw.{honest}
use Rattle.law_story.proofs.laws.played_is_honest.Goals as goal

pub returns : goal.returns
returns c = honest
