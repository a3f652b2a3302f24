use Rattle.law_types.proofs.Stays.{story-stays}
use Rattle.law_types.proofs.told_laws.stories_read_the_same.Goals as goal

pub returns : goal.returns
returns c = story-stays
