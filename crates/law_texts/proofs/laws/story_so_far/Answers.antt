use Rattle.law_texts.proofs.Stories.{story_begins}
use Rattle.law_texts.proofs.laws.story_so_far.Goals as goal

pub returns : goal.returns
returns c = story_begins c.laws_below.ensures
