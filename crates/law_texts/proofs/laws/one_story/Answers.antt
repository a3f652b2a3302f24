use Rattle.law_texts.proofs.Stories.{story_one}
use Rattle.law_texts.proofs.laws.one_story.Goals as goal

pub returns : goal.returns
returns c = story_one c.laws_below.ensures
