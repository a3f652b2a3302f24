use Rattle.law_story.proofs.LastWriters.{writers-last}
use Rattle.law_story.proofs.laws.writers_are_last.Goals as goal

pub returns : goal.returns
returns c = writers-last
