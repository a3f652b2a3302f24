use Rattle.law_story.proofs.Victims.{victim-right}
use Rattle.law_story.proofs.laws.victim_is_youngest_on_cycle.Goals as goal

pub returns : goal.returns
returns c = victim-right
