use Rattle.law_texts.proofs.Stories.{event_told}
use Rattle.law_texts.proofs.laws.one_event.Goals as goal

pub returns : goal.returns
returns c = event_told c.laws_below.ensures
