use Rattle.law_states.proofs.KeptAfter.{open-listed}
use Rattle.law_story.proofs.Replays.{replays}
use Rattle.law_states.proofs.laws.open_units_are_listed.Goals as goal

pub returns : goal.returns
returns c = (λ s trace u keeps h o. open-listed s trace u (replays trace h.played).base keeps o)
