use Rattle.law_states.proofs.SettlingEnds.{to-come-falls}
use Rattle.law_states.proofs.laws.settling_ends.Goals as goal

pub returns : goal.returns
returns c = to-come-falls
