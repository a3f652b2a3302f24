use Rattle.law_states.proofs.TriesLeft.{tries-left}
use Rattle.law_states.proofs.laws.failures_use_a_try.Goals as goal

pub returns : goal.returns
returns c = (λ s trace o b part n tries x d keeps k h kind here left. tries-left s trace o b part n tries x d keeps k h.played h.well kind here left)
