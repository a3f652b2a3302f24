use Rattle.law_states.proofs.KeptGraph.{victim-kept}
use Rattle.law_states.proofs.laws.victim_comes_from_what_is_kept.Goals as goal

pub returns : goal.returns
returns c = (λ trace d ls behind h. victim-kept trace d ls behind h.played h.well)
