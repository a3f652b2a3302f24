use Rattle.law_states.proofs.Rising.{names-rise}
use Rattle.law_states.proofs.laws.names_rise.Goals as goal

pub returns : goal.returns
returns c = (λ s trace keeps h. names-rise s trace keeps h.played h.well)
