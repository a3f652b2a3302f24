use Rattle.law_states.proofs.KeepsOn.{keeps-asks, keeps-says, keeps-turns}
use Rattle.law_states.proofs.laws.units_go_on.Goals as goal

pub returns-clause-says : goal.returns-clause-says
returns-clause-says c = (λ s trace e keeps h. keeps-says s trace e keeps h.played h.well)

pub returns-clause-asks : goal.returns-clause-asks
returns-clause-asks c = keeps-asks

pub returns-clause-turns : goal.returns-clause-turns
returns-clause-turns c = keeps-turns
