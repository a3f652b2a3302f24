use Rattle.law_states.proofs.LookUps.{looks-up}
use Rattle.law_states.proofs.laws.units_are_looked_up.Goals as goal

pub returns : goal.returns
returns c = looks-up
