use Rattle.law_states.proofs.Askers.{waits-once}
use Rattle.law_states.proofs.laws.units_wait_once.Goals as goal

pub returns : goal.returns
returns c = waits-once
