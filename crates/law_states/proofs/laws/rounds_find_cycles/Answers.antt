use Rattle.law_states.proofs.PairLists.{on-cycle}
use Rattle.law_states.proofs.laws.rounds_find_cycles.Goals as goal

pub returns : goal.returns
returns c = on-cycle
