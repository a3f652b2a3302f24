use Rattle.law_states.proofs.StatesGoOn.{states-ask, states-say, states-start, states-turn}
use Rattle.law_states.proofs.laws.states_go_on.Goals as goal

pub returns : goal.returns
returns c = record {
  says = (λ old new trace e k s a. states-say old new trace e k s.played s.well a);
  asks = (λ s trace asked k h. states-ask s trace asked k h.played h.well);
  turns = (λ s trace b k h. states-turn s trace b k h.played h.well);
  start = states-start;
}
