use Rattle.law_states.proofs.BesideKept.{bases-told, beside-kept, clash-told, locks-told, under-way-told}
use Rattle.law_states.proofs.laws.states_tell_what_stands_beside.Goals as goal

pub returns : goal.returns
returns c = record {
  clash = (λ s trace o st k h u. clash-told s trace k h.played h.well o st u);
  locks = (λ s trace x k h. locks-told s trace k h.played h.well x);
  bases = (λ s trace x k h. bases-told s trace k h.played h.well);
  victim = (λ s trace x k h. (beside-kept s trace k h.played h.well x).victim);
  served = (λ s trace x k h. (beside-kept s trace k h.played h.well x).served);
  due = (λ s trace x k h. (beside-kept s trace k h.played h.well x).due);
  under_way = (λ s trace k h. under-way-told s trace k h.played h.well);
}
