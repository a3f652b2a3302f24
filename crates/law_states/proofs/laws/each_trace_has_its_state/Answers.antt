use Rattle.law_states.proofs.EachTrace.{always-in-turn, each-kept}
use Rattle.law_states.proofs.KeepsOn.{state-kept}
use Rattle.law_states.proofs.laws.each_trace_has_its_state.Goals as goal

pub returns : goal.returns
returns c = record { units = (λ trace h. state-kept trace h.played h.well); whole = (λ trace h. each-kept trace h.played h.well); in_turn = always-in-turn }
