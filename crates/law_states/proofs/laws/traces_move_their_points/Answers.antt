use Rattle.law_states.proofs.EachPoint.{point-kept, trace-asks, trace-falls, trace-says, trace-turns}
use Rattle.law_states.proofs.laws.traces_move_their_points.Goals as goal

pub returns : goal.returns
returns c = record {
  keeps = (λ trace h. point-kept trace h.played h.well);
  says = (λ trace e h r. (trace-says trace e h.played h.well r, r));
  asks = (λ trace asked h. trace-asks trace asked h.played h.well);
  turns = (λ trace b h. trace-turns trace b h.played h.well);
  falls = (λ trace why h serves. trace-falls trace why h.played h.well serves);
}
