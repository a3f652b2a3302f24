use Rattle.law_states.proofs.Askers.{waiting-asks, waiting-turns}
use Rattle.law_story.proofs.WellKept.{of-start}
use Rattle.salt_model.specs.Trace.{start_of}
use Rattle.law_states.proofs.laws.lines_move_no_wait.Goals as goal

pub returns : goal.returns
returns c = record {
  asks = (λ trace asked h. waiting-asks trace asked h.played (of-start (start_of trace).kept h.well));
  turns = (λ trace b h. waiting-turns trace b h.played (of-start (start_of trace).kept h.well));
}
