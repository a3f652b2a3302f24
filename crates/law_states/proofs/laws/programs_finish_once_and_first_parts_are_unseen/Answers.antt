use Rattle.law_states.proofs.KeptPrograms.{finishes-once, first-unseen}
use Rattle.law_story.proofs.WellKept.{of-start}
use Rattle.salt_model.specs.Trace.{start_of}
use Rattle.law_states.proofs.laws.programs_finish_once_and_first_parts_are_unseen.Goals as goal

pub returns : goal.returns
returns c = record {
  once = (λ trace b h f. finishes-once trace b h.played (of-start (start_of trace).kept h.well) f);
  unseen = (λ trace u b h o f. first-unseen trace u b h.played h.well o f);
}
