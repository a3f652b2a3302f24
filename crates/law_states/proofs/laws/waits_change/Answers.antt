use Rattle.law_states.proofs.Askers.{waiting-says}
use Rattle.law_story.proofs.WellKept.{of-start}
use Rattle.salt_model.specs.Trace.{start_of}
use Rattle.law_states.proofs.laws.waits_change.Goals as goal

pub returns : goal.returns
returns c = (λ trace e h. waiting-says trace e h.played (of-start (start_of trace).kept h.well))
