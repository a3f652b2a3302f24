use Rattle.law_states.proofs.KeptPrograms.{busy-by, unreleased-says}
use Rattle.law_story.proofs.WellKept.{of-start}
use Rattle.salt_model.specs.Trace.{start_of}
use Rattle.law_states.proofs.laws.unreleased_programs_change.Goals as goal

pub returns : goal.returns
returns c = record { change = (λ trace e h. unreleased-says trace e h.played (of-start (start_of trace).kept h.well)); busy = (λ trace h. busy-by trace h.played (of-start (start_of trace).kept h.well)) }
