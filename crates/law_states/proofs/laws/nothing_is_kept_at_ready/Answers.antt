use Rattle.law_states.proofs.KeptPrograms.{ready-empty}
use Rattle.law_story.proofs.WellKept.{of-start}
use Rattle.salt_model.specs.Trace.{start_of}
use Rattle.law_states.proofs.laws.nothing_is_kept_at_ready.Goals as goal

pub returns : goal.returns
returns c = (λ trace h. ready-empty trace h.played (of-start (start_of trace).kept h.well))
