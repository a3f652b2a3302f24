use Rattle.law_states.proofs.Settled.{settled}
use Rattle.law_story.proofs.WellKept.{of-start}
use Rattle.salt_model.specs.Trace.{start_of}
use Rattle.law_states.proofs.laws.settling_ends_settled.Goals as goal

pub returns : goal.returns
returns c = (λ trace h. settled trace h.played (of-start (start_of trace).kept h.well))
