use Rattle.law_story.proofs.Declares.{declared}
use Rattle.law_story.proofs.laws.played_is_declared.Goals as goal
use Rattle.law_story.proofs.WellKept.{of-start}
use Rattle.salt_model.specs.Trace.{start_of}

pub returns : goal.returns
returns c = (λ trace p w. declared trace p (of-start (start_of trace).kept w) w.defined)
