use Rattle.law_story.proofs.Continues.{continued-played}
use Rattle.law_story.proofs.laws.played_is_continued.Goals as goal
use Rattle.law_story.proofs.WellKept.{of-start}
use Rattle.salt_model.specs.Trace.{start_of}

pub returns : goal.returns
returns c = (λ trace p w. continued-played trace p (of-start (start_of trace).kept w) w.accepted)
