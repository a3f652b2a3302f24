use Rattle.law_story.proofs.WrittenKeys.{written-at-end}
use Rattle.law_story.proofs.laws.changes_are_those_written.Goals as goal
use Rattle.law_story.proofs.WellKept.{of-start}
use Rattle.salt_model.specs.Trace.{start_of}

pub returns : goal.returns
returns c = (λ trace p w. written-at-end trace p (of-start (start_of trace).kept w))
