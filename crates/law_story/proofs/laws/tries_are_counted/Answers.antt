use Rattle.law_story.proofs.Tries.{tries-always, tries-used}
use Rattle.law_story.proofs.WellKept.{of-start}
use Rattle.law_story.proofs.laws.tries_are_counted.Goals as goal
use Rattle.salt_model.specs.Trace.{start_of}

pub returns-clause-within : goal.returns-clause-within
returns-clause-within c = (λ trace p w. tries-always trace p (of-start (start_of trace).kept w) w.tries)

pub returns-clause-used : goal.returns-clause-used
returns-clause-used c = (λ trace p w. tries-used trace p (of-start (start_of trace).kept w) w.defined)
