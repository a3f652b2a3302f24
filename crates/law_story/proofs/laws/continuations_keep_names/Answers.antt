use Rattle.law_story.proofs.CalledNames.{names-kept}
use Rattle.law_story.proofs.WellKept.{of-start}
use Rattle.salt_model.specs.Trace.{start_of}
use Rattle.law_story.proofs.laws.continuations_keep_names.Goals as goal

pub returns : goal.returns
returns c = (λ trace p w a. names-kept trace p (of-start (start_of trace).kept w) a)
