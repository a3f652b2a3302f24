use Rattle.law_story.proofs.ReadSources.{sources-read}
use Rattle.law_story.proofs.WellKept.{of-start}
use Rattle.salt_model.specs.Trace.{start_of}
use Rattle.law_story.proofs.laws.sources_are_read_through.Goals as goal

pub returns : goal.returns
returns c = (λ trace p w. sources-read trace p (of-start (start_of trace).kept w) w.defined)
