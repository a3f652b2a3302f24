use Rattle.law_story.proofs.FinishedSources.{releases-played}
use Rattle.law_story.proofs.WellKept.{of-start}
use Rattle.salt_model.specs.Trace.{start_of}
use Rattle.law_story.proofs.laws.played_releases_exactly.Goals as goal

pub returns : goal.returns
returns c = (λ trace p w. releases-played trace p (of-start (start_of trace).kept w) w.defined)
