use Rattle.law_story.proofs.Salted.{whole-played}
use Rattle.law_story.proofs.WellKept.{of-start}
use Rattle.law_story.proofs.WholeLaw.{whole-late}
use Rattle.salt_model.specs.Trace.{start_of}
use Rattle.law_story.proofs.laws.played_is_whole.Goals as goal

pub returns-clause-late : goal.returns-clause-late
returns-clause-late c = whole-late

pub returns-clause-early : goal.returns-clause-early
returns-clause-early c = (λ trace p w. whole-played trace p (of-start (start_of trace).kept w) w.defined)
