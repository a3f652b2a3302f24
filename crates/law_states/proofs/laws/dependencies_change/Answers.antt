use Rattle.law_states.proofs.Pairs.{deps-after}
use Rattle.law_states.proofs.laws.dependencies_change.Goals as goal

pub returns : goal.returns
returns c = (λ trace e old new h. deps-after trace e old new h.played h.well)
