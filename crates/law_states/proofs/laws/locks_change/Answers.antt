use Rattle.law_states.proofs.LocksAfter.{held-says}
use Rattle.law_states.proofs.laws.locks_change.Goals as goal

pub returns : goal.returns
returns c = (λ trace e h. held-says trace e h.played h.well)
