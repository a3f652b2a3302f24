use Rattle.law_states.proofs.KeptGraph.{clash-kept, served-kept}
use Rattle.law_states.proofs.laws.service_comes_from_what_is_kept.Goals as goal

pub returns : goal.returns
returns c = record { owners = clash-kept; served = served-kept }
