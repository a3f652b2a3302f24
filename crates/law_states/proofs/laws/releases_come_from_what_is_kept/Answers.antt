use Rattle.law_states.proofs.Closures.{release-from}
use Rattle.law_states.proofs.laws.releases_come_from_what_is_kept.Goals as goal

pub returns : goal.returns
returns c = (λ trace d bs h k due. release-from trace d h.played h.well k bs due)
