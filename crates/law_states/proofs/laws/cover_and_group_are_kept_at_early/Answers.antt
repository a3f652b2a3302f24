use Rattle.law_states.proofs.EarlyKept.{early-keeps}
use Rattle.law_states.proofs.laws.cover_and_group_are_kept_at_early.Goals as goal

pub returns : goal.returns
returns c = (λ trace bs h. early-keeps trace bs h.played h.well)
