use Rattle.law_states.proofs.KeptTable.{clashing-from}
use Rattle.law_states.proofs.laws.clashes_come_from_kept_locks.Goals as goal

pub returns : goal.returns
returns c = clashing-from
