use Rattle.law_states.proofs.LocksAfter.{held-asks, held-turns}
use Rattle.law_states.proofs.laws.lines_move_no_lock.Goals as goal

pub returns : goal.returns
returns c = record { asks = held-asks; turns = held-turns }
