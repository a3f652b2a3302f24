use Rattle.law_states.proofs.KeptPrograms.{deps-asks, deps-turns}
use Rattle.law_states.proofs.laws.lines_move_no_dependency.Goals as goal

pub returns : goal.returns
returns c = record { asks = deps-asks; turns = deps-turns }
