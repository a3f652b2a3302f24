use Rattle.law_states.proofs.CallsFit.{finish-leaves, finish-marks, finish-none}
use Rattle.law_states.proofs.laws.finishes_fit.Goals as goal

pub returns : goal.returns
returns c = record { marks = finish-marks; leaves = finish-leaves; none = finish-none }
