use Rattle.law_decisions.proofs.Flying.{fallen-same, opened-same}
use Rattle.law_decisions.proofs.laws.flights_leave_the_same.Goals as goal

pub returns : goal.returns
returns c = record { fallen = fallen-same; opened = opened-same }
