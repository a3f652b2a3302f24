use Rattle.law_states.proofs.Circles.{found-none, none-found, none-waiting}
use Rattle.law_states.proofs.CirclesAfter.{circles-stay-away}
use Rattle.law_states.proofs.laws.circles_come_with_waits.Goals as goal

pub returns-clause-found : goal.returns-clause-found
returns-clause-found c x sources closes once = (found-none x sources closes once, none-found x sources closes once)

pub returns-clause-stay : goal.returns-clause-stay
returns-clause-stay c = circles-stay-away

pub returns-clause-idle : goal.returns-clause-idle
returns-clause-idle c = none-waiting
