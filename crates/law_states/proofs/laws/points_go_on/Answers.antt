use Rattle.law_states.proofs.PointsFall.{falls-point}
use Rattle.law_states.proofs.PointsGoOn.{idle-complete, runs-append, runs-point, start-on, story-on}
use Rattle.law_states.proofs.laws.points_go_on.Goals as goal

pub returns : goal.returns
returns c = record { runs = runs-point; falls = falls-point; idle = idle-complete; one_more = runs-append; story = story-on; start = start-on }
