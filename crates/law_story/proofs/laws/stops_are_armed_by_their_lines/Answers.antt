use Rattle.law_story.proofs.Arming.{armed-same}
use Rattle.law_story.proofs.laws.stops_are_armed_by_their_lines.Goals as goal

pub returns : goal.returns
returns c = armed-same
