use Rattle.salt_judge.proofs.Meeting.{meetings_on}
use Rattle.salt_judge.proofs.laws.meeting_goes_on.Goals as goal

pub returns : goal.returns
returns c = λ l s m n trace e h k w f after. meetings_on l s m trace h w e k f n after
