use Rattle.salt_judge.proofs.Meeting.{unwhole_exactly}
use Rattle.salt_judge.proofs.laws.whole_is_exact.Goals as goal

pub returns : goal.returns
returns c = λ m trace e w. unwhole_exactly m trace e w
