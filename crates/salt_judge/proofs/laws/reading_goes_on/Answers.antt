use Rattle.salt_judge.proofs.Reading.{reads_on}
use Rattle.salt_judge.proofs.laws.reading_goes_on.Goals as goal

pub returns : goal.returns
returns c = λ l r s trace e h k f after. reads_on l r trace h k s e f after
