use Rattle.salt_verdict.proofs.Faithful.{dishonest_same}
use Rattle.salt_verdict.proofs.laws.honest_is_exact.Goals as goal

pub returns : goal.returns
returns c = λ before after trace e h f k. dishonest_same before after trace e h f k
