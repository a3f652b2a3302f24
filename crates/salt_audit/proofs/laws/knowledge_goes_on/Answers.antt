use Rattle.salt_audit.proofs.Behind.{goes_on_knowing}
use Rattle.salt_audit.proofs.laws.knowledge_goes_on.Goals as goal

pub returns : goal.returns
returns c = λ s t trace e k f b. goes_on_knowing s trace k t e f b
