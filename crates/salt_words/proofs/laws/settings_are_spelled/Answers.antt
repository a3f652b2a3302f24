use Rattle.salt_words.proofs.Spelled.{spelled}
use Rattle.salt_words.proofs.laws.settings_are_spelled.Goals as goal

pub returns : goal.returns
returns c = λ words gs. spelled words gs
