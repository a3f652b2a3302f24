use Rattle.salt_books.proofs.AtParts.{at-part}
use Rattle.salt_books.proofs.laws.later_units_stand_at_their_parts.Goals as goal

pub returns : goal.returns
returns c = (λ s trace u keeps sound. at-part s trace u keeps sound)
