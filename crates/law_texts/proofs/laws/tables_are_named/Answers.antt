use Rattle.law_texts.proofs.Growing.{naming_grows}
use Rattle.law_texts.proofs.laws.tables_are_named.Goals as goal
use Rattle.std.proofs.Common.{refl}

pub returns-clause-none : goal.returns-clause-none
returns-clause-none c = record { names = tt; apart = refl }

pub returns-clause-more : goal.returns-clause-more
returns-clause-more c = naming_grows
