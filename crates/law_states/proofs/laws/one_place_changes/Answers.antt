use Rattle.law_states.proofs.Rising.{change-at, named-at, without-at}
use Rattle.law_states.proofs.laws.one_place_changes.Goals as goal

pub returns-clause-change : goal.returns-clause-change
returns-clause-change c = change-at

pub returns-clause-without : goal.returns-clause-without
returns-clause-without c = without-at

pub returns-clause-named : goal.returns-clause-named
returns-clause-named c = named-at
