use Rattle.law_states.proofs.Doing.{does-alike, does-under}
use Rattle.law_states.proofs.OneKey.{one-key-rows}
use Rattle.law_states.proofs.Overlays.{small-views}
use Rattle.law_states.proofs.laws.statements_are_done_under_edits.Goals as goal

pub returns-clause-under : goal.returns-clause-under
returns-clause-under c = (λ s trace o st keeps k. does-under trace s.kept o st keeps.kept k)

pub returns-clause-alike : goal.returns-clause-alike
returns-clause-alike c = does-alike

pub returns-clause-stored : goal.returns-clause-stored
returns-clause-stored c = (λ r ds es rows h same. small-views r ds es rows h same)

pub returns-clause-of_one_key : goal.returns-clause-of_one_key
returns-clause-of_one_key c = one-key-rows
