use Rattle.law_early.proofs.Finding.{none-free, turn-least}
use Rattle.law_early.proofs.laws.turns_are_of_the_least.Goals as goal

pub returns : goal.returns
returns c = record { given = turn-least; none = none-free }
