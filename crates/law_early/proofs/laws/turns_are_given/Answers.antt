use Rattle.law_early.proofs.Turning.{gives-turns}
use Rattle.law_early.proofs.laws.turns_are_given.Goals as goal

pub returns : goal.returns
returns c = gives-turns
