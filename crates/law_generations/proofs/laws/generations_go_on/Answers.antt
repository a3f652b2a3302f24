use Rattle.law_generations.proofs.AsIf.{as_if_on, as_if_same}
use Rattle.law_generations.proofs.laws.generations_go_on.Goals as goal

pub returns : goal.returns
returns g = record { same = as_if_same; on = as_if_on }
