use Rattle.law_types.proofs.Found.{found-typed}
use Rattle.law_types.proofs.laws.found_is_typed.Goals as goal

pub returns : goal.returns
returns c = found-typed
