use Rattle.law_openings.proofs.Opening.{said-in-opening}
use Rattle.law_openings.proofs.laws.openings_tell_what_follows.Goals as goal
use Rattle.std.specs.Prelude.{refl}

pub returns : goal.returns
returns c = record { said = said-in-opening; opened = λ boot n old new x flight. refl }
