use Rattle.law_types.proofs.AllTyped.{each-judged, flight-typed, typed-at}
use Rattle.law_types.proofs.laws.played_is_typed.Goals as goal

pub returns : goal.returns
returns c = record { here = typed-at; flight = flight-typed; judged = each-judged }
