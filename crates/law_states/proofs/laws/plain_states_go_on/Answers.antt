use Rattle.law_states.proofs.PlainGoesOn.{plain-reading, plain-says, turn-stays}
use Rattle.law_states.proofs.laws.plain_states_go_on.Goals as goal

pub returns : goal.returns
returns c = record { says = plain-says; in_turn = turn-stays; reads = plain-reading }
