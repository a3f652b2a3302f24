-- The state by lists goes along with each trace that is played.
use Rattle.law_states.proofs.PlainGoesOn.{plain-says, turn-stays}
use Rattle.law_states.proofs.StatesGoOn.{states-ask, states-say, states-start, states-turn}
use Rattle.law_states.specs.PlainStates.{IsInTurn, as_state, state_of}
use Rattle.law_states.specs.States.{Keeps}
use Rattle.law_states.specs.UnitFacts.{facts_in}
use Rattle.salt_model.specs.Kept.{WellKept}
use Rattle.salt_model.specs.Played.{IsPlayed}
use Rattle.salt_model.specs.Trace.{Trace, from, start_of, ◌asks◌, ◌says◌, ◌turns◌}

-- locks are always in the order taken
pub always-in-turn : (trace : Trace) → IsInTurn (state_of trace).watch
always-in-turn (from k) = record { rises = tt; below = λ n i. absurd i }
always-in-turn (trace asks asked) = always-in-turn trace
always-in-turn (trace turns b) = always-in-turn trace
always-in-turn (trace says e) = turn-stays (facts_in (state_of trace).units e) e (state_of trace).watch (always-in-turn trace)

pub each-kept : (trace : Trace) → IsPlayed trace → WellKept (start_of trace).kept → Keeps (as_state (state_of trace)) trace
each-kept (from k) p w = states-start k
each-kept (trace asks asked) p w = states-ask (as_state (state_of trace)) trace asked (each-kept trace p.0 w) p.0 w
each-kept (trace turns b) p w = states-turn (as_state (state_of trace)) trace b (each-kept trace p.0 w) p.0 w
each-kept (trace says e) p w =
    states-say (as_state (state_of trace)) (as_state (state_of (trace says e))) trace e (each-kept trace p.0 w) p w (plain-says e (state_of trace))
