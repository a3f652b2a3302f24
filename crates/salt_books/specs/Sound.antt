-- States of traces that are played.
use Rattle.law_states.specs.Laws.{IsSound}
use Rattle.law_states.specs.States.{Keeps, State}
use Rattle.salt_model.specs.Trace.{Trace}

-- it is that of a sound trace
pub record IsSoundState (s : State) : Type 0 where
  pub trace : Trace
  pub keeps : Keeps s trace
  pub sound : IsSound trace
