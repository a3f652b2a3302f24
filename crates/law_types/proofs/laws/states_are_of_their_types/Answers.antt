use Rattle.law_types.proofs.AllTyped.{typed-at}
use Rattle.law_types.proofs.States.{state-typed}
use Rattle.law_states.specs.Steps.{units_after}
use Rattle.salt_model.specs.Trace.{◌says◌}
use Rattle.law_types.proofs.laws.states_are_of_their_types.Goals as goal

pub returns : goal.returns
returns c = record {
  here = λ s trace keeps sound typed keys. state-typed s trace keeps (typed-at trace sound.played sound.well typed keys);
  says = λ s trace e keeps sound typed keys. state-typed (units_after e s) (trace says e) (c.units_go_on.ensures.says s trace e keeps sound) (typed-at (trace says e) sound.played sound.well typed keys);
}
