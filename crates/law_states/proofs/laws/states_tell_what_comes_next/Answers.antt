use Rattle.law_states.proofs.PointsGoOn.{asked-kept, flight-kept, refusal-kept, said-kept, turn-kept, turned-kept}
use Rattle.salt_model.specs.Next.{next}
use Rattle.salt_model.specs.Trace.{◌says◌}
use Rattle.std.specs.Prelude.{refl}
use Rattle.law_states.proofs.laws.states_tell_what_comes_next.Goals as goal

pub returns : goal.returns
returns c = record {
  refuses = (λ s trace asked k h. refusal-kept s trace asked k h.played h.well);
  asked = (λ s trace asked x k h. asked-kept s trace asked x k h.played h.well);
  turn = turn-kept;
  turned = (λ s trace b x k h. turned-kept s trace b x k h.played h.well);
  said = (λ old new trace e x k h a. said-kept old new trace e x k h.played h.well a);
  flight = (λ trace e. flight-kept trace e (next (trace says e)) refl);
}
