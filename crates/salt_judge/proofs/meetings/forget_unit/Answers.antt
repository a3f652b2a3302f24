use Rattle.salt_judge.proofs.meetings.forget_unit.Goals as goal
use Rattle.salt_judge.specs.declared.met.Touch.{Touch}
use Rattle.salt_values.specs.Id.{is_same_id}
use Rattle.std.proofs.Common.{not, rules}
use Rattle.std.proofs.lemmas.Fn.{filter_same}

pub returns : goal.returns
returns c = filter_same _ (λ (t : Touch). not (is_same_id t.unit c.args.unit)) _ (λ x b f' k. search rules) _ _ c.retain.ensures.filtered
