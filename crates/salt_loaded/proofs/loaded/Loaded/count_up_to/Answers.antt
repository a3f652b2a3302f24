use Rattle.salt_loaded.proofs.Tables.{as_many, counts}
use Rattle.salt_loaded.proofs.loaded.Loaded.count_up_to.Goals as goal
use Rattle.salt_loaded.specs.Loaded.{CountsRows}
use Rattle.salt_model.specs.Tables.{Tables}
use Rattle.salt_values.specs.Value.{is_value_at_most}
use Rattle.std.proofs.Common.{ap, length, subst, ◌∙◌, ◌≤◌}

pub returns-clause-counted : goal.returns-clause-counted
returns-clause-counted c =
    let within = rw c.as_slice-2.ensures.value at c.count_up_to.ensures.bound in
    let point = rw (c.as_slice.ensures.value, c.as_slice-2.ensures.value) at c.count_up_to.ensures.counted in
    subst (λ (es : Tables). CountsRows (λ k. is_value_at_most k c.args.key.now) es c.count_up_to.result) c.self.view_is
    (counts c.self.inside.table c.self.inside.bytes.items c.self.inside.spots.items c.self.invariant (λ k. is_value_at_most k c.args.key.now) c.count_up_to.result within point)

pub returns-clause-bound : goal.returns-clause-bound
returns-clause-bound c =
    let long = as_many c.self.inside.table c.self.inside.bytes.items c.self.inside.spots.items c.self.invariant ∙ ap (λ (es : Tables). length es.list) c.self.view_is in
    subst (λ n. c.count_up_to.result ≤ n) (ap length c.as_slice-2.ensures.value ∙ long) c.count_up_to.ensures.bound
