use Rattle.salt_loaded.proofs.Tables.{as_many, counts}
use Rattle.salt_loaded.proofs.loaded.Loaded.count_below.Goals as goal
use Rattle.salt_loaded.specs.Loaded.{CountsRows}
use Rattle.salt_model.specs.Tables.{Tables}
use Rattle.salt_values.specs.Value.{is_value_below}
use Rattle.std.proofs.Common.{ap, length, subst, ◌∙◌, ◌≤◌}

pub returns-clause-counted : goal.returns-clause-counted
returns-clause-counted c =
    let within = rw c.as_slice-2.ensures.value at c.count_below.ensures.bound in
    let point = rw (c.as_slice.ensures.value, c.as_slice-2.ensures.value) at c.count_below.ensures.counted in
    subst (λ (es : Tables). CountsRows (λ k. is_value_below k c.args.key.now) es c.count_below.result) c.self.view_is
    (counts c.self.inside.table c.self.inside.bytes.items c.self.inside.spots.items c.self.invariant (λ k. is_value_below k c.args.key.now) c.count_below.result within point)

pub returns-clause-bound : goal.returns-clause-bound
returns-clause-bound c =
    let long = as_many c.self.inside.table c.self.inside.bytes.items c.self.inside.spots.items c.self.invariant ∙ ap (λ (es : Tables). length es.list) c.self.view_is in
    subst (λ n. c.count_below.result ≤ n) (ap length c.as_slice-2.ensures.value ∙ long) c.count_below.ensures.bound
