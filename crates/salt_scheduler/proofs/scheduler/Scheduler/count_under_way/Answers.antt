use Rattle.salt_scheduler.proofs.scheduler.Scheduler.count_under_way.Goals as goal
use Rattle.law_states.specs.Readings.{first_parts}
use Rattle.salt_scheduler.proofs.Counting.{counted-apart}
use Rattle.salt_values.specs.Id.{in_order, without}
use Rattle.std.proofs.Common.{ap, arith, ◌∙◌}
use Rattle.std.specs.Prelude.{length}

pub returns : goal.returns
returns c = λ s stands distinct.
    let programs = s.watch.programs in
    let first = first_parts s.units.units in
    let same = ap length (c.programs.ensures s.watch stands.watch) in
    let left = ap length (c.strike_unreleased.ensures s.watch stands.watch
    ∙ ap (without programs) (c.in_ok-others.ensures ∙ ap in_order (c.as_slice.ensures.value ∙ c.in_ok-beginning.ensures s.units stands.books))) in
    let both = counted-apart programs first distinct in
    omega (arith, c.len.ensures, c.strike_unreleased.new.others.ok.0, same, left, both)
