use Rattle.salt_loaded.proofs.Counted.{low_counts}
use Rattle.salt_loaded.proofs.loaded.Loaded.count_before.Goals as goal
use Rattle.salt_loaded.specs.Loaded.{CountsRows}
use Rattle.salt_ranges.specs.Ranges.{is_above_low}
use Rattle.salt_values.specs.declared.value.Value.{Value}
use Rattle.std.proofs.Common.{Option, subst, sym}
use Rattle.std.specs.Prelude.{not}

pub returns-in-Some-clause-counted : goal.returns-in-Some-clause-counted
returns-in-Some-clause-counted c =
    subst (λ (lo : Option Value). CountsRows (λ k. not (is_above_low lo k)) c.args.self.now c.count_below.result) (sym c.in-Some.is) (low_counts c.in-Some.lo c.args.self.now c.count_below.result c.count_below.ensures.counted)
