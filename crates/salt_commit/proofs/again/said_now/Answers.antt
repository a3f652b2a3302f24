use Rattle.salt_commit.proofs.Units.{kept_units}
use Rattle.salt_commit.proofs.again.said_now.Goals as goal
use Rattle.salt_commit.specs.Openings.{named_units}
use Rattle.salt_values.specs.declared.id.Id.{Id}
use Rattle.std.proofs.Common.{List, ap, length, sym, ℕ, ◌∙◌}

pub units_in_part-requires-clause-each : goal.units_in_part-requires-clause-each
units_in_part-requires-clause-each g c = ap (λ (l : List ℕ). length l) c.as_slice-2.ensures ∙ (c.in_ok-kept.ensures.masks ∙ sym (ap (λ (l : List Id). length l) c.as_slice.ensures))

pub returns-clause-log : goal.returns-clause-log
returns-clause-log g c which log reads told =
    let k = c.in_ok-kept.kept in
    let h = c.in_ok-kept.ensures.keeps which log reads told in
    (h.boot, c.in_ok-units.ensures ∙ (ap (λ us. named_units c.args.part us c.as_slice-2.result.now) c.as_slice.ensures ∙ (ap (named_units c.args.part k.decided) c.as_slice-2.ensures ∙ kept_units c.args.part k log h)))
