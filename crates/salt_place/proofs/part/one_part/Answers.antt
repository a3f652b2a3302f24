use Rattle.salt_place.proofs.Together.{in_range}
use Rattle.salt_place.proofs.part.one_part.Goals as goal
use Rattle.std.proofs.Common.{sym, ◌∙◌}

pub returns-in-Some-Some-clause-each : goal.returns-in-Some-Some-clause-each
returns-in-Some-Some-clause-each g c key is_key within =
    in_range c.args.shape.kind c.in-Some-Some.lo c.in-Some-Some.hi key c.args.shape.parts c.args.range.now.lo c.args.range.now.hi c.in-Some-Some.is-0 c.in-Some-Some.is-1 (sym c.are_together.ensures ∙ c.if-are_together.true) within
    ∙ sym c.part_of_low.ensures.part

pub returns-in-Some-Some-clause-alone : goal.returns-in-Some-Some-clause-alone
returns-in-Some-Some-clause-alone g c key p low within at =
    sym at
    ∙ in_range c.args.shape.kind c.in-Some-Some.lo c.in-Some-Some.hi key c.args.shape.parts c.args.range.now.lo c.args.range.now.hi c.in-Some-Some.is-0 c.in-Some-Some.is-1 (sym c.are_together.ensures ∙ c.if-are_together.true) within
    ∙ sym c.part_of_low.ensures.part
