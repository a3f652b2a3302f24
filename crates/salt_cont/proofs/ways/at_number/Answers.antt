use Rattle.salt_cont.proofs.Numbers.{lent, number_zero, slice_get-at_number}
use Rattle.salt_cont.proofs.ways.at_number.Goals as goal
use Rattle.std.proofs.Common.{refl, ◌-◌, ◌∙◌}

pub returns-then-number-eq0 : goal.returns-then-number-eq0
returns-then-number-eq0 g c = rw (c.if-number-eq0.true, number_zero c.args.items.now) refl

pub returns : goal.returns
returns g c =
    lent c.args.items.now (c.args.number - 1) c.get.result c.get.ensures.lookup.0 c.get.ensures.lookup.1
    ∙ slice_get-at_number c.args.items.now c.args.number c.if-number-eq0.false
