use Rattle.std.proofs.Common.{add-one, sym, ◌∙◌}
use Rattle.salt_exprs.proofs.Lists.{set_field-more}
use Rattle.salt_exprs.proofs.sets.put.Goals as goal

pub loop-number-preserved : goal.loop-number-preserved
loop-number-preserved c =
    c.in_ok-put_at.ensures ∙
    rw (c.loop-number.invariant, c.has_name.ensures, add-one)
    (sym (set_field-more c.args.columns.now c.loop-number.number c.args.name.now c.args.value.now c.args.row.now c.index-columns-number.result c.loop-number-test.true c.index-columns-number.is))
