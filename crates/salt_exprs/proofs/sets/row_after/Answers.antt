use Rattle.salt_exprs.proofs.Lists.{one_set}
use Rattle.salt_exprs.proofs.sets.row_after.Goals as goal

pub returns-then-sets-eq1 : goal.returns-then-sets-eq1
returns-then-sets-eq1 c = rw (one_set c.args.sets.now c.index-sets-0.result c.if-sets-eq1.true c.index-sets-0.is) c.row_after_one.ensures
