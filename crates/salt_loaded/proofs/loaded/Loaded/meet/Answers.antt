use Rattle.salt_loaded.proofs.Meeting.{one_fails, one_more}
use Rattle.salt_loaded.proofs.loaded.Loaded.meet.Goals as goal

pub returns-then-not-branch : goal.returns-then-not-branch
returns-then-not-branch c = one_fails c.args.schema.now c.args.self.now c.loop-i.i c.table.result c.row_from.result.now c.row_from.ensures c.table.ensures c.in_ok-row_meets.field-0 c.in_ok-row_meets.ensures c.loop-i.invariant c.if-not-branch.true

pub loop-i-preserved : goal.loop-i-preserved
loop-i-preserved c = one_more c.args.schema.now c.args.self.now c.loop-i.i c.table.result c.row_from.result.now c.row_from.ensures c.table.ensures c.in_ok-row_meets.field-0 c.in_ok-row_meets.ensures c.loop-i.invariant c.if-not-branch.false
