use Rattle.salt_locks.proofs.Clearing.{before_clear, before_other}
use Rattle.salt_locks.proofs.clear.first_reaching.Goals as goal
use Rattle.salt_model.specs.declared.locks.Lock.{Lock}
use Rattle.std.proofs.Common.{ap, arith, sym, ◌-◌, ◌∙◌}

pub returns-then-last-table : goal.returns-then-last-table
returns-then-last-table c =
    let some = c.loop-left-test.true in
    before_other c.args.locks.now.items c.args.table c.args.low.now c.loop-left.left c.index-last.result.now c.requires.order (omega (arith, some)) c.loop-left.invariant c.index-last.ensures
    (λ e. c.if-last-table.true (ap (λ (l : Lock). l.table) c.index-last.ensures ∙ e))

pub returns-then-is_clear_at : goal.returns-then-is_clear_at
returns-then-is_clear_at c =
    let some = c.loop-left-test.true in
    let inv = c.loop-left.invariant in
    before_clear c.args.locks.now.items c.args.clear.now.items c.args.table c.args.low.now (c.loop-left.left - 1) c.requires.order c.requires.marked (omega (arith, some, inv)) (sym c.if-is_clear_at.ensures)
