use Rattle.salt_locks.proofs.Clearing.{clear_before, one_further, other_before}
use Rattle.salt_locks.proofs.clear.is_clear.Goals as goal
use Rattle.std.proofs.Common.{arith, sym, ◌-◌}

pub returns-then-is_clear_at : goal.returns-then-is_clear_at
returns-then-is_clear_at c =
    let ls = c.args.locks.now.items in
    let l = c.args.lock.now in
    let n = c.loop-left.left - 1 in
    let inv = c.loop-left.invariant in
    let some = c.loop-left-test.true in
    let place = c.requires.place in
    let m = c.index-before.result.now in
    let before = clear_before ls c.args.clear.now.items l n c.requires.order c.requires.marked (omega (arith, inv.0, place, some)) (sym c.if-is_clear_at.ensures) in
    λ t k d h. one_further ls l m n c.args.place c.index-before.ensures (omega (arith, inv.0, inv.1, some)) (sym c.if-not-ends_by.ensures) before (λ j e p q. inv.3 j e (omega (arith, p, some)) q) k d h

pub returns-then-before-lock : goal.returns-then-before-lock
returns-then-before-lock c =
    let ls = c.args.locks.now.items in
    let l = c.args.lock.now in
    let n = c.loop-left.left - 1 in
    let inv = c.loop-left.invariant in
    let some = c.loop-left-test.true in
    let place = c.requires.place in
    let m = c.index-before.result.now in
    let before = other_before ls l m n c.requires.order (omega (arith, inv.0, place, some)) c.index-before.ensures c.if-before-lock.true in
    λ t k d h. one_further ls l m n c.args.place c.index-before.ensures (omega (arith, inv.0, inv.1, some)) (sym c.if-not-ends_by.ensures) before (λ j e p q. inv.3 j e (omega (arith, p, some)) q) k d h
