use Rattle.salt_locks.proofs.Clearing.{all_behind}
use Rattle.salt_locks.proofs.clear.cover.Goals as goal
use Rattle.std.proofs.Common.{arith, sym}

pub returns-then-ends_by-clause-later : goal.returns-then-ends_by-clause-later
returns-then-ends_by-clause-later c =
    let inv = c.loop-at.invariant in
    let test = c.loop-at-test.true in
    let place = c.requires.place in
    λ k d b h. all_behind c.args.locks.now.items c.loop-at.clear.items c.args.lock.now c.index.result.now c.loop-at.at c.requires.order (omega (arith, inv.0, place)) (omega (arith, test)) c.index.ensures
    (sym c.if-ends_by.ensures) (λ j b p q. inv.3 j b (omega (arith, p, place)) q) k d b (omega (arith, h, place))
