use Rattle.salt_pool.proofs.Dirtied.{has_room}
use Rattle.salt_pool.proofs.Pools.{pool_dirty}
use Rattle.salt_pool.proofs.pool.Pool.dirty.Goals as goal
use Rattle.salt_pool.specs.Pools.{IsPool}
use Rattle.std.proofs.Common.{arith, length, subst, sym, ◌<◌, ◌≤◌}

pub put_dirty-requires-clause-rising : goal.put_dirty-requires-clause-rising
put_dirty-requires-clause-rising g c = c.requires.pool.rising

pub put_dirty-requires-clause-room : goal.put_dirty-requires-clause-room
put_dirty-requires-clause-room g c clean =
    let x = c.args.self.now in
    let is = c.requires.pool in
    let fewer : length x.dirty.items < length x.frames.entries = has_room c.args.page x.dirty.items x.frames.entries c.requires.frame clean is.rising is.framed in
    let few : length x.frames.entries ≤ 64 = is.few in
    omega (arith, fewer, few)

pub returns-clause-dirty : goal.returns-clause-dirty
returns-clause-dirty g c = λ i. record c.args.self.now { dirty = record { items = c.put_dirty.ensures i } }

pub returns-clause-pool : goal.returns-clause-pool
returns-clause-pool g c =
    let x = c.args.self.now in
    subst IsPool (λ i. record x { dirty = record { items = sym c.put_dirty.ensures i } }) (pool_dirty x c.args.page c.args.side c.requires.pool c.requires.frame c.requires.side)
