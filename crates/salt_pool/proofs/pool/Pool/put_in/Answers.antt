use Rattle.lru.specs.LruCache.{lru_cache}
use Rattle.salt_pool.proofs.Pools.{pool_new, put_is}
use Rattle.salt_pool.proofs.pool.Pool.put_in.Goals as goal
use Rattle.salt_pool.specs.Frames.{without}
use Rattle.std.proofs.Common.{ap, sym, ◌∙◌}

pub returns-clause-ok : goal.returns-clause-ok
returns-clause-ok g c =
    let gone = c.victim-victim.result in
    c.take_frame.ensures
    ∙ put_is c.args.self.now c.args.page c.args.value gone (lru_cache (without gone c.put.new.self.entries) c.put.new.self.cap) c.requires.pool c.requires.absent (sym c.victim-victim.ensures)
    (ap (λ k. lru_cache (without gone k.entries) k.cap) c.in_ok-put.ensures.entries)

pub returns-clause-pool : goal.returns-clause-pool
returns-clause-pool g c = pool_new c.args.self.now c.args.page c.requires.pool c.requires.absent c.requires.room
