use Rattle.salt_pool.proofs.Frames.{first_found}
use Rattle.salt_pool.proofs.pool.Pool.fresh.Goals as goal
use Rattle.salt_pool.specs.Frames.{beside}
use Rattle.salt_pool.specs.Pools.{IsPool, frame_of}
use Rattle.std.proofs.Common.{ap, is_some, subst, sym, ◌∙◌}

pub dirty-requires-clause-frame : goal.dirty-requires-clause-frame
dirty-requires-clause-frame g c =
    let x = c.args.self.now in
    ap (λ y. is_some (frame_of y c.args.page)) c.in_ok-put_in.ensures.ok ∙ ap is_some (first_found c.args.page c.args.value (beside x.dirty.items x.frames.entries c.args.page))

pub dirty-requires-clause-pool : goal.dirty-requires-clause-pool
dirty-requires-clause-pool g c = subst IsPool (sym c.in_ok-put_in.ensures.ok) (c.in_ok-put_in.ensures.pool c.args.value)
