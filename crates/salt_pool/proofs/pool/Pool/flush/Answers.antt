use Rattle.salt_disk.proofs.CallAfterCall.{unless_down}
use Rattle.salt_disk.specs.Disks.{FullOnly, UnlessDown}
use Rattle.salt_pool.proofs.Pools.{pool_flushed, pool_length}
use Rattle.salt_pool.proofs.Writing.{near_later}
use Rattle.salt_pool.proofs.pool.Pool.flush.Goals as goal
use Rattle.salt_pool.specs.Dirtied.{IsRisingFrom}
use Rattle.salt_pool.specs.Flushing.{AreNear, AreOnSides, IsLeftBy, KeepsSides, end_of, length_behind}
use Rattle.salt_pool.specs.Pools.{IsFlushable, IsPool, with_length}
use Rattle.salt_pool.specs.declared.places.Dirty.{Dirty}
use Rattle.std.proofs.Common.{List, Some, ap, subst, sym, ◌≡◌, ◌≤◌, ◌∙◌}
use Rattle.std.proofs.lemmas.Result.{err_from_is_err_and}
use Rattle.std.specs.Prelude.{IsTrue}

pub write_dirty-requires-clause-rising : goal.write_dirty-requires-clause-rising
write_dirty-requires-clause-rising g c = (0, subst (λ (l : List Dirty). IsRisingFrom 0 l) (sym c.as_slice.ensures.value) c.requires.pool.rising)

pub returns-clause-ok : goal.returns-clause-ok
returns-clause-ok g c =
    let x = c.args.self.now in
    let len : c.write_dirty.new.len ≡ length_behind x.len x.dirty.items = c.in_ok-write_dirty.ensures.length ∙ ap (λ (l : List Dirty). length_behind x.len l) c.as_slice.ensures.value in
    λ i. record x { len = len i; dirty = record { items = c.clear.ensures i } }

pub returns-clause-pool : goal.returns-clause-pool
returns-clause-pool g c =
    let x = c.args.self.now in
    let len : c.write_dirty.new.len ≡ length_behind x.len x.dirty.items = c.in_ok-write_dirty.ensures.length ∙ ap (λ (l : List Dirty). length_behind x.len l) c.as_slice.ensures.value in
    subst IsPool (λ i. record x { len = sym len i; dirty = record { items = sym c.clear.ensures i } }) (pool_flushed x c.requires.pool)

pub returns-in_err-write_dirty-clause-pool : goal.returns-in_err-write_dirty-clause-pool
returns-in_err-write_dirty-clause-pool g c = pool_length c.args.self.now c.write_dirty.new.len c.requires.pool

pub returns-clause-images : goal.returns-clause-images
returns-clause-images g c =
    let x = c.args.self.now in
    let d0 = g.D.Disks.view c.args.disks.now in
    let d1 = g.D.Disks.view c.write_dirty.new.disks in
    subst (λ (l : List Dirty). KeepsSides x.len l d0 d1 x.dev) c.as_slice.ensures.value c.write_dirty.ensures.images

pub returns-in_err-write_dirty-clause-images : goal.returns-in_err-write_dirty-clause-images
returns-in_err-write_dirty-clause-images g c =
    let x = c.args.self.now in
    let d0 = g.D.Disks.view c.args.disks.now in
    let d1 = g.D.Disks.view c.write_dirty.new.disks in
    subst (λ (l : List Dirty). KeepsSides x.len l d0 d1 x.dev) c.as_slice.ensures.value c.write_dirty.ensures.images

pub returns-clause-stand : goal.returns-clause-stand
returns-clause-stand g c =
    let x = c.args.self.now in
    let d0 = g.D.Disks.view c.args.disks.now in
    let d1 = g.D.Disks.view c.write_dirty.new.disks in
    let spelled = g.C.PageCodec.spelled x.codec in
    subst (λ (l : List Dirty). IsTrue d0.told → AreOnSides spelled x.frames.entries l (d1.bytes x.dev)) c.as_slice.ensures.value c.in_ok-write_dirty.ensures.stand

pub returns-clause-left : goal.returns-clause-left
returns-clause-left g c =
    let x = c.args.self.now in
    let d0 = g.D.Disks.view c.args.disks.now in
    let d1 = g.D.Disks.view c.write_dirty.new.disks in
    subst (λ (l : List Dirty). IsLeftBy x.len l d0 d1 x.dev c.write_dirty.new.len) c.as_slice.ensures.value c.in_ok-write_dirty.ensures.left

pub returns-in_err-write_dirty-clause-left : goal.returns-in_err-write_dirty-clause-left
returns-in_err-write_dirty-clause-left g c =
    let x = c.args.self.now in
    let d0 = g.D.Disks.view c.args.disks.now in
    let d1 = g.D.Disks.view c.write_dirty.new.disks in
    let e = c.in_err-write_dirty.field-0.0 in
    let p = err_from_is_err_and c.from_residual.result c.from_residual.ensures.1 in
    rw (p.1, p.2) (subst (λ (l : List Dirty). UnlessDown (Some e) (IsLeftBy x.len l d0 d1 x.dev c.write_dirty.new.len)) c.as_slice.ensures.value c.in_err-write_dirty.ensures.left)

pub returns-clause-ready : goal.returns-clause-ready
returns-clause-ready g c =
    let same = c.write_dirty.ensures.others.shape.told in
    record {
      length = λ told. c.in_ok-write_dirty.ensures.left.ends (sym same ∙ told);
      near = subst (λ (l : List Dirty). AreNear c.write_dirty.new.len l) (sym c.clear.ensures) tt;
    }

pub returns-in_err-write_dirty-clause-ready : goal.returns-in_err-write_dirty-clause-ready
returns-in_err-write_dirty-clause-ready g c =
    let x = c.args.self.now in
    let d0 = g.D.Disks.view c.args.disks.now in
    let d1 = g.D.Disks.view c.write_dirty.new.disks in
    let now = c.write_dirty.new.len in
    let same : d1.told ≡ d0.told = c.write_dirty.ensures.others.shape.told in
    let e = c.in_err-write_dirty.field-0.0 in
    let p = err_from_is_err_and c.from_residual.result c.from_residual.ensures.1 in
    rw (p.1, p.2) (unless_down (Some e) (IsLeftBy x.len c.as_slice.result.now d0 d1 x.dev now) (IsFlushable d1 (with_length x now))
    (λ h. record { length = λ told. h.ends (sym same ∙ told); near = near_later x.len now x.dirty.items c.write_dirty.ensures.later c.requires.ready.near }) c.in_err-write_dirty.ensures.left)

pub returns-in_err-write_dirty-clause-full : goal.returns-in_err-write_dirty-clause-full
returns-in_err-write_dirty-clause-full g c =
    let x = c.args.self.now in
    let limit = (g.D.Disks.view c.args.disks.now).limit x.dev in
    let e = c.in_err-write_dirty.field-0.0 in
    let p = err_from_is_err_and c.from_residual.result c.from_residual.ensures.1 in
    rw (p.1, p.2) (subst (λ (l : List Dirty). FullOnly x.dev limit (end_of l) (Some e)) c.as_slice.ensures.value c.in_err-write_dirty.ensures.full)

pub returns-clause-fits : goal.returns-clause-fits
returns-clause-fits g c =
    let x = c.args.self.now in
    subst (λ (l : List Dirty). end_of l ≤ (g.D.Disks.view c.args.disks.now).limit x.dev) c.as_slice.ensures.value c.in_ok-write_dirty.ensures.fits
