use Rattle.salt_rows.proofs.Flushed.{clean_of_flush, full_of_flush, images_of_flush, named_of_flush, rows_of_flush}
use Rattle.salt_rows.proofs.Written.{flushable}
use Rattle.salt_rows.proofs.store.RowStore.flush.Goals as goal
use Rattle.std.proofs.Common.{arith}
use Rattle.std.specs.Result.{result_err}

pub flush-requires : goal.flush-requires
flush-requires g c =
    let d = g.D.Disks.view c.args.disks.now in
    let x = c.args.self.now in
    let s = c.requires in
    record {
      known = omega (arith, s.is.known, s.is.device);
      pool = s.is.kept.is_pool;
      ready = flushable d d x s.dev s.named s.t s.is;
    }

pub returns-clause-rows : goal.returns-clause-rows
returns-clause-rows g c = λ dev named t is.
    let d = g.D.Disks.view c.args.disks.now in
    let e = g.D.Disks.view c.flush.new.disks in
    let f = c.flush.ensures in
    rows_of_flush d e c.args.self.now dev named t is c.flush.result c.flush.new.self f.ok f.pool f.others.shape f.left f.stand f.pages

pub returns-clause-clean : goal.returns-clause-clean
returns-clause-clean g c = clean_of_flush c.flush.result c.args.self.now.pool c.flush.new.self c.flush.ensures.ok

pub returns-clause-images : goal.returns-clause-images
returns-clause-images g c = λ dev named t is.
    let d = g.D.Disks.view c.args.disks.now in
    let e = g.D.Disks.view c.flush.new.disks in
    images_of_flush d e c.args.self.now dev named t is c.flush.ensures.images

pub returns-clause-named : goal.returns-clause-named
returns-clause-named g c = λ dev named t is told.
    let d = g.D.Disks.view c.args.disks.now in
    let e = g.D.Disks.view c.flush.new.disks in
    named_of_flush d e c.args.self.now dev named t is c.flush.result c.flush.new.self.len c.flush.ensures.left told

pub returns-clause-full : goal.returns-clause-full
returns-clause-full g c =
    let d = g.D.Disks.view c.args.disks.now in
    let x = c.args.self.now in
    full_of_flush x.named x.sides.items x.pool.dirty.items c.requires.is.kept.spare (result_err c.flush.result) x.pool.dev (d.limit x.pool.dev) c.flush.ensures.full
