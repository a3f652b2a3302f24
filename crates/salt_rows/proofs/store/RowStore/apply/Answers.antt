use Rattle.salt_disk.proofs.CallAfterCall.{cause_on}
use Rattle.salt_rows.proofs.Applied.{all_applied, applying_begins, applying_goes_on, full_behind, images_behind, next_change, no_more, others_behind, pages_behind, still_stands}
use Rattle.salt_rows.proofs.store.RowStore.apply.Goals as goal
use Rattle.std.proofs.Common.{Some, arith, drop, ◌+◌}
use Rattle.std.proofs.lemmas.Result.{err_from_is_err_and}

pub loop-change-init : goal.loop-change-init
loop-change-init g c = applying_begins (g.D.Disks.view c.args.disks.now) c.args.self.now c.args.changes.now c.requires.put

pub change-requires : goal.change-requires
change-requires g c =
    let l = c.loop-change in
    let d0 = g.D.Disks.view c.args.disks.now in
    let d = g.D.Disks.view l.disks in
    let all = c.args.changes.now in
    let so_far = next_change d0 d c.args.self.now l.self all l.change-index c.change-item.result c.loop-change-test.true c.change-item.is l.invariant in
    record { stands = still_stands d0 d d c.args.self.now l.self l.self all c.change-item.result (drop (l.change-index + 1) all) so_far c.requires.stands; put = so_far.put.0 }

pub loop-change-preserved : goal.loop-change-preserved
loop-change-preserved g c =
    let l = c.loop-change in
    let d0 = g.D.Disks.view c.args.disks.now in
    let d = g.D.Disks.view l.disks in
    let all = c.args.changes.now in
    let so_far = next_change d0 d c.args.self.now l.self all l.change-index c.change-item.result c.loop-change-test.true c.change-item.is l.invariant in
    applying_goes_on d0 d (g.D.Disks.view c.change.new.disks) c.args.self.now l.self c.change.new.self all c.change-item.result (drop (l.change-index + 1) all) so_far
    c.in_ok-change.ensures.device c.in_ok-change.ensures.others c.in_ok-change.ensures.cause c.in_ok-change.ensures.rows c.in_ok-change.ensures.images c.in_ok-change.ensures.named c.in_ok-change.ensures.pages

-- AN ERROR

pub returns-in_err-change-clause-images : goal.returns-in_err-change-clause-images
returns-in_err-change-clause-images g c =
    let l = c.loop-change in
    let d0 = g.D.Disks.view c.args.disks.now in
    let d = g.D.Disks.view l.disks in
    let all = c.args.changes.now in
    let so_far = next_change d0 d c.args.self.now l.self all l.change-index c.change-item.result c.loop-change-test.true c.change-item.is l.invariant in
    images_behind d0 d (g.D.Disks.view c.change.new.disks) c.args.self.now l.self c.change.new.self all c.change-item.result (drop (l.change-index + 1) all) so_far c.in_err-change.ensures.images

pub returns-in_err-change-clause-pages : goal.returns-in_err-change-clause-pages
returns-in_err-change-clause-pages g c =
    let l = c.loop-change in
    let d0 = g.D.Disks.view c.args.disks.now in
    let d = g.D.Disks.view l.disks in
    let all = c.args.changes.now in
    let so_far = next_change d0 d c.args.self.now l.self all l.change-index c.change-item.result c.loop-change-test.true c.change-item.is l.invariant in
    pages_behind d0 d (g.D.Disks.view c.change.new.disks) c.args.self.now l.self c.change.new.self all c.change-item.result (drop (l.change-index + 1) all) so_far c.in_err-change.ensures.pages

pub returns-in_err-change-clause-others : goal.returns-in_err-change-clause-others
returns-in_err-change-clause-others g c =
    let l = c.loop-change in
    let d0 = g.D.Disks.view c.args.disks.now in
    let d = g.D.Disks.view l.disks in
    let all = c.args.changes.now in
    let so_far = next_change d0 d c.args.self.now l.self all l.change-index c.change-item.result c.loop-change-test.true c.change-item.is l.invariant in
    let p = err_from_is_err_and c.from_residual.result c.from_residual.ensures.1 in
    rw (p.1, p.2) (others_behind d0 d (g.D.Disks.view c.change.new.disks) c.args.self.now l.self c.change.new.self all c.change-item.result (drop (l.change-index + 1) all) so_far (Some c.in_err-change.field-0.0) c.in_err-change.ensures.others)

pub returns-in_err-change-clause-cause : goal.returns-in_err-change-clause-cause
returns-in_err-change-clause-cause g c =
    let l = c.loop-change in
    let d0 = g.D.Disks.view c.args.disks.now in
    let d = g.D.Disks.view l.disks in
    let p = err_from_is_err_and c.from_residual.result c.from_residual.ensures.1 in
    rw (p.1, p.2) (cause_on d0 d (g.D.Disks.view c.change.new.disks) (Some c.in_err-change.field-0.0) l.invariant.cause c.in_err-change.ensures.cause)

pub returns-in_err-change-clause-full : goal.returns-in_err-change-clause-full
returns-in_err-change-clause-full g c =
    let l = c.loop-change in
    let d0 = g.D.Disks.view c.args.disks.now in
    let d = g.D.Disks.view l.disks in
    let all = c.args.changes.now in
    let so_far = next_change d0 d c.args.self.now l.self all l.change-index c.change-item.result c.loop-change-test.true c.change-item.is l.invariant in
    let p = err_from_is_err_and c.from_residual.result c.from_residual.ensures.1 in
    rw (p.1, p.2) (full_behind d0 d (g.D.Disks.view c.change.new.disks) c.args.self.now l.self c.change.new.self all c.change-item.result (drop (l.change-index + 1) all) so_far (Some c.in_err-change.field-0.0) c.in_err-change.ensures.full)

-- ALL ARE MADE

pub returns-clause-rows : goal.returns-clause-rows
returns-clause-rows g c =
    let l = c.loop-change in
    let d0 = g.D.Disks.view c.args.disks.now in
    let d = g.D.Disks.view l.disks in
    let all = c.args.changes.now in
    all_applied d0 d c.args.self.now l.self all (no_more d0 d c.args.self.now l.self all l.change-index (omega (arith, c.loop-change-test.false)) l.invariant)

pub returns-clause-images : goal.returns-clause-images
returns-clause-images g c = λ dev named t is. (c.loop-change.invariant.of dev named t is).images

pub returns-clause-named : goal.returns-clause-named
returns-clause-named g c = λ dev named t is told. (c.loop-change.invariant.of dev named t is).sides told

pub returns-clause-pages : goal.returns-clause-pages
returns-clause-pages g c = λ dev named t is told. (c.loop-change.invariant.of dev named t is).pages told
