use Rattle.salt_disk.proofs.CallAfterCall.{cause_on, keeps_on}
use Rattle.salt_rows.proofs.Loads.{all_loaded, loading_begins, loading_goes, loading_passes, looks_on, page_there, still_stands}
use Rattle.salt_rows.proofs.store.RowStore.load_marked.Goals as goal
use Rattle.salt_rows.proofs.store.RowStore.load_marked.Goals.{else-marks-page, then-marks-page+in_ok-load_on}
use Rattle.std.proofs.Common.{Some}
use Rattle.std.proofs.lemmas.Result.{err_from_is_err_and}

pub loop-page-init : goal.loop-page-init
loop-page-init g c = loading_begins (g.D.Disks.view c.args.disks.now) c.args.self.now c.args.range.now c.args.marks.now c.args.out.now

pub load_on-requires : goal.load_on-requires
load_on-requires g c =
    let l = c.loop-page in
    let d0 = g.D.Disks.view c.args.disks.now in
    let d = g.D.Disks.view l.disks in
    record {
      stands = still_stands d0 d c.args.self.now l.self c.args.range.now c.args.marks.now c.args.out.now l.out l.page l.invariant c.requires.count c.loop-page-test.true c.requires.stands;
      page = page_there d0 d c.args.self.now l.self c.args.range.now c.args.marks.now c.args.out.now l.out l.page l.invariant c.requires.count c.loop-page-test.true;
    }

pub loop-page-preserved : goal.loop-page-preserved
loop-page-preserved g c =
    let l = c.loop-page in
    let d0 = g.D.Disks.view c.args.disks.now in
    let d = g.D.Disks.view l.disks in
    elim c.if-marks-page.branch [
      | then-marks-page+in_ok-load_on w ↦
          let made = w.in_ok-load_on.ensures in
          rw (w.self-is, w.disks-is, w.out-is)
          (loading_goes d0 d c.args.self.now l.self c.args.range.now c.args.marks.now c.args.out.now l.out l.page l.invariant c.requires.count c.loop-page-test.true
          (g.D.Disks.view w.load_on.new.disks) w.load_on.new.self w.load_on.new.out made.same made.kept made.cause made.stands made.pages made.rows)
      | else-marks-page w ↦
          rw (w.self-is, w.disks-is, w.out-is)
          (loading_passes d0 d c.args.self.now l.self c.args.range.now c.args.marks.now c.args.out.now l.out l.page l.invariant c.requires.count c.loop-page-test.true w.if-marks-page.false)
    ]

pub returns-clause-rows : goal.returns-clause-rows
returns-clause-rows g c pages on none told =
    let l = c.loop-page in
    all_loaded (g.D.Disks.view c.args.disks.now) (g.D.Disks.view l.disks) c.args.self.now l.self c.args.range.now c.args.marks.now c.args.out.now l.out l.page l.invariant c.requires.count c.loop-page-test.false pages on none told

pub returns-clause-stands : goal.returns-clause-stands
returns-clause-stands g c dev named t is = c.loop-page.invariant.stands dev named t is

-- A PAGE WAS NOT LOOKED AT

pub returns-in_err-load_on-clause-stands : goal.returns-in_err-load_on-clause-stands
returns-in_err-load_on-clause-stands g c dev named t is =
    let p = err_from_is_err_and c.from_residual.result c.from_residual.ensures.1 in
    rw (p.1, p.2) (c.in_err-load_on.ensures.stands dev named t (c.loop-page.invariant.stands dev named t is))

pub returns-in_err-load_on-clause-same : goal.returns-in_err-load_on-clause-same
returns-in_err-load_on-clause-same g c = looks_on c.args.self.now c.loop-page.self c.load_on.new.self c.loop-page.invariant.same c.in_err-load_on.ensures.same

pub returns-in_err-load_on-clause-kept : goal.returns-in_err-load_on-clause-kept
returns-in_err-load_on-clause-kept g c =
    let p = err_from_is_err_and c.from_residual.result c.from_residual.ensures.1 in
    rw (p.1, p.2) (keeps_on (λ _. ⊥) (g.D.Disks.view c.args.disks.now) (g.D.Disks.view c.loop-page.disks) (g.D.Disks.view c.load_on.new.disks) (Some c.in_err-load_on.field-0.0) c.loop-page.invariant.kept c.in_err-load_on.ensures.kept)

pub returns-in_err-load_on-clause-cause : goal.returns-in_err-load_on-clause-cause
returns-in_err-load_on-clause-cause g c =
    let p = err_from_is_err_and c.from_residual.result c.from_residual.ensures.1 in
    rw (p.1, p.2) (cause_on (g.D.Disks.view c.args.disks.now) (g.D.Disks.view c.loop-page.disks) (g.D.Disks.view c.load_on.new.disks) (Some c.in_err-load_on.field-0.0) c.loop-page.invariant.cause c.in_err-load_on.ensures.cause)
