use Rattle.salt_storage.proofs.Halted.{halted_later}
use Rattle.salt_driver.proofs.Counted.{opening-halted, opening-join, opening-untold}
use Rattle.salt_driver.proofs.Openings.{down-fallen, down-sound, finding-fails, found-down, not-short}
use Rattle.salt_driver.proofs.Untold.{told-then}
use Rattle.salt_driver.proofs.opening.open_once.Goals as goal
use Rattle.salt_storage.proofs.Staying.{stays-behind}
use Rattle.std.proofs.lemmas.Result.{err_from_is_err_and}
use Rattle.std.proofs.Common.{ap}
use Rattle.std.specs.Prelude.{Err, None, refl}

pub open_found-requires-clause-down : goal.open_found-requires-clause-down
open_found-requires-clause-down g c = λ told.
    let view = g.D.Disks.view in
    let r = c.requires.down (told-then c.find.ensures.within.shape told) in
    let d = r.2 in (
      r.0,
      r.1,
      found-down (g.E.Stepping.on_devices (view c.args.disks.now) c.args.database.now) (g.E.Stepping.on_devices (view c.find.new.disks) c.find.new.self) (g.E.Stepping.flight c.args.database.now) (g.E.Stepping.flight c.find.new.self)
          r.0 c.args.story.now r.1 d (c.in_ok-find.ensures.again (λ never. cc)) c.find.ensures.flies,
    )

pub returns-clause-ok : goal.returns-clause-ok
returns-clause-ok g c = λ start trace d.
    let view = g.D.Disks.view in
    c.in_ok-open_found.ensures.ok start trace
    (found-down (g.E.Stepping.on_devices (view c.args.disks.now) c.args.database.now) (g.E.Stepping.on_devices (view c.find.new.disks) c.find.new.self) (g.E.Stepping.flight c.args.database.now) (g.E.Stepping.flight c.find.new.self)
    start c.args.story.now trace d (c.in_ok-find.ensures.again (λ never. cc)) c.find.ensures.flies)

pub returns-clause-within : goal.returns-clause-within
returns-clause-within g c = stays-behind c.find.ensures.within c.open_found.ensures.within

pub returns-in_err-open_found-clause-within : goal.returns-in_err-open_found-clause-within
returns-in_err-open_found-clause-within g c = stays-behind c.find.ensures.within c.open_found.ensures.within

pub returns-in_err-find-clause-err : goal.returns-in_err-find-clause-err
returns-in_err-find-clause-err g c =
    let p = err_from_is_err_and c.from_residual.result c.from_residual.ensures.1 in
    rw (p.1, p.2) (λ start trace d.
    let view = g.D.Disks.view in
    finding-fails (g.E.Stepping.on_devices (view c.args.disks.now) c.args.database.now) (g.E.Stepping.on_devices (view c.find.new.disks) c.find.new.self)
    (g.E.Stepping.flight c.args.database.now) (g.E.Stepping.flight c.find.new.self) _ start c.args.story.now trace d (λ some. c.in_err-find.ensures.again (not-short _ some)) c.in_err-find.ensures.stands
    c.find.ensures.flies c.in_err-find.ensures.later (λ dev is. c.in_err-find.ensures.full dev (ap Err is)))

pub returns-in_err-open_found-clause-err : goal.returns-in_err-open_found-clause-err
returns-in_err-open_found-clause-err g c =
    let p = err_from_is_err_and c.from_residual-in_err-open_found.result c.from_residual-in_err-open_found.ensures.1 in
    rw (p.1, p.2) (λ start trace d.
    let view = g.D.Disks.view in
    c.in_err-open_found.ensures.err start trace
    (found-down (g.E.Stepping.on_devices (view c.args.disks.now) c.args.database.now) (g.E.Stepping.on_devices (view c.find.new.disks) c.find.new.self) (g.E.Stepping.flight c.args.database.now) (g.E.Stepping.flight c.find.new.self)
    start c.args.story.now trace d (c.in_ok-find.ensures.again (λ never. cc)) c.find.ensures.flies))

pub returns-in_err-find-clause-counts : goal.returns-in_err-find-clause-counts
returns-in_err-find-clause-counts g c =
    let view = g.D.Disks.view in
    let story = c.args.story.now in
    let p = err_from_is_err_and c.from_residual.result c.from_residual.ensures.1 in
    rw (p.1, p.2) (opening-untold (view c.args.disks.now) (view c.find.new.disks) _ story story c.in_err-find.ensures.counts refl)

pub returns-in_err-open_found-clause-counts : goal.returns-in_err-open_found-clause-counts
returns-in_err-open_found-clause-counts g c =
    let view = g.D.Disks.view in
    let story = c.args.story.now in
    let p = err_from_is_err_and c.from_residual-in_err-open_found.result c.from_residual-in_err-open_found.ensures.1 in
    rw (p.1, p.2) (opening-halted (view c.args.disks.now) (view c.open_found.new.disks) c.in_err-open_found.field-0.0 story c.open_found.new.story
    (opening-join (view c.args.disks.now) (view c.find.new.disks) (view c.open_found.new.disks) _ story story c.open_found.new.story
    (opening-untold (view c.args.disks.now) (view c.find.new.disks) None story story c.in_ok-find.ensures.counts refl)
    c.in_err-open_found.ensures.counts))

pub returns-clause-counts : goal.returns-clause-counts
returns-clause-counts g c =
    let view = g.D.Disks.view in
    let story = c.args.story.now in
    opening-join (view c.args.disks.now) (view c.find.new.disks) (view c.open_found.new.disks) None story story c.open_found.new.story
    (opening-untold (view c.args.disks.now) (view c.find.new.disks) None story story c.in_ok-find.ensures.counts refl)
    c.in_ok-open_found.ensures.counts

pub find-requires-clause-down : goal.find-requires-clause-down
find-requires-clause-down g c = λ told.
    let r = c.requires.down told in
    let devices = g.E.Stepping.on_devices (g.D.Disks.view c.args.disks.now) c.args.database.now in
    let flies = g.E.Stepping.flight c.args.database.now in
    (r.2.room, r.2.point, down-sound devices flies r.0 c.args.story.now r.1 r.2, down-fallen devices flies r.0 c.args.story.now r.1 r.2, r.2.again)

pub find-requires-clause-able : goal.find-requires-clause-able
find-requires-clause-able g c = c.requires.able

pub open_found-requires-clause-able : goal.open_found-requires-clause-able
open_found-requires-clause-able g c = c.find.ensures.able

pub returns-clause-able : goal.returns-clause-able
returns-clause-able g c = c.open_found.ensures.able

pub returns-in_err-find-clause-able : goal.returns-in_err-find-clause-able
returns-in_err-find-clause-able g c = c.find.ensures.able

pub returns-in_err-open_found-clause-able : goal.returns-in_err-open_found-clause-able
returns-in_err-open_found-clause-able g c = c.open_found.ensures.able

pub returns-in_err-find-clause-late : goal.returns-in_err-find-clause-late
returns-in_err-find-clause-late g c = let p = err_from_is_err_and c.from_residual.result c.from_residual.ensures.1 in rw (p.1, p.2) c.in_err-find.ensures.late

pub returns-in_err-open_found-clause-late : goal.returns-in_err-open_found-clause-late
returns-in_err-open_found-clause-late g c = let p = err_from_is_err_and c.from_residual-in_err-open_found.result c.from_residual-in_err-open_found.ensures.1 in rw (p.1, p.2) (halted_later c.in_err-open_found.field-0.0)
