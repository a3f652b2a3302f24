use Rattle.salt_model.specs.declared.events.Event.TheVariants.{Opened}
use Rattle.salt_driver.proofs.Counted.{opening-join, opening-said, opening-untold}
use Rattle.salt_driver.proofs.Openings.{behind-opened, down-fallen, down-sound, opened-sound, opening-breaks, opening-ends, opening-fails}
use Rattle.salt_driver.proofs.Untold.{told-then}
use Rattle.salt_driver.proofs.opening.open_found.Goals as goal
use Rattle.salt_storage.proofs.Staying.{stays-behind}
use Rattle.std.proofs.Common.{ap, refl}
use Rattle.std.proofs.lemmas.Result.{IfErr-weaker, err_from_is_err_and, on_ok_weaker}
use Rattle.std.specs.Prelude.{Err, None}

pub open-requires-clause-down : goal.open-requires-clause-down
open-requires-clause-down g c = λ told.
    let view = g.D.Disks.view in
    let r = c.requires.down told in
    let d = r.2 in
    let start = r.0 in
    let trace = r.1 in
    let devices = g.E.Stepping.on_devices (view c.args.disks.now) c.args.database.now in
    let flies = g.E.Stepping.flight c.args.database.now in
    (d.room, d.point, down-sound devices flies start c.args.story.now trace d, down-fallen devices flies start c.args.story.now trace d, d.again)

pub finish_opening-requires-clause-stands : goal.finish_opening-requires-clause-stands
finish_opening-requires-clause-stands g c = λ told.
    let r = c.requires.down (told-then c.in_ok-first.ensures.within.shape told) in
    let d = r.2 in
    let start = r.0 in
    let trace = r.1 in
    let story = c.args.story.now in
    let devices = g.E.Stepping.on_devices (g.D.Disks.view c.args.disks.now) c.args.database.now in
    let flies = g.E.Stepping.flight c.args.database.now in
    let o = c.in_ok-first.ensures.opens d.room d.point (down-sound devices flies start story trace d) (down-fallen devices flies start story trace d) d.again in
    (o.has.point, opened-sound devices flies start story trace d o.has, o.stands)

pub returns-clause-ok : goal.returns-clause-ok
returns-clause-ok g c = on_ok_weaker c.finish_opening.result (λ ends start trace d.
    let view = g.D.Disks.view in
    let story = c.args.story.now in
    let devices = g.E.Stepping.on_devices (view c.args.disks.now) c.args.database.now in
    let flies = g.E.Stepping.flight c.args.database.now in
    let stands_for = g.E.Stepping.stands_for (view c.finish_opening.new.disks) in
    let o = c.in_ok-first.ensures.opens d.room d.point (down-sound devices flies start story trace d) (down-fallen devices flies start story trace d) d.again in
    opening-ends devices flies start story trace d stands_for o.has c.finish_opening.new.database c.finish_opening.new.story
    (behind-opened devices flies start story trace d stands_for o.has c.finish_opening.new.database c.open.new.story c.finish_opening.new.story o.tells
    (ends o.has.point (opened-sound devices flies start story trace d o.has) o.stands))) c.finish_opening.ensures.ok

pub returns-clause-err : goal.returns-clause-err
returns-clause-err g c = IfErr-weaker c.finish_opening.result _ _ (λ halt breaks start trace d.
    let view = g.D.Disks.view in
    let story = c.args.story.now in
    let devices = g.E.Stepping.on_devices (view c.args.disks.now) c.args.database.now in
    let flies = g.E.Stepping.flight c.args.database.now in
    let o = c.in_ok-first.ensures.opens d.room d.point (down-sound devices flies start story trace d) (down-fallen devices flies start story trace d) d.again in
    opening-breaks devices flies start story trace d _ _ halt o.has c.open.new.story c.finish_opening.new.story o.tells
    (breaks o.has.point (opened-sound devices flies start story trace d o.has) o.stands)) c.finish_opening.ensures.err

pub returns-clause-within : goal.returns-clause-within
returns-clause-within g c = stays-behind c.in_ok-first.ensures.within c.finish_opening.ensures.within

pub returns-clause-counts : goal.returns-clause-counts
returns-clause-counts g c =
    let view = g.D.Disks.view in
    let story = c.args.story.now in
    let o = c.in_ok-first.ensures.tells in
    opening-join (view c.args.disks.now) (view c.open.new.disks) (view c.finish_opening.new.disks) _ story c.open.new.story c.finish_opening.new.story
    (opening-said (view c.args.disks.now) (view c.open.new.disks) None story c.open.new.story (Opened o.0 o.1) c.in_ok-first.ensures.counts refl refl refl o.2)
    c.finish_opening.ensures.counts

pub returns-in_err-first-clause-err : goal.returns-in_err-first-clause-err
returns-in_err-first-clause-err g c =
    let p = err_from_is_err_and c.from_residual.result c.from_residual.ensures.1 in
    rw (p.1, p.2) (λ start trace d.
    let view = g.D.Disks.view in
    let devices = g.E.Stepping.on_devices (view c.args.disks.now) c.args.database.now in
    let flies = g.E.Stepping.flight c.args.database.now in
    let story = c.args.story.now in
    opening-fails devices flies start story trace d _ _ _ c.open.new.story c.in_err-first.ensures.untold c.in_err-first.ensures.flies
    (λ dev is. c.in_err-first.ensures.full dev (ap Err is))
    (λ some. c.in_err-first.ensures.reopens some d.room d.point (down-sound devices flies start story trace d) (down-fallen devices flies start story trace d) d.again)
    (c.in_err-first.ensures.stands d.room d.point (down-sound devices flies start story trace d) (down-fallen devices flies start story trace d) d.again))

pub returns-in_err-first-clause-counts : goal.returns-in_err-first-clause-counts
returns-in_err-first-clause-counts g c =
    let view = g.D.Disks.view in
    let story = c.args.story.now in
    let p = err_from_is_err_and c.from_residual.result c.from_residual.ensures.1 in
    rw (p.1, p.2) (opening-untold (view c.args.disks.now) (view c.open.new.disks) _ story c.open.new.story c.in_err-first.ensures.counts c.in_err-first.ensures.untold)

pub open-requires-clause-able : goal.open-requires-clause-able
open-requires-clause-able g c = c.requires.able

pub finish_opening-requires-clause-able : goal.finish_opening-requires-clause-able
finish_opening-requires-clause-able g c = c.open.ensures.able

pub finish_opening-requires-clause-plain : goal.finish_opening-requires-clause-plain
finish_opening-requires-clause-plain g c = c.in_ok-first.ensures.plain

pub returns-clause-able : goal.returns-clause-able
returns-clause-able g c = c.finish_opening.ensures.able

pub returns-in_err-first-clause-able : goal.returns-in_err-first-clause-able
returns-in_err-first-clause-able g c = c.open.ensures.able
