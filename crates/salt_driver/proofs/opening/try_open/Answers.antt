use Rattle.salt_driver.proofs.Counted.{fewer-stops, opening-fallen, short-counts}
use Rattle.salt_driver.proofs.Falling.{breaks-short, falls-anew}
use Rattle.salt_driver.proofs.opening.try_open.Goals as goal
use Rattle.salt_driver.specs.Counting.{CountsOpening}
use Rattle.salt_driver.specs.Reopening.{BreaksOpening}
use Rattle.salt_storage.proofs.Staying.{stays-behind}
use Rattle.salt_storage.specs.Answers.{IsLater, open_disk_err_of}
use Rattle.salt_storage.specs.OpenErr.{OpenErr}
use Rattle.std.proofs.Common.{ap, rules, subst}
use Rattle.std.proofs.lemmas.Result.{err_from_is_err_and}

pub fall-requires : goal.fall-requires
fall-requires g c = c.open_once.ensures.able

pub returns-in_err-push-in-Err-Stopped-clause-err : goal.returns-in_err-push-in-Err-Stopped-clause-err
returns-in_err-push-in-Err-Stopped-clause-err g c =
    let p = err_from_is_err_and c.from_residual.result c.from_residual.ensures.1 in
    rw (p.1, p.2) (λ start trace d.
    let view = g.D.Disks.view c.open_once.new.disks in
    let e = c.open_once.new.database in
    let stop = c.in-Err-Stopped in
    breaks-short (g.E.Stepping.on_devices view e) (g.E.Stepping.flight e) stop.field-0 start trace c.args.story.now c.open_once.new.story c.push.new.self stop.field-0-is
    c.in_err-push-in-Err-Stopped.ensures.err (stop.ensures.err start trace d))

pub returns-in_ok-push-in-Err-Stopped-clause-ok : goal.returns-in_ok-push-in-Err-Stopped-clause-ok
returns-in_ok-push-in-Err-Stopped-clause-ok g c = λ start trace d.
    let stop = c.in-Err-Stopped in
    falls-anew (g.E.Stepping.on_devices (g.D.Disks.view c.open_once.new.disks) c.open_once.new.database) (g.E.Stepping.on_devices (g.D.Disks.view c.fall.new.disks) c.fall.new.self) (g.E.Stepping.flight c.open_once.new.database) (g.E.Stepping.flight c.fall.new.self)
    stop.field-0 start trace c.args.story.now c.open_once.new.story c.push.new.self stop.field-0-is c.fall.ensures.reopens c.fall.ensures.flies
    c.in_ok-push-in-Err-Stopped.ensures.ok (stop.ensures.err start trace d)

pub returns-in_ok-push-in-Err-Stopped-clause-counts : goal.returns-in_ok-push-in-Err-Stopped-clause-counts
returns-in_ok-push-in-Err-Stopped-clause-counts g c =
    let view = g.D.Disks.view in
    let stop = c.in-Err-Stopped in
    opening-fallen (view c.args.disks.now) (view c.open_once.new.disks) (view c.fall.new.disks) c.args.story.now c.open_once.new.story c.push.new.self
    (subst (λ (e : OpenErr). CountsOpening (view c.args.disks.now) (view c.open_once.new.disks) (open_disk_err_of e) c.args.story.now c.open_once.new.story) stop.field-0-is stop.ensures.counts)
    c.fall.ensures.faults c.fall.ensures.stops c.in_ok-push-in-Err-Stopped.ensures.ok

pub returns-in_ok-push-in-Err-Stopped-clause-fewer : goal.returns-in_ok-push-in-Err-Stopped-clause-fewer
returns-in_ok-push-in-Err-Stopped-clause-fewer g c = λ is.
    let view = g.D.Disks.view in
    let stop = c.in-Err-Stopped in
    fewer-stops (view c.args.disks.now) (view c.open_once.new.disks) (view c.fall.new.disks) c.args.story.now c.open_once.new.story
    (subst (λ (e : OpenErr). CountsOpening (view c.args.disks.now) (view c.open_once.new.disks) (open_disk_err_of e) c.args.story.now c.open_once.new.story) stop.field-0-is stop.ensures.counts)
    c.fall.ensures.stops

pub returns-in_ok-push-in-Err-Stopped-clause-within : goal.returns-in_ok-push-in-Err-Stopped-clause-within
returns-in_ok-push-in-Err-Stopped-clause-within g c = stays-behind c.in-Err-Stopped.ensures.within c.fall.ensures.within

pub returns-in_err-push-in-Err-Stopped-clause-counts : goal.returns-in_err-push-in-Err-Stopped-clause-counts
returns-in_err-push-in-Err-Stopped-clause-counts g c =
    let view = g.D.Disks.view in
    let stop = c.in-Err-Stopped in
    let p = err_from_is_err_and c.from_residual.result c.from_residual.ensures.1 in
    rw (p.1, p.2) (short-counts (view c.args.disks.now) (view c.open_once.new.disks) _ c.args.story.now c.open_once.new.story c.push.new.self stop.ensures.counts
    c.in_err-push-in-Err-Stopped.ensures.err (ap open_disk_err_of stop.field-0-is))

pub returns-in-Err-clause-err : goal.returns-in-Err-clause-err
returns-in-Err-clause-err g c = λ start trace d.
    let view = g.D.Disks.view c.open_once.new.disks in
    let e = c.open_once.new.database in
    subst (λ (x : OpenErr). BreaksOpening (g.E.Stepping.on_devices view e) (g.E.Stepping.flight e) x start trace c.args.story.now c.open_once.new.story)
    (search rules) (c.in-Err.ensures.err start trace d)

pub returns-in_err-push-in-Err-Stopped-clause-late : goal.returns-in_err-push-in-Err-Stopped-clause-late
returns-in_err-push-in-Err-Stopped-clause-late g c = let p = err_from_is_err_and c.from_residual.result c.from_residual.ensures.1 in rw (p.1, p.2) tt

pub returns-in-Err-clause-late : goal.returns-in-Err-clause-late
returns-in-Err-clause-late g c = subst IsLater (search rules) c.in-Err.ensures.late
