use Rattle.salt_driver.proofs.Counted.{fall-counts, fall-short}
use Rattle.salt_driver.proofs.Falling.{breaks-behind, falls-served, halted-short, reopens-behind}
use Rattle.salt_driver.proofs.Untold.{told-then}
use Rattle.salt_driver.proofs.opening.recover.Goals as goal
use Rattle.salt_driver.specs.Counting.{CountsFall}
use Rattle.salt_model.specs.declared.events.Event.{Event}
use Rattle.salt_storage.proofs.Staying.{stays-behind, stays-same}
use Rattle.std.proofs.Common.{subst, sym}
use Rattle.std.proofs.lemmas.Result.{IfErr-weaker, err_from_is_err_and, on_ok_weaker}
use Rattle.std.specs.Prelude.{List}

pub returns-in_err-push-clause-err : goal.returns-in_err-push-clause-err
returns-in_err-push-clause-err g c =
    let p = err_from_is_err_and c.from_residual.result c.from_residual.ensures.1 in
    rw (p.1, p.2) (λ start trace h.
    halted-short (g.E.Stepping.on_devices (g.D.Disks.view c.args.disks.now) c.args.database.now) (g.E.Stepping.flight c.args.database.now) c.args.why start trace c.args.story.now c.push.new.self
    c.in_err-push.ensures.err h)

pub returns-in_err-push-clause-counts : goal.returns-in_err-push-clause-counts
returns-in_err-push-clause-counts g c =
    let p = err_from_is_err_and c.from_residual.result c.from_residual.ensures.1 in
    let v = g.D.Disks.view c.args.disks.now in
    rw (p.1, p.2) (subst (λ (told : List Event). CountsFall c.args.why v v _ c.args.story.now told) (sym c.in_err-push.ensures.err) (fall-short c.args.why v c.args.story.now))

pub fall-requires : goal.fall-requires
fall-requires g c = c.requires.able

pub open-requires-clause-down : goal.open-requires-clause-down
open-requires-clause-down g c = λ told.
    let view = g.D.Disks.view in
    let h = c.requires.halted (told-then c.fall.ensures.within.shape told) in
    let f =
    falls-served (g.E.Stepping.on_devices (view c.args.disks.now) c.args.database.now) (g.E.Stepping.flight c.args.database.now) c.args.why h.0 h.1 c.args.story.now h.2
    (g.E.Stepping.on_devices (view c.fall.new.disks) c.fall.new.self) (g.E.Stepping.flight c.fall.new.self) c.push.new.self (c.fall.ensures.reopens 0) c.fall.ensures.flies c.in_ok-push.ensures.ok in
    (h.0, f.after, f.down)

pub returns-clause-ok : goal.returns-clause-ok
returns-clause-ok g c = on_ok_weaker c.open.result (λ done start trace h.
    let view = g.D.Disks.view in
    let devices = g.E.Stepping.on_devices (view c.fall.new.disks) c.fall.new.self in
    let flies = g.E.Stepping.flight c.fall.new.self in
    let f =
    falls-served (g.E.Stepping.on_devices (view c.args.disks.now) c.args.database.now) (g.E.Stepping.flight c.args.database.now) c.args.why start trace c.args.story.now h
    devices flies c.push.new.self (c.fall.ensures.reopens 0) c.fall.ensures.flies c.in_ok-push.ensures.ok in
    reopens-behind devices devices flies flies start trace c.args.story.now c.push.new.self c.open.new.story f (g.E.Stepping.stands_for (view c.open.new.disks)) c.open.new.database (done start f.after f.down)) c.open.ensures.ok

pub returns-clause-err : goal.returns-clause-err
returns-clause-err g c = IfErr-weaker c.open.result _ _ (λ e broken start trace h.
    let view = g.D.Disks.view in
    let devices = g.E.Stepping.on_devices (view c.fall.new.disks) c.fall.new.self in
    let flies = g.E.Stepping.flight c.fall.new.self in
    let f =
    falls-served (g.E.Stepping.on_devices (view c.args.disks.now) c.args.database.now) (g.E.Stepping.flight c.args.database.now) c.args.why start trace c.args.story.now h
    devices flies c.push.new.self (c.fall.ensures.reopens 0) c.fall.ensures.flies c.in_ok-push.ensures.ok in
    breaks-behind devices (g.E.Stepping.on_devices (view c.open.new.disks) c.open.new.database) flies (g.E.Stepping.flight c.open.new.database) start trace c.args.story.now c.push.new.self c.open.new.story f e
    (broken start f.after f.down)) c.open.ensures.err

pub returns-clause-counts : goal.returns-clause-counts
returns-clause-counts g c =
    let view = g.D.Disks.view in
    fall-counts c.args.why (view c.args.disks.now) (view c.fall.new.disks) (view c.open.new.disks) _ c.args.story.now c.push.new.self c.open.new.story c.fall.ensures.faults c.fall.ensures.stops
    c.in_ok-push.ensures.ok c.open.ensures.counts

pub returns-clause-within : goal.returns-clause-within
returns-clause-within g c = stays-behind c.fall.ensures.within c.open.ensures.within

pub returns-in_err-push-clause-within : goal.returns-in_err-push-clause-within
returns-in_err-push-clause-within g c = stays-same (g.E.Stepping.asked c.args.database.now) (g.D.Disks.view c.args.disks.now)

pub open-requires-clause-able : goal.open-requires-clause-able
open-requires-clause-able g c = c.fall.ensures.able

pub returns-clause-able : goal.returns-clause-able
returns-clause-able g c = c.open.ensures.able

pub returns-in_err-push-clause-able : goal.returns-in_err-push-clause-able
returns-in_err-push-clause-able g c = c.requires.able

pub returns-clause-late : goal.returns-clause-late
returns-clause-late g c = c.open.ensures.late

pub returns-in_err-push-clause-late : goal.returns-in_err-push-clause-late
returns-in_err-push-clause-late g c = let p = err_from_is_err_and c.from_residual.result c.from_residual.ensures.1 in rw (p.1, p.2) tt
