use Rattle.salt_loop.proofs.Counts.{nothing-counted}
use Rattle.salt_loop.proofs.Leaving.{halts-full, halts-short}
use Rattle.salt_loop.proofs.Continuing.{halted-else}
use Rattle.salt_loop.proofs.lines.resume.Goals as goal
use Rattle.salt_loop.specs.Counted.{CountsResumed}
use Rattle.salt_loop.specs.Serving.{EndsResuming}
use Rattle.salt_loop.specs.Stopping.{outcome, status_of}
use Rattle.salt_loop.specs.declared.stop.Stop.TheVariants as stop
use Rattle.salt_driver.specs.Serving.{HaltsRun}
use Rattle.salt_storage.specs.declared.halt.Halt.TheVariants as halt
use Rattle.salt_storage.specs.declared.halt.Halt.{Halt}
use Rattle.std.proofs.Common.{subst, sym}
use Rattle.std.proofs.lemmas.Result.{IfErr-weaker, on_ok_weaker}
use Rattle.std.specs.Prelude.{refl}

pub recover-requires-clause-halted : goal.recover-requires-clause-halted
recover-requires-clause-halted g c = λ told.
    let view = g.D.Disks.view c.args.disks.now in
    let e = c.args.database.now in
    let h = c.requires.halted told in
    (h.0, h.1, subst (λ (x : Halt). HaltsRun (g.E.Stepping.on_devices view e) (g.E.Stepping.flight e) x h.0 c.args.story.now h.1) c.in-Stopped.is h.2)

pub recover-requires-in-DiskFault-clause-halted : goal.recover-requires-in-DiskFault-clause-halted
recover-requires-in-DiskFault-clause-halted g c = λ told.
    let view = g.D.Disks.view c.args.disks.now in
    let e = c.args.database.now in
    let h = c.requires.halted told in
    (h.0, h.1, subst (λ (x : Halt). HaltsRun (g.E.Stepping.on_devices view e) (g.E.Stepping.flight e) x h.0 c.args.story.now h.1) c.in-DiskFault.is h.2)

pub returns-in-Stopped-clause-ok : goal.returns-in-Stopped-clause-ok
returns-in-Stopped-clause-ok g c = on_ok_weaker c.recover.result (λ done start trace h.
    let view = g.D.Disks.view c.args.disks.now in
    let e = c.args.database.now in
    done start trace
    (subst (λ (x : Halt). HaltsRun (g.E.Stepping.on_devices view e) (g.E.Stepping.flight e) x start c.args.story.now trace) c.in-Stopped.is h)) c.recover.ensures.ok

pub returns-in-Stopped-clause-err : goal.returns-in-Stopped-clause-err
returns-in-Stopped-clause-err g c = IfErr-weaker c.recover.result _ _ (λ stop ends start trace h.
    let view = g.D.Disks.view c.args.disks.now in
    let e = c.args.database.now in
    let now = g.D.Disks.view c.recover.new.disks in
    let new = c.recover.new.database in
    subst (λ (x : Halt). EndsResuming (g.E.Stepping.on_devices now new) (g.E.Stepping.flight new) x stop start trace c.args.story.now c.recover.new.story) (sym c.in-Stopped.is)
    (ends start trace
    (subst (λ (x : Halt). HaltsRun (g.E.Stepping.on_devices view e) (g.E.Stepping.flight e) x start c.args.story.now trace) c.in-Stopped.is h))) c.recover.ensures.err

pub returns-in-Stopped-clause-memory : goal.returns-in-Stopped-clause-memory
returns-in-Stopped-clause-memory g c = λ m. absurd (halted-else halt.Stopped (λ e. cc) c.args.halt c.in-Stopped.is m)

pub returns-in-Stopped-clause-counts : goal.returns-in-Stopped-clause-counts
returns-in-Stopped-clause-counts g c =
    let view = g.D.Disks.view in
    subst (λ (x : Halt). CountsResumed x (view c.args.disks.now) (view c.recover.new.disks) (outcome c.recover.result) c.args.story.now c.recover.new.story) (sym c.in-Stopped.is) c.recover.ensures.counts

pub returns-in-DiskFault-clause-ok : goal.returns-in-DiskFault-clause-ok
returns-in-DiskFault-clause-ok g c = on_ok_weaker c.recover-in-DiskFault.result (λ done start trace h.
    let view = g.D.Disks.view c.args.disks.now in
    let e = c.args.database.now in
    done start trace
    (subst (λ (x : Halt). HaltsRun (g.E.Stepping.on_devices view e) (g.E.Stepping.flight e) x start c.args.story.now trace) c.in-DiskFault.is h)) c.recover-in-DiskFault.ensures.ok

pub returns-in-DiskFault-clause-err : goal.returns-in-DiskFault-clause-err
returns-in-DiskFault-clause-err g c = IfErr-weaker c.recover-in-DiskFault.result _ _ (λ stop ends start trace h.
    let view = g.D.Disks.view c.args.disks.now in
    let e = c.args.database.now in
    let now = g.D.Disks.view c.recover-in-DiskFault.new.disks in
    let new = c.recover-in-DiskFault.new.database in
    subst (λ (x : Halt). EndsResuming (g.E.Stepping.on_devices now new) (g.E.Stepping.flight new) x stop start trace c.args.story.now c.recover-in-DiskFault.new.story) (sym c.in-DiskFault.is)
    (ends start trace
    (subst (λ (x : Halt). HaltsRun (g.E.Stepping.on_devices view e) (g.E.Stepping.flight e) x start c.args.story.now trace) c.in-DiskFault.is h))) c.recover-in-DiskFault.ensures.err

pub returns-in-DiskFault-clause-memory : goal.returns-in-DiskFault-clause-memory
returns-in-DiskFault-clause-memory g c = λ m. absurd (halted-else halt.DiskFault (λ e. cc) c.args.halt c.in-DiskFault.is m)

pub returns-in-DiskFault-clause-counts : goal.returns-in-DiskFault-clause-counts
returns-in-DiskFault-clause-counts g c =
    let view = g.D.Disks.view in
    subst (λ (x : Halt). CountsResumed x (view c.args.disks.now) (view c.recover-in-DiskFault.new.disks) (outcome c.recover-in-DiskFault.result) c.args.story.now c.recover-in-DiskFault.new.story) (sym c.in-DiskFault.is) c.recover-in-DiskFault.ensures.counts

pub returns-in-DeviceFull-clause-err : goal.returns-in-DeviceFull-clause-err
returns-in-DeviceFull-clause-err g c = λ start trace h.
    let view = g.D.Disks.view c.args.disks.now in
    let e = c.args.database.now in
    subst (λ (x : Halt). EndsResuming (g.E.Stepping.on_devices view e) (g.E.Stepping.flight e) x (stop.DeviceFull c.in-DeviceFull.dev) start trace c.args.story.now c.args.story.now) (sym c.in-DeviceFull.is)
    (halts-full (g.E.Stepping.on_devices view e) (g.E.Stepping.flight e) start trace c.args.story.now c.in-DeviceFull.dev
    (subst (λ (x : Halt). HaltsRun (g.E.Stepping.on_devices view e) (g.E.Stepping.flight e) x start c.args.story.now trace) c.in-DeviceFull.is h))

pub returns-in-DeviceFull-clause-counts : goal.returns-in-DeviceFull-clause-counts
returns-in-DeviceFull-clause-counts g c =
    let v = g.D.Disks.view c.args.disks.now in
    subst (λ (x : Halt). CountsResumed x v v (status_of (stop.DeviceFull c.in-DeviceFull.dev)) c.args.story.now c.args.story.now) (sym c.in-DeviceFull.is) (refl, nothing-counted v c.args.story.now)

pub returns-in-Memory-clause-err : goal.returns-in-Memory-clause-err
returns-in-Memory-clause-err g c = λ start trace h.
    let view = g.D.Disks.view c.args.disks.now in
    let e = c.args.database.now in
    subst (λ (x : Halt). EndsResuming (g.E.Stepping.on_devices view e) (g.E.Stepping.flight e) x stop.Memory start trace c.args.story.now c.args.story.now) (sym c.in-Memory.is)
    (halts-short (g.E.Stepping.on_devices view e) (g.E.Stepping.flight e) start trace c.args.story.now
    (subst (λ (x : Halt). HaltsRun (g.E.Stepping.on_devices view e) (g.E.Stepping.flight e) x start c.args.story.now trace) c.in-Memory.is h))

pub returns-in-Memory-clause-counts : goal.returns-in-Memory-clause-counts
returns-in-Memory-clause-counts g c =
    let v = g.D.Disks.view c.args.disks.now in
    subst (λ (x : Halt). CountsResumed x v v (status_of stop.Memory) c.args.story.now c.args.story.now) (sym c.in-Memory.is) (refl, nothing-counted v c.args.story.now)

pub recover-requires-clause-able : goal.recover-requires-clause-able
recover-requires-clause-able g c = c.requires.able

pub recover-requires-in-DiskFault-clause-able : goal.recover-requires-in-DiskFault-clause-able
recover-requires-in-DiskFault-clause-able g c = c.requires.able

pub returns-in-Stopped-clause-able : goal.returns-in-Stopped-clause-able
returns-in-Stopped-clause-able g c = c.recover.ensures.able

pub returns-in-DiskFault-clause-able : goal.returns-in-DiskFault-clause-able
returns-in-DiskFault-clause-able g c = c.recover-in-DiskFault.ensures.able

pub returns-in-DeviceFull-clause-able : goal.returns-in-DeviceFull-clause-able
returns-in-DeviceFull-clause-able g c = c.requires.able

pub returns-in-Memory-clause-able : goal.returns-in-Memory-clause-able
returns-in-Memory-clause-able g c = c.requires.able
