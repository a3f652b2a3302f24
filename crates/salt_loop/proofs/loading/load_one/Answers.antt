use Rattle.salt_driver.proofs.Untold.{told-then}
use Rattle.salt_loop.proofs.Counts.{halt-counted, line-counted}
use Rattle.salt_loop.proofs.Armed.{ends-resumed, line-halts, line-stays, stays-resumed}
use Rattle.salt_loop.proofs.Continuing.{err-resumed, ok-resumed}
use Rattle.salt_loop.proofs.LoadSpelled.{account-spelled, transfer-spelled}
use Rattle.salt_loop.proofs.Loads.{asked-by-load, ends-loading, line-loaded, loaded-behind}
use Rattle.salt_loop.proofs.loading.load_one.Goals as goal
use Rattle.salt_loop.specs.Stopping.{outcome, status_of}
use Rattle.salt_storage.specs.Answers.{disk_err_of}
use Rattle.salt_storage.proofs.Staying.{stays-behind}

pub step-requires-clause-served : goal.step-requires-clause-served
step-requires-clause-served g c =
    let read = c.definitions_are_read.ensures in
    c.requires.serves c.args.line.now (asked-by-load (account-spelled read) (transfer-spelled read) c.args.calls c.args.i c.args.line.now c.requires.is).0

pub step-requires-clause-key : goal.step-requires-clause-key
step-requires-clause-key g c =
    let read = c.definitions_are_read.ensures in
    (asked-by-load (account-spelled read) (transfer-spelled read) c.args.calls c.args.i c.args.line.now c.requires.is).1

pub step-requires-clause-stands : goal.step-requires-clause-stands
step-requires-clause-stands g c = λ told. let s = c.requires.stands told in (s.0, s.2.trace, s.2.serves)

pub returns-in-Ok-clause-ok : goal.returns-in-Ok-clause-ok
returns-in-Ok-clause-ok g c = λ start first loading.
    let old = g.D.Disks.view c.args.disks.now in
    let now = g.D.Disks.view c.step.new.disks in
    let goes = c.in-Ok.ensures.segment start loading.trace loading.serves in
    line-loaded (g.E.Stepping.stands_for old) start c.args.calls c.args.i c.args.database.now c.args.story.now first old.armed loading c.args.line.now c.requires.within c.requires.is (g.E.Stepping.stands_for now) c.step.new.engine
    c.step.new.story now.armed goes
    (line-stays c.args.line.now old now c.args.story.now c.step.new.story loading.trace goes.after goes.grows goes.armed c.in-Ok.ensures.counts)

pub returns-in-Ok-clause-counts : goal.returns-in-Ok-clause-counts
returns-in-Ok-clause-counts g c = line-counted c.args.line.now (g.D.Disks.view c.args.disks.now) (g.D.Disks.view c.step.new.disks) c.args.story.now c.step.new.story c.in-Ok.ensures.counts

pub resume-requires-clause-halted : goal.resume-requires-clause-halted
resume-requires-clause-halted g c = λ told.
    let s = c.requires.stands (told-then c.step.ensures.within.shape told) in
    let b = c.in-Err.ensures.broken_off s.0 s.2.trace s.2.serves in
    (s.0, b.after, b.halts)

pub returns-in-Err-clause-ok : goal.returns-in-Err-clause-ok
returns-in-Err-clause-ok g c =
    let old = g.D.Disks.view c.args.disks.now in
    let mid = g.D.Disks.view c.step.new.disks in
    let now = g.D.Disks.view c.resume.new.disks in
    ok-resumed c.in-Err.halt mid now c.step.new.story c.resume.new.story c.resume.result (λ reopens some counts start first loading.
    let b = c.in-Err.ensures.broken_off start loading.trace loading.serves in
    let r = reopens start b.after b.halts in
    loaded-behind (g.E.Stepping.stands_for old) start c.args.calls c.args.i c.args.database.now c.args.story.now first old.armed loading c.args.line.now c.requires.within c.requires.is _ _ c.in-Err.halt c.step.new.story
    c.resume.new.story b now.armed (g.E.Stepping.stands_for now) c.resume.new.database some r
    (stays-resumed loading.trace b.after c.step.new.story c.resume.new.story old mid now r.after r.grows r.along.armed c.in-Err.halt
    (line-halts c.args.line.now old mid c.args.story.now c.step.new.story loading.trace b.after b.grows b.armed (disk_err_of c.in-Err.halt) c.in-Err.ensures.counts) counts))
    c.resume.ensures.ok c.resume.ensures.memory c.resume.ensures.counts

pub returns-in-Err-clause-err : goal.returns-in-Err-clause-err
returns-in-Err-clause-err g c =
    let old = g.D.Disks.view c.args.disks.now in
    let mid = g.D.Disks.view c.step.new.disks in
    let now = g.D.Disks.view c.resume.new.disks in
    err-resumed c.in-Err.halt mid now c.step.new.story c.resume.new.story c.resume.result _ _ (λ stop ends later counts start first loading.
    let b = c.in-Err.ensures.broken_off start loading.trace loading.serves in
    let x = ends start b.after b.halts in
    ends-loading (g.E.Stepping.stands_for old) start c.args.calls c.args.i c.args.database.now c.args.story.now first old.armed loading c.args.line.now c.requires.within c.requires.is _ _ c.in-Err.halt c.step.new.story
    c.resume.new.story b now.armed _ _ stop later x
    (ends-resumed loading.trace b.after c.step.new.story c.resume.new.story old mid now x.after x.grows x.along.armed c.in-Err.halt
    (line-halts c.args.line.now old mid c.args.story.now c.step.new.story loading.trace b.after b.grows b.armed (disk_err_of c.in-Err.halt) c.in-Err.ensures.counts) (status_of stop) counts))
    c.resume.ensures.err c.resume.ensures.later c.resume.ensures.counts

pub returns-in-Err-clause-within : goal.returns-in-Err-clause-within
returns-in-Err-clause-within g c = stays-behind c.step.ensures.within c.resume.ensures.within

pub returns-in-Err-clause-counts : goal.returns-in-Err-clause-counts
returns-in-Err-clause-counts g c =
    let view = g.D.Disks.view in
    halt-counted c.args.line.now (view c.args.disks.now) (view c.step.new.disks) (view c.resume.new.disks) (outcome c.resume.result) c.args.story.now c.step.new.story c.resume.new.story c.in-Err.halt
    c.in-Err.ensures.counts c.resume.ensures.counts

pub step-requires-clause-able : goal.step-requires-clause-able
step-requires-clause-able g c = c.requires.able

pub resume-requires-clause-able : goal.resume-requires-clause-able
resume-requires-clause-able g c = c.step.ensures.able

pub returns-in-Ok-clause-able : goal.returns-in-Ok-clause-able
returns-in-Ok-clause-able g c = c.step.ensures.able

pub returns-in-Err-clause-able : goal.returns-in-Err-clause-able
returns-in-Err-clause-able g c = c.resume.ensures.able
