use Rattle.salt_driver.proofs.Untold.{told-then}
use Rattle.salt_loop.proofs.Counts.{halt-counted, line-counted}
use Rattle.salt_loop.proofs.Continuing.{continues-behind, ends-behind, err-resumed, ok-resumed}
use Rattle.salt_loop.proofs.lines.do_line.Goals as goal
use Rattle.salt_loop.specs.Stopping.{outcome}
use Rattle.salt_storage.proofs.Staying.{stays-behind}

pub returns-in-Ok-clause-counts : goal.returns-in-Ok-clause-counts
returns-in-Ok-clause-counts g c = line-counted c.in-Ok.ensures.counts.0 (g.D.Disks.view c.args.disks.now) (g.D.Disks.view c.ask_line.new.disks) c.args.story.now c.ask_line.new.story c.in-Ok.ensures.counts.1

pub resume-requires-clause-halted : goal.resume-requires-clause-halted
resume-requires-clause-halted g c = λ told.
    let s = c.requires.stands (told-then c.ask_line.ensures.within.shape told) in
    let b = c.in-Err.ensures.err s.0 s.1 s.2 in
    (s.0, b.after, b.halts)

pub returns-in-Err-clause-ok : goal.returns-in-Err-clause-ok
returns-in-Err-clause-ok g c =
    let view = g.D.Disks.view in
    ok-resumed c.in-Err.halt (view c.ask_line.new.disks) (view c.resume.new.disks) c.ask_line.new.story c.resume.new.story c.resume.result
    (λ reopens some counts start trace s.
    let b = c.in-Err.ensures.err start trace s in
    continues-behind _ _ c.in-Err.halt start trace _ _ _ _ (view c.args.disks.now) (view c.ask_line.new.disks) (view c.resume.new.disks) b _ some counts (reopens start b.after b.halts))
    c.resume.ensures.ok c.resume.ensures.memory c.resume.ensures.counts

pub returns-in-Err-clause-err : goal.returns-in-Err-clause-err
returns-in-Err-clause-err g c =
    let view = g.D.Disks.view in
    err-resumed c.in-Err.halt (view c.ask_line.new.disks) (view c.resume.new.disks) c.ask_line.new.story c.resume.new.story c.resume.result _ _
    (λ stop ends later counts start trace s.
    let b = c.in-Err.ensures.err start trace s in
    ends-behind _ _ c.in-Err.halt start trace _ _ _ _ (view c.args.disks.now) (view c.ask_line.new.disks) (view c.resume.new.disks) b _ _ stop counts (ends start b.after b.halts))
    c.resume.ensures.err c.resume.ensures.later c.resume.ensures.counts

pub returns-in-Err-clause-within : goal.returns-in-Err-clause-within
returns-in-Err-clause-within g c = stays-behind c.ask_line.ensures.within c.resume.ensures.within

pub returns-in-Err-clause-counts : goal.returns-in-Err-clause-counts
returns-in-Err-clause-counts g c =
    let view = g.D.Disks.view in
    halt-counted c.in-Err.ensures.counts.0 (view c.args.disks.now) (view c.ask_line.new.disks) (view c.resume.new.disks) (outcome c.resume.result) c.args.story.now c.ask_line.new.story c.resume.new.story c.in-Err.halt
    c.in-Err.ensures.counts.1 c.resume.ensures.counts

pub ask_line-requires-clause-able : goal.ask_line-requires-clause-able
ask_line-requires-clause-able g c = c.requires.able

pub resume-requires-clause-able : goal.resume-requires-clause-able
resume-requires-clause-able g c = c.ask_line.ensures.able

pub returns-in-Ok-clause-able : goal.returns-in-Ok-clause-able
returns-in-Ok-clause-able g c = c.ask_line.ensures.able

pub returns-in-Err-clause-able : goal.returns-in-Err-clause-able
returns-in-Err-clause-able g c = c.resume.ensures.able
