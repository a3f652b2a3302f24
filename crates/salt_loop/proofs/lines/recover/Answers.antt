use Rattle.salt_storage.specs.OpenErr.TheVariants as opening
use Rattle.salt_loop.proofs.Leaving.{answers-opening, ends-opening, later-stop}
use Rattle.salt_loop.proofs.lines.recover.Goals as goal
use Rattle.salt_driver.proofs.Falling.{no-short-fall}
use Rattle.salt_driver.specs.Counting.{CountsFall}
use Rattle.salt_driver.specs.Opening.{halt_of}
use Rattle.salt_loop.specs.Serving.{EndsResuming}
use Rattle.salt_loop.specs.Stopping.{IsLaterStop, answer_of, status_of}
use Rattle.salt_loop.specs.declared.stop.Stop.{Stop}
use Rattle.salt_disk.specs.declared.disks.DiskErr.{DiskErr}
use Rattle.std.proofs.Common.{ap, subst, sym, ◌∙◌}
use Rattle.std.specs.Prelude.{Err, Option, ◌≡◌}

pub stop_opening-requires : goal.stop_opening-requires
stop_opening-requires g c = λ is. c.recover.ensures.unstopped (c.in-Err.is ∙ ap Err is)

pub returns-in-Err-clause-err : goal.returns-in-Err-clause-err
returns-in-Err-clause-err g c = λ start trace h.
    let view = g.D.Disks.view c.recover.new.disks in
    let e = c.recover.new.database in
    let devices = g.E.Stepping.on_devices view e in
    let flies = g.E.Stepping.flight e in
    subst (λ (s : Stop). EndsResuming devices flies (halt_of c.args.why) s start trace c.args.story.now c.recover.new.story) (sym c.stop_opening.ensures.is)
    (ends-opening devices flies c.in-Err.e start trace c.args.story.now c.recover.new.story (c.in-Err.ensures.err start trace h) (halt_of c.args.why) (no-short-fall c.args.why))

pub returns-in-Err-clause-later : goal.returns-in-Err-clause-later
returns-in-Err-clause-later g c = subst IsLaterStop (sym c.stop_opening.ensures.is) (later-stop c.in-Err.e c.in-Err.ensures.late)

pub returns-in-Err-clause-counts : goal.returns-in-Err-clause-counts
returns-in-Err-clause-counts g c =
    let view = g.D.Disks.view in
    let never : c.in-Err.e ≡ opening.Stopped → ⊥ = λ is. c.recover.ensures.unstopped (c.in-Err.is ∙ ap Err is) in
    subst (λ (a : Option DiskErr). CountsFall c.args.why (view c.args.disks.now) (view c.recover.new.disks) a c.args.story.now c.recover.new.story)
    (answers-opening c.in-Err.e never ∙ sym (ap (λ (s : Stop). answer_of (status_of s)) c.stop_opening.ensures.is)) c.in-Err.ensures.counts

pub recover-requires-clause-able : goal.recover-requires-clause-able
recover-requires-clause-able g c = c.requires.able

pub returns-in-Ok-clause-able : goal.returns-in-Ok-clause-able
returns-in-Ok-clause-able g c = c.recover.ensures.able

pub returns-in-Err-clause-able : goal.returns-in-Err-clause-able
returns-in-Err-clause-able g c = c.recover.ensures.able
