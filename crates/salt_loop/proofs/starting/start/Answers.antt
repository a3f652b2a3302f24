use Rattle.salt_storage.specs.OpenErr.TheVariants as opening
use Rattle.salt_disk.specs.declared.disks.DiskErr.{DiskErr}
use Rattle.salt_loop.proofs.Leaving.{answers-opening, ends-early, later-stop}
use Rattle.salt_loop.proofs.starting.start.Goals as goal
use Rattle.salt_loop.specs.Ending.{EndsOpening}
use Rattle.salt_loop.specs.Stopping.{IsLaterStop, answer_of, status_of}
use Rattle.salt_loop.specs.declared.stop.Stop.{Stop}
use Rattle.salt_driver.specs.Counting.{CountsOpening}
use Rattle.std.proofs.Common.{ap, subst, sym, ◌∙◌}
use Rattle.std.specs.Prelude.{Err, Option, ◌≡◌}

pub stop_opening-requires : goal.stop_opening-requires
stop_opening-requires g c = λ is. c.open.ensures.unstopped (c.in-Err.is ∙ ap Err is)

pub returns-in-Err-clause-err : goal.returns-in-Err-clause-err
returns-in-Err-clause-err g c = λ start trace down.
    let view = g.D.Disks.view c.open.new.disks in
    let e = c.open.new.database in
    let devices = g.E.Stepping.on_devices view e in
    let flies = g.E.Stepping.flight e in
    subst (λ (s : Stop). EndsOpening devices flies s start trace c.args.story.now c.open.new.story) (sym c.stop_opening.ensures.is)
    (ends-early devices flies c.in-Err.e start trace c.args.story.now c.open.new.story (c.in-Err.ensures.err start trace down))

pub returns-in-Err-clause-later : goal.returns-in-Err-clause-later
returns-in-Err-clause-later g c = subst IsLaterStop (sym c.stop_opening.ensures.is) (later-stop c.in-Err.e c.in-Err.ensures.late)

pub returns-in-Err-clause-counts : goal.returns-in-Err-clause-counts
returns-in-Err-clause-counts g c =
    let view = g.D.Disks.view in
    let never : c.in-Err.e ≡ opening.Stopped → ⊥ = λ is. c.open.ensures.unstopped (c.in-Err.is ∙ ap Err is) in
    subst (λ (a : Option DiskErr). CountsOpening (view c.args.disks.now) (view c.open.new.disks) a c.args.story.now c.open.new.story)
    (answers-opening c.in-Err.e never ∙ sym (ap (λ (s : Stop). answer_of (status_of s)) c.stop_opening.ensures.is)) c.in-Err.ensures.counts

pub open-requires-clause-able : goal.open-requires-clause-able
open-requires-clause-able g c = c.requires.able

pub returns-in-Ok-clause-able : goal.returns-in-Ok-clause-able
returns-in-Ok-clause-able g c = c.open.ensures.able

pub returns-in-Err-clause-able : goal.returns-in-Err-clause-able
returns-in-Err-clause-able g c = c.open.ensures.able
