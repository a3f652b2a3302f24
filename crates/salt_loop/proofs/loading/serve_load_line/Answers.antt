use Rattle.salt_promise.specs.Workload.{load_lines}
use Rattle.salt_promise.specs.declared.status.Status.{Status}
use Rattle.salt_promise.specs.declared.status.Status.TheVariants as status
use Rattle.salt_loop.proofs.Counts.{run-none}
use Rattle.salt_loop.proofs.Ends.{if_err_gives, outcome-of}
use Rattle.salt_loop.proofs.Loads.{not-none, short-loading}
use Rattle.salt_loop.proofs.loading.serve_load_line.Goals as goal
use Rattle.salt_loop.specs.Counted.{CountsAdded}
use Rattle.salt_loop.specs.declared.stop.Stop.TheVariants.{Memory}
use Rattle.std.proofs.Common.{sym, ◌+◌, ◌∙◌}

pub returns-in_err-line-clause-err : goal.returns-in_err-line-clause-err
returns-in_err-line-clause-err g c =
    let v = g.D.Disks.view c.args.disks.now in
    let e = c.args.database.now in
    if_err_gives c.from_residual.result Memory _ c.from_residual.ensures.1 (λ start first loading.
    short-loading (g.E.Stepping.stands_for v) start c.args.calls c.args.i e c.args.story.now first v.armed loading (g.E.Stepping.on_devices v e) (g.E.Stepping.flight e)
    c.stands.ensures.idle c.stands.ensures.flown c.stands.ensures.reopens (c.args.i + 1))

pub returns-in_err-line-clause-counts : goal.returns-in_err-line-clause-counts
returns-in_err-line-clause-counts g c =
    let v = g.D.Disks.view c.args.disks.now in
    outcome-of c.from_residual.result Memory (λ (s : Status). CountsAdded v v s c.args.story.now c.args.story.now) c.from_residual.ensures.1 (run-none v status.Memory (λ m. cc) c.args.story.now)

pub load_one-requires-clause-is : goal.load_one-requires-clause-is
load_one-requires-clause-is g c = sym c.in-Some.is ∙ c.in_ok-line.ensures

pub returns-in-None-clause-ok : goal.returns-in-None-clause-ok
returns-in-None-clause-ok g c = absurd (not-none (load_lines c.args.calls) c.args.i c.requires.within (sym c.in-None.is ∙ c.in_ok-line.ensures))

pub load_one-requires-clause-able : goal.load_one-requires-clause-able
load_one-requires-clause-able g c = c.requires.able

pub returns-in_err-line-clause-able : goal.returns-in_err-line-clause-able
returns-in_err-line-clause-able g c = c.requires.able

pub returns-in-Some-clause-able : goal.returns-in-Some-clause-able
returns-in-Some-clause-able g c = c.load_one.ensures.able

pub returns-in-None-clause-able : goal.returns-in-None-clause-able
returns-in-None-clause-able g c = c.requires.able
