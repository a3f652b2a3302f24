use Rattle.salt_driver.proofs.Untold.{told-then}
use Rattle.salt_promise.specs.declared.status.Status.{Status}
use Rattle.salt_loop.proofs.Counts.{added-both, added-opened}
use Rattle.salt_loop.proofs.Loads.{all-loaded, loading-begun, not-begun}
use Rattle.salt_loop.proofs.Outcomes.{done-outcome, was-ok}
use Rattle.salt_loop.proofs.loading.load.Goals as goal
use Rattle.salt_loop.specs.Counted.{CountsAdded}
use Rattle.salt_loop.specs.Stopping.{answer_of, outcome, status_of}
use Rattle.salt_driver.specs.Counting.{CountsOpening}
use Rattle.salt_storage.proofs.Staying.{stays-behind}
use Rattle.std.proofs.Common.{arith, subst}

pub start-requires-clause-down : goal.start-requires-clause-down
start-requires-clause-down g c = λ told. let b = c.requires.begins told in (b.0, b.1, b.2.down)

pub returns-in-Err-clause-ended : goal.returns-in-Err-clause-ended
returns-in-Err-clause-ended g c = λ start trace begins first is.
    let now = g.D.Disks.view c.start.new.disks in
    let e = c.start.new.database in
    not-begun (g.E.Stepping.on_devices now e) (g.E.Stepping.flight e) c.args.calls start trace c.args.story.now c.start.new.story (g.D.Disks.view c.args.disks.now) now
    c.in-Err.stop c.in-Err.ensures.later begins.unasked c.in-Err.ensures.counts (c.in-Err.ensures.err start trace begins.down) first is

pub returns-in-Err-clause-counts : goal.returns-in-Err-clause-counts
returns-in-Err-clause-counts g c =
    let view = g.D.Disks.view in
    added-opened (view c.args.disks.now) (view c.start.new.disks) (status_of c.in-Err.stop) c.args.story.now c.start.new.story c.in-Err.ensures.counts

pub loop-i-init : goal.loop-i-init
loop-i-init g c =
    let view = g.D.Disks.view in
    record {
      over = λ start trace begins first is.
          loading-begun (g.E.Stepping.stands_for (view c.start.new.disks)) c.args.calls start trace c.start.new.database c.args.story.now c.start.new.story (view c.args.disks.now) (view c.start.new.disks) begins.unasked
          (subst (λ (s : Status). CountsOpening (view c.args.disks.now) (view c.start.new.disks) (answer_of s) c.args.story.now c.start.new.story) (done-outcome c.start.result c.in_default.not-Err) c.start.ensures.counts)
          (was-ok c.start.result _ c.in_default.not-Err c.start.ensures.ok start trace begins.down) first is;
      within = c.start.ensures.within;
      counts = subst (λ (s : Status). CountsAdded (view c.args.disks.now) (view c.start.new.disks) s c.args.story.now c.start.new.story) (done-outcome c.start.result c.in_default.not-Err)
          (added-opened (view c.args.disks.now) (view c.start.new.disks) (outcome c.start.result) c.args.story.now c.start.new.story c.start.ensures.counts);
      able = c.start.ensures.able;
    }

pub serve_load_line-requires-clause-stands : goal.serve_load_line-requires-clause-stands
serve_load_line-requires-clause-stands g c = λ told.
    let b = c.requires.begins (told-then c.loop-i.invariant.within.shape told) in
    (b.0, b.3, c.loop-i.invariant.over b.0 b.1 b.2 b.3 b.4)

pub returns-in-Err-serve_load_line-clause-ended : goal.returns-in-Err-serve_load_line-clause-ended
returns-in-Err-serve_load_line-clause-ended g c = λ start trace begins first is. c.in-Err-serve_load_line.ensures.err start first (c.loop-i.invariant.over start trace begins first is)

pub returns-in-Err-serve_load_line-clause-within : goal.returns-in-Err-serve_load_line-clause-within
returns-in-Err-serve_load_line-clause-within g c = stays-behind c.loop-i.invariant.within c.serve_load_line.ensures.within

pub returns-in-Err-serve_load_line-clause-counts : goal.returns-in-Err-serve_load_line-clause-counts
returns-in-Err-serve_load_line-clause-counts g c =
    let view = g.D.Disks.view in
    added-both (view c.args.disks.now) (view c.loop-i.disks) (view c.serve_load_line.new.disks) _ c.args.story.now c.loop-i.story c.serve_load_line.new.story c.loop-i.invariant.counts
    c.in-Err-serve_load_line.ensures.counts

pub loop-i-preserved : goal.loop-i-preserved
loop-i-preserved g c =
    let view = g.D.Disks.view in
    record {
      over = λ start trace begins first is.
          was-ok c.serve_load_line.result _ c.in_default-serve_load_line.not-Err c.serve_load_line.ensures.ok start first (c.loop-i.invariant.over start trace begins first is);
      within = stays-behind c.loop-i.invariant.within c.serve_load_line.ensures.within;
      counts = added-both (view c.args.disks.now) (view c.loop-i.disks) (view c.serve_load_line.new.disks) _ c.args.story.now c.loop-i.story c.serve_load_line.new.story c.loop-i.invariant.counts
          (subst (λ (s : Status). CountsAdded (view c.loop-i.disks) (view c.serve_load_line.new.disks) s c.loop-i.story c.serve_load_line.new.story)
          (done-outcome c.serve_load_line.result c.in_default-serve_load_line.not-Err) c.serve_load_line.ensures.counts);
      able = c.serve_load_line.ensures.able;
    }

pub returns-clause-ended : goal.returns-clause-ended
returns-clause-ended g c = λ start trace begins first is.
    let now = g.D.Disks.view c.loop-i.disks in
    let e = c.loop-i.database in
    all-loaded (g.E.Stepping.stands_for now) start c.args.calls c.loop-i.i e c.loop-i.story first now.armed (c.loop-i.invariant.over start trace begins first is) (g.E.Stepping.on_devices now e)
    (g.E.Stepping.flight e) c.stands.ensures.idle c.stands.ensures.flown c.stands.ensures.reopens (omega arith) c.line_count.result c.line_count.ensures

pub returns-clause-within : goal.returns-clause-within
returns-clause-within g c = c.loop-i.invariant.within

pub start-requires-clause-able : goal.start-requires-clause-able
start-requires-clause-able g c = c.requires.able

pub serve_load_line-requires-clause-able : goal.serve_load_line-requires-clause-able
serve_load_line-requires-clause-able g c = c.loop-i.invariant.able

pub returns-in-Err-clause-able : goal.returns-in-Err-clause-able
returns-in-Err-clause-able g c = c.start.ensures.able

pub returns-in-Err-serve_load_line-clause-able : goal.returns-in-Err-serve_load_line-clause-able
returns-in-Err-serve_load_line-clause-able g c = c.serve_load_line.ensures.able

pub returns-clause-able : goal.returns-clause-able
returns-clause-able g c = c.loop-i.invariant.able
