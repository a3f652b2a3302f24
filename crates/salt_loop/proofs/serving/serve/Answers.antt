use Rattle.salt_io.specs.Lines.{IsReadingOf, ScriptReading}
use Rattle.salt_driver.proofs.Untold.{told-then}
use Rattle.salt_promise.specs.declared.status.Status.{Status}
use Rattle.salt_loop.proofs.Beginning.{serving-begun}
use Rattle.salt_loop.proofs.Counts.{added-both}
use Rattle.salt_loop.proofs.Ends.{outcome-of}
use Rattle.salt_loop.proofs.serving.serve.Goals as goal
use Rattle.salt_promise.specs.declared.status.Status.TheVariants.{Done}
use Rattle.salt_loop.specs.Run.{script_run, streams}
use Rattle.salt_loop.specs.Counted.{CountsAdded}
use Rattle.salt_loop.specs.Ending.{EndsServing}
use Rattle.salt_loop.specs.Serving.{IsAfterLine}
use Rattle.salt_storage.proofs.Staying.{stays-behind}
use Rattle.std.proofs.Common.{ap, refl, subst, sym, ◌∙◌}
use Rattle.std.specs.Prelude.{Bool, Ok}

pub returns-in_err-begin-clause-ended : goal.returns-in_err-begin-clause-ended
returns-in_err-begin-clause-ended g c = λ start trace begins first is.
    let now = g.D.Disks.view c.begin.new.disks in
    let e = c.begin.new.database in
    outcome-of c.from_residual.result c.in_err-begin.field-0.0 (λ (s : Status). EndsServing (g.E.Stepping.stands_for now e) (g.E.Stepping.on_devices now e) start (script_run s (g.E.Stepping.flight e) (streams (g.S.Source.left c.args.source.now) (g.S.Source.left c.args.source.now) (g.K.Sink.held c.args.sink.now) (g.K.Sink.held c.begin.new.sink)) c.begin.new.story) first now.armed) c.from_residual.ensures.1
    (c.in_err-begin.ensures.stops start trace begins (g.S.Source.left c.args.source.now) (g.S.Source.left c.args.source.now) first is)

pub returns-in_err-begin-clause-counts : goal.returns-in_err-begin-clause-counts
returns-in_err-begin-clause-counts g c =
    let view = g.D.Disks.view in
    outcome-of c.from_residual.result c.in_err-begin.field-0.0 (λ (s : Status). CountsAdded (view c.args.disks.now) (view c.begin.new.disks) s c.args.story.now c.begin.new.story) c.from_residual.ensures.1
    c.in_err-begin.ensures.counts

pub lines-init : goal.lines-init
lines-init g c =
    let view = g.D.Disks.view in
    record {
      over = λ start trace begins first is.
          serving-begun (g.E.Stepping.stands_for (view c.begin.new.disks)) start c.begin.new.database c.new.result (g.S.Source.left c.args.source.now) (g.K.Sink.held c.args.sink.now) (g.K.Sink.held c.begin.new.sink)
          c.begin.new.story first (view c.begin.new.disks).armed (c.in_ok-begin.ensures.ok start trace begins first is) c.new.ensures;
      reads = refl;
      within = c.begin.ensures.within;
      writes = c.in_ok-begin.ensures.no_write_fault (λ e. cc);
      counts = c.in_ok-begin.ensures.counts;
      able = c.begin.ensures.able;
      of = subst (λ (r : ScriptReading). IsReadingOf r (g.S.Source.left c.args.source.now)) (sym c.new.ensures) (λ ended. cc);
    }

pub serve_line-requires-clause-stands : goal.serve_line-requires-clause-stands
serve_line-requires-clause-stands g c = λ told.
    let b = c.requires.begins (told-then c.lines.invariant.within.shape told) in
    (b.0, g.S.Source.left c.args.source.now, g.K.Sink.held c.args.sink.now, b.3, c.lines.invariant.over b.0 b.1 b.2 b.3 b.4)

pub returns-in_err-serve_line-clause-ended : goal.returns-in_err-serve_line-clause-ended
returns-in_err-serve_line-clause-ended g c = λ start trace begins first is.
    let now = g.D.Disks.view c.serve_line.new.disks in
    let e = c.serve_line.new.database in
    outcome-of c.from_residual-in_err-serve_line.result c.in_err-serve_line.field-0.0 (λ (s : Status). EndsServing (g.E.Stepping.stands_for now e) (g.E.Stepping.on_devices now e) start (script_run s (g.E.Stepping.flight e) (streams (g.S.Source.left c.args.source.now) (g.S.Source.left c.serve_line.new.source) (g.K.Sink.held c.args.sink.now) (g.K.Sink.held c.serve_line.new.sink)) c.serve_line.new.story) first now.armed) c.from_residual-in_err-serve_line.ensures.1
    (c.in_err-serve_line.ensures.stops start (g.S.Source.left c.args.source.now) (g.K.Sink.held c.args.sink.now) first (c.lines.invariant.over start trace begins first is))

pub returns-in_err-serve_line-clause-counts : goal.returns-in_err-serve_line-clause-counts
returns-in_err-serve_line-clause-counts g c =
    let view = g.D.Disks.view in
    outcome-of c.from_residual-in_err-serve_line.result c.in_err-serve_line.field-0.0 (λ (s : Status). CountsAdded (view c.args.disks.now) (view c.serve_line.new.disks) s c.args.story.now c.serve_line.new.story)
    c.from_residual-in_err-serve_line.ensures.1
    (added-both (view c.args.disks.now) (view c.lines.disks) (view c.serve_line.new.disks) _ c.args.story.now c.lines.story c.serve_line.new.story c.lines.invariant.counts c.in_err-serve_line.ensures.counts)

pub lines-preserved : goal.lines-preserved
lines-preserved g c =
    let view = g.D.Disks.view in
    let old = view c.args.disks.now in
    let now = view c.serve_line.new.disks in
    let e = c.serve_line.new.database in
    record {
      over = λ start trace begins first is.
          subst (λ (more : Bool). IsAfterLine more (g.E.Stepping.stands_for now e) (g.E.Stepping.on_devices now e) start (script_run Done (g.E.Stepping.flight e) (streams (g.S.Source.left c.args.source.now) (g.S.Source.left c.serve_line.new.source) (g.K.Sink.held c.args.sink.now) (g.K.Sink.held c.serve_line.new.sink)) c.serve_line.new.story) c.serve_line.new.self.lines first now.armed) c.if-branch.true
          (c.in_ok-serve_line.ensures.goes start (g.S.Source.left c.args.source.now) (g.K.Sink.held c.args.sink.now) first (c.lines.invariant.over start trace begins first is));
      reads = c.in_ok-serve_line.ensures.no_read_fault (λ x. cc) ∙ c.lines.invariant.reads;
      writes = c.in_ok-serve_line.ensures.no_write_fault (λ x. cc) ∙ c.lines.invariant.writes;
      within = stays-behind c.lines.invariant.within c.serve_line.ensures.within;
      counts = added-both old (view c.lines.disks) now _ c.args.story.now c.lines.story c.serve_line.new.story c.lines.invariant.counts c.in_ok-serve_line.ensures.counts;
      able = c.serve_line.ensures.able;
      of = c.serve_line.ensures.of;
    }

pub returns-clause-ended : goal.returns-clause-ended
returns-clause-ended g c = λ start trace begins first is.
    let now = g.D.Disks.view c.serve_line.new.disks in
    let e = c.serve_line.new.database in
    (subst (λ (more : Bool). IsAfterLine more (g.E.Stepping.stands_for now e) (g.E.Stepping.on_devices now e) start (script_run Done (g.E.Stepping.flight e) (streams (g.S.Source.left c.args.source.now) (g.S.Source.left c.serve_line.new.source) (g.K.Sink.held c.args.sink.now) (g.K.Sink.held c.serve_line.new.sink)) c.serve_line.new.story) c.serve_line.new.self.lines first now.armed) c.if-branch.false
    (c.in_ok-serve_line.ensures.goes start (g.S.Source.left c.args.source.now) (g.K.Sink.held c.args.sink.now) first (c.lines.invariant.over start trace begins first is))).0

pub returns-clause-end : goal.returns-clause-end
returns-clause-end g c = c.in_ok-serve_line.ensures.end (ap Ok c.if-branch.false)

pub returns-clause-counts : goal.returns-clause-counts
returns-clause-counts g c =
    let view = g.D.Disks.view in
    added-both (view c.args.disks.now) (view c.lines.disks) (view c.serve_line.new.disks) _ c.args.story.now c.lines.story c.serve_line.new.story c.lines.invariant.counts c.in_ok-serve_line.ensures.counts

pub returns-clause-within : goal.returns-clause-within
returns-clause-within g c = stays-behind c.lines.invariant.within c.serve_line.ensures.within

pub returns-in_err-serve_line-clause-within : goal.returns-in_err-serve_line-clause-within
returns-in_err-serve_line-clause-within g c = stays-behind c.lines.invariant.within c.serve_line.ensures.within

pub begin-requires-clause-able : goal.begin-requires-clause-able
begin-requires-clause-able g c = c.requires.able

pub serve_line-requires-clause-able : goal.serve_line-requires-clause-able
serve_line-requires-clause-able g c = c.lines.invariant.able

pub serve_line-requires-clause-of : goal.serve_line-requires-clause-of
serve_line-requires-clause-of g c = c.lines.invariant.of

pub returns-in_err-begin-clause-able : goal.returns-in_err-begin-clause-able
returns-in_err-begin-clause-able g c = c.begin.ensures.able

pub returns-in_err-serve_line-clause-able : goal.returns-in_err-serve_line-clause-able
returns-in_err-serve_line-clause-able g c = c.serve_line.ensures.able

pub returns-clause-able : goal.returns-clause-able
returns-clause-able g c = c.serve_line.ensures.able
