use Rattle.salt_io.specs.declared.lines.Next.TheVariants.{End}
use Rattle.salt_promise.specs.declared.status.Status.{Status}
use Rattle.salt_loop.proofs.Counts.{added-none, reading-counted}
use Rattle.salt_loop.proofs.Ends.{HasTaken, done-ends, if_err_gives, line-done, next-taken, outcome-of, reading-stops, telling-ends}
use Rattle.salt_loop.proofs.serving.Serving.serve_line.Goals as goal
use Rattle.salt_loop.specs.Counted.{CountsAdded}
use Rattle.salt_loop.specs.Serving.{rest_of, text_of}
use Rattle.salt_loop.specs.Stopping.{stop_of}
use Rattle.std.proofs.Common.{Err, Ok, ap, subst, sym, ◌∙◌, ◌≡◌}
use Rattle.std.specs.Option.{option_copied}

pub returns-in_err-next-clause-stops : goal.returns-in_err-next-clause-stops
returns-in_err-next-clause-stops g c =
    let e = c.in_err-next.field-0.0 in
    let v = g.D.Disks.view c.args.disks.now in
    let old = c.args.database.now in
    if_err_gives c.from_residual.result (stop_of e) _ c.from_residual.ensures.1 (λ start script before first serving.
    reading-stops (g.E.Stepping.stands_for v) start script before old c.args.self.now.lines (g.S.Source.left c.args.source.now) c.args.story.now (g.K.Sink.held c.args.sink.now) first v.armed serving
    (g.E.Stepping.on_devices v old) (g.E.Stepping.flight old) c.stands.ensures.idle c.stands.ensures.flown c.stands.ensures.reopens (g.S.Source.left c.next_line.new.source) e
    (λ is. (c.next_line.ensures.fault_open (c.in_err-next.was ∙ ap Err is), c.next_line.ensures.cut_off (c.in_err-next.was ∙ ap Err is))) (λ is. c.next_line.ensures.too_long (c.in_err-next.was ∙ ap Err is)))

pub returns-in_err-next-clause-counts : goal.returns-in_err-next-clause-counts
returns-in_err-next-clause-counts g c = reading-counted (g.D.Disks.view c.args.disks.now) c.args.story.now c.from_residual.result c.in_err-next.field-0.0 c.from_residual.ensures.1

pub returns-in-End-clause-goes : goal.returns-in-End-clause-goes
returns-in-End-clause-goes g c = λ start script before first serving.
    let was = c.in_ok-next.was ∙ ap Ok c.in-End.is in
    let v = g.D.Disks.view c.args.disks.now in
    let old = c.args.database.now in (
      done-ends (g.E.Stepping.stands_for v) start script before old c.args.self.now.lines (g.S.Source.left c.args.source.now) c.args.story.now (g.K.Sink.held c.args.sink.now) first v.armed serving
          (g.E.Stepping.on_devices v old) (g.E.Stepping.flight old) c.stands.ensures.idle c.stands.ensures.flown c.stands.ensures.reopens (g.S.Source.left c.next_line.new.source)
          (c.next_line.ensures.end was),
      (c.next_line.ensures.of (c.next_line.ensures.end_told was)).1,
    )

pub returns-in-End-clause-counts : goal.returns-in-End-clause-counts
returns-in-End-clause-counts g c = added-none (g.D.Disks.view c.args.disks.now) c.args.story.now

pub tell_line-requires-clause-stands : goal.tell_line-requires-clause-stands
tell_line-requires-clause-stands g c = λ told. let s = c.requires.stands told in (s.0, s.4.trace, s.4.serves)

pub returns-in_err-tell_line-clause-stops : goal.returns-in_err-tell_line-clause-stops
returns-in_err-tell_line-clause-stops g c =
    let e = c.in_err-tell_line.field-0.0 in
    let now = g.D.Disks.view c.tell_line.new.disks in
    let new = c.tell_line.new.database in
    let not_end : c.in_ok-next.next ≡ End → ⊥ = c.in_default.not-End in
    let taken : HasTaken (option_copied c.text_of-text.result) (rest_of c.args.self.now.lines (g.S.Source.left c.args.source.now)) (rest_of c.next_line.new.self (g.S.Source.left c.next_line.new.source))
    c.args.self.now.lines.taken c.next_line.new.self =
    subst (λ text. HasTaken text (rest_of c.args.self.now.lines (g.S.Source.left c.args.source.now)) (rest_of c.next_line.new.self (g.S.Source.left c.next_line.new.source))
    c.args.self.now.lines.taken c.next_line.new.self) (sym (c.text_of-text.ensures ∙ ap (text_of c.in_ok-next.next) c.as_slice.ensures.value))
    (next-taken c.in_ok-next.next c.next_line.new.line.items (rest_of c.args.self.now.lines (g.S.Source.left c.args.source.now)) (rest_of c.next_line.new.self (g.S.Source.left c.next_line.new.source))
    c.args.self.now.lines.taken c.next_line.new.self not_end
    (λ is. c.next_line.ensures.line (c.in_ok-next.was ∙ ap Ok is)) (λ is. c.next_line.ensures.long (c.in_ok-next.was ∙ ap Ok is))) in
    if_err_gives c.from_residual-in_err-tell_line.result e _ c.from_residual-in_err-tell_line.ensures.1 (λ start script before first serving.
    telling-ends (g.E.Stepping.stands_for (g.D.Disks.view c.args.disks.now)) start script before c.args.database.now c.args.self.now.lines (g.S.Source.left c.args.source.now) c.args.story.now (g.K.Sink.held c.args.sink.now) first (g.D.Disks.view c.args.disks.now).armed serving
    c.next_line.new.self (g.S.Source.left c.next_line.new.source) c.next_line.ensures.of (option_copied c.text_of-text.result) taken c.tell_line.new.story
    (g.E.Stepping.stands_for now) new (g.E.Stepping.on_devices now new) (g.E.Stepping.flight new) (g.K.Sink.held c.tell_line.new.sink) (g.S.Source.left c.next_line.new.source) now.armed e c.in_err-tell_line.ensures.of_line
    (c.in_err-tell_line.ensures.err start serving.trace serving.serves))

pub returns-in_err-tell_line-clause-counts : goal.returns-in_err-tell_line-clause-counts
returns-in_err-tell_line-clause-counts g c =
    let view = g.D.Disks.view in
    outcome-of c.from_residual-in_err-tell_line.result c.in_err-tell_line.field-0.0 (λ (s : Status). CountsAdded (view c.args.disks.now) (view c.tell_line.new.disks) s c.args.story.now c.tell_line.new.story)
    c.from_residual-in_err-tell_line.ensures.1 c.in_err-tell_line.ensures.counts

pub returns-clause-goes : goal.returns-clause-goes
returns-clause-goes g c = λ start script before first serving.
    let now = g.D.Disks.view c.tell_line.new.disks in
    let not_end : c.in_ok-next.next ≡ End → ⊥ = c.in_default.not-End in
    let taken : HasTaken (option_copied c.text_of-text.result) (rest_of c.args.self.now.lines (g.S.Source.left c.args.source.now)) (rest_of c.next_line.new.self (g.S.Source.left c.next_line.new.source))
    c.args.self.now.lines.taken c.next_line.new.self =
    subst (λ text. HasTaken text (rest_of c.args.self.now.lines (g.S.Source.left c.args.source.now)) (rest_of c.next_line.new.self (g.S.Source.left c.next_line.new.source))
    c.args.self.now.lines.taken c.next_line.new.self) (sym (c.text_of-text.ensures ∙ ap (text_of c.in_ok-next.next) c.as_slice.ensures.value))
    (next-taken c.in_ok-next.next c.next_line.new.line.items (rest_of c.args.self.now.lines (g.S.Source.left c.args.source.now)) (rest_of c.next_line.new.self (g.S.Source.left c.next_line.new.source))
    c.args.self.now.lines.taken c.next_line.new.self not_end
    (λ is. c.next_line.ensures.line (c.in_ok-next.was ∙ ap Ok is)) (λ is. c.next_line.ensures.long (c.in_ok-next.was ∙ ap Ok is))) in
    line-done (g.E.Stepping.stands_for (g.D.Disks.view c.args.disks.now)) start script before c.args.database.now c.args.self.now.lines (g.S.Source.left c.args.source.now) c.args.story.now (g.K.Sink.held c.args.sink.now) first (g.D.Disks.view c.args.disks.now).armed serving
    c.next_line.new.self (g.S.Source.left c.next_line.new.source) c.next_line.ensures.of (option_copied c.text_of-text.result) taken c.tell_line.new.story (g.E.Stepping.stands_for now) c.tell_line.new.database (g.K.Sink.held c.tell_line.new.sink) now.armed
    (c.in_ok-tell_line.ensures.ok start serving.trace serving.serves)

pub next_line-requires : goal.next_line-requires
next_line-requires g c = c.requires.of

pub tell_line-requires-clause-able : goal.tell_line-requires-clause-able
tell_line-requires-clause-able g c = c.requires.able

pub returns-in_err-next-clause-able : goal.returns-in_err-next-clause-able
returns-in_err-next-clause-able g c = c.requires.able

pub returns-in-End-clause-able : goal.returns-in-End-clause-able
returns-in-End-clause-able g c = c.requires.able

pub returns-in_err-tell_line-clause-able : goal.returns-in_err-tell_line-clause-able
returns-in_err-tell_line-clause-able g c = c.tell_line.ensures.able

pub returns-clause-able : goal.returns-clause-able
returns-clause-able g c = c.tell_line.ensures.able

pub returns-in_err-next-clause-of : goal.returns-in_err-next-clause-of
returns-in_err-next-clause-of g c = c.next_line.ensures.of

pub returns-in-End-clause-of : goal.returns-in-End-clause-of
returns-in-End-clause-of g c = c.next_line.ensures.of

pub returns-in_err-tell_line-clause-of : goal.returns-in_err-tell_line-clause-of
returns-in_err-tell_line-clause-of g c = c.next_line.ensures.of

pub returns-clause-of : goal.returns-clause-of
returns-clause-of g c = c.next_line.ensures.of

pub returns-in-End-clause-end : goal.returns-in-End-clause-end
returns-in-End-clause-end g c = λ is. (c.next_line.ensures.of (c.next_line.ensures.end_told (c.in_ok-next.was ∙ ap Ok c.in-End.is))).1
