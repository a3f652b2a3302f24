use Rattle.salt_ast.specs.declared.lines.Line.TheVariants.{Nothing}
use Rattle.salt_model.specs.Trace.{Rejected, Start, Trace, Tree}
use Rattle.salt_model.specs.declared.events.Refusal.TheVariants.{Long}
use Rattle.salt_loop.proofs.Askable.{askable}
use Rattle.salt_loop.proofs.Counts.{none-asked}
use Rattle.salt_loop.proofs.Continuing.{breaks-by, breaks-unread, continues-by, err-counted, ok-counted}
use Rattle.salt_loop.proofs.lines.ask_line.Goals as goal
use Rattle.salt_loop.specs.Serving.{BreaksIn, ContinuesRun, line_behind, moment}
use Rattle.salt_driver.specs.Serving.{ServesTrace}
use Rattle.std.proofs.Common.{ap, subst, sym}
use Rattle.std.specs.Option.{option_copied}
use Rattle.std.specs.Prelude.{Err, List, Option, refl, ℕ}
use Rattle.std.specs.Result.{IfErr, OnOk}

pub refuse-requires-clause-stands : goal.refuse-requires-clause-stands
refuse-requires-clause-stands g c = c.requires.stands

pub returns-in_default-clause-ok : goal.returns-in_default-clause-ok
returns-in_default-clause-ok g c =
    let view = g.D.Disks.view in
    subst (λ (text : Option (List ℕ)). OnOk c.refuse.result ((start : Start) (trace : Trace) → ServesTrace (g.E.Stepping.stands_for (view c.args.disks.now) c.args.database.now) start c.args.story.now trace →
    ContinuesRun (g.E.Stepping.stands_for (view c.refuse.new.disks) c.refuse.new.engine) (line_behind start trace text) (moment c.args.story.now (view c.args.disks.now).armed) (moment c.refuse.new.story (view c.refuse.new.disks).armed))) (sym (ap option_copied c.in_default.is))
    (ok-counted Nothing (view c.args.disks.now) (view c.refuse.new.disks) c.args.story.now c.refuse.new.story c.refuse.result (λ goes counts start trace s. continues-by _ start trace _ (Rejected Long) _ _ (view c.args.disks.now) (view c.refuse.new.disks) refl counts (goes start trace s)) c.refuse.ensures.segment c.refuse.ensures.counts)

pub returns-in_default-clause-err : goal.returns-in_default-clause-err
returns-in_default-clause-err g c =
    let view = g.D.Disks.view c.refuse.new.disks in
    let e = c.refuse.new.engine in
    subst (λ (text : Option (List ℕ)). IfErr c.refuse.result (λ halt. (start : Start) (trace : Trace) → ServesTrace (g.E.Stepping.stands_for (g.D.Disks.view c.args.disks.now) c.args.database.now) start c.args.story.now trace →
    BreaksIn (g.E.Stepping.on_devices view e) (g.E.Stepping.flight e) halt (line_behind start trace text) (moment c.args.story.now (g.D.Disks.view c.args.disks.now).armed) (moment c.refuse.new.story view.armed))) (sym (ap option_copied c.in_default.is))
    (err-counted Nothing (g.D.Disks.view c.args.disks.now) view c.args.story.now c.refuse.new.story c.refuse.result _ _ (λ halt breaks counts start trace s. breaks-by _ _ halt start trace _ (Rejected Long) _ _ (g.D.Disks.view c.args.disks.now) view refl counts (breaks start trace s)) c.refuse.ensures.broken_off c.refuse.ensures.counts)

pub step-requires-clause-served : goal.step-requires-clause-served
step-requires-clause-served g c =
    c.requires.serves c.in-Ok.line
    (askable c.in-Some.text.now c.in-Ok.line c.in-Ok.ensures.line (c.read_lines_are_spelled.ensures.one c.in-Some.text.now (Tree c.in-Ok.line) c.in-Ok.ensures.line))

pub step-requires-clause-key : goal.step-requires-clause-key
step-requires-clause-key g c =
    c.read_lines_are_spelled.ensures.keys c.in-Ok.line (c.read_lines_are_spelled.ensures.one c.in-Some.text.now (Tree c.in-Ok.line) c.in-Ok.ensures.line)

pub step-requires-clause-stands : goal.step-requires-clause-stands
step-requires-clause-stands g c = c.requires.stands

pub returns-in-Ok-clause-ok : goal.returns-in-Ok-clause-ok
returns-in-Ok-clause-ok g c =
    let view = g.D.Disks.view in
    subst (λ (text : Option (List ℕ)). OnOk c.step.result ((start : Start) (trace : Trace) → ServesTrace (g.E.Stepping.stands_for (view c.args.disks.now) c.args.database.now) start c.args.story.now trace →
    ContinuesRun (g.E.Stepping.stands_for (view c.step.new.disks) c.step.new.engine) (line_behind start trace text) (moment c.args.story.now (view c.args.disks.now).armed) (moment c.step.new.story (view c.step.new.disks).armed))) (sym (ap option_copied c.in-Some.is))
    (ok-counted c.in-Ok.line (view c.args.disks.now) (view c.step.new.disks) c.args.story.now c.step.new.story c.step.result (λ goes counts start trace s. continues-by _ start trace _ (Tree c.in-Ok.line) _ _ (view c.args.disks.now) (view c.step.new.disks) c.in-Ok.ensures.line counts (goes start trace s)) c.step.ensures.segment c.step.ensures.counts)

pub returns-in-Ok-clause-err : goal.returns-in-Ok-clause-err
returns-in-Ok-clause-err g c =
    let view = g.D.Disks.view c.step.new.disks in
    let e = c.step.new.engine in
    subst (λ (text : Option (List ℕ)). IfErr c.step.result (λ halt. (start : Start) (trace : Trace) → ServesTrace (g.E.Stepping.stands_for (g.D.Disks.view c.args.disks.now) c.args.database.now) start c.args.story.now trace →
    BreaksIn (g.E.Stepping.on_devices view e) (g.E.Stepping.flight e) halt (line_behind start trace text) (moment c.args.story.now (g.D.Disks.view c.args.disks.now).armed) (moment c.step.new.story view.armed))) (sym (ap option_copied c.in-Some.is))
    (err-counted c.in-Ok.line (g.D.Disks.view c.args.disks.now) view c.args.story.now c.step.new.story c.step.result _ _ (λ halt breaks counts start trace s. breaks-by _ _ halt start trace _ (Tree c.in-Ok.line) _ _ (g.D.Disks.view c.args.disks.now) view c.in-Ok.ensures.line counts (breaks start trace s)) c.step.ensures.broken_off c.step.ensures.counts)

pub refuse-requires-in-Err-Refused-clause-stands : goal.refuse-requires-in-Err-Refused-clause-stands
refuse-requires-in-Err-Refused-clause-stands g c = c.requires.stands

pub returns-in-Err-Refused-clause-ok : goal.returns-in-Err-Refused-clause-ok
returns-in-Err-Refused-clause-ok g c =
    let view = g.D.Disks.view in
    let refusal = c.in-Err-Refused.refusal in
    let asks = c.in-Err-Refused.ensures.refused refusal (ap Err c.in-Err-Refused.field-0-is) in
    subst (λ (text : Option (List ℕ)). OnOk c.refuse-in-Err-Refused.result ((start : Start) (trace : Trace) → ServesTrace (g.E.Stepping.stands_for (view c.args.disks.now) c.args.database.now) start c.args.story.now trace →
    ContinuesRun (g.E.Stepping.stands_for (view c.refuse-in-Err-Refused.new.disks) c.refuse-in-Err-Refused.new.engine) (line_behind start trace text) (moment c.args.story.now (view c.args.disks.now).armed) (moment c.refuse-in-Err-Refused.new.story (view c.refuse-in-Err-Refused.new.disks).armed))) (sym (ap option_copied c.in-Some.is))
    (ok-counted Nothing (view c.args.disks.now) (view c.refuse-in-Err-Refused.new.disks) c.args.story.now c.refuse-in-Err-Refused.new.story c.refuse-in-Err-Refused.result (λ goes counts start trace s. continues-by _ start trace _ (Rejected refusal) _ _ (view c.args.disks.now) (view c.refuse-in-Err-Refused.new.disks) asks counts (goes start trace s)) c.refuse-in-Err-Refused.ensures.segment c.refuse-in-Err-Refused.ensures.counts)

pub returns-in-Err-Refused-clause-err : goal.returns-in-Err-Refused-clause-err
returns-in-Err-Refused-clause-err g c =
    let view = g.D.Disks.view c.refuse-in-Err-Refused.new.disks in
    let e = c.refuse-in-Err-Refused.new.engine in
    let refusal = c.in-Err-Refused.refusal in
    let asks = c.in-Err-Refused.ensures.refused refusal (ap Err c.in-Err-Refused.field-0-is) in
    subst (λ (text : Option (List ℕ)). IfErr c.refuse-in-Err-Refused.result (λ halt. (start : Start) (trace : Trace) → ServesTrace (g.E.Stepping.stands_for (g.D.Disks.view c.args.disks.now) c.args.database.now) start c.args.story.now trace →
    BreaksIn (g.E.Stepping.on_devices view e) (g.E.Stepping.flight e) halt (line_behind start trace text) (moment c.args.story.now (g.D.Disks.view c.args.disks.now).armed) (moment c.refuse-in-Err-Refused.new.story view.armed))) (sym (ap option_copied c.in-Some.is))
    (err-counted Nothing (g.D.Disks.view c.args.disks.now) view c.args.story.now c.refuse-in-Err-Refused.new.story c.refuse-in-Err-Refused.result _ _ (λ halt breaks counts start trace s. breaks-by _ _ halt start trace _ (Rejected refusal) _ _ (g.D.Disks.view c.args.disks.now) view asks counts (breaks start trace s)) c.refuse-in-Err-Refused.ensures.broken_off c.refuse-in-Err-Refused.ensures.counts)

pub returns-in-Err-Memory-clause-err : goal.returns-in-Err-Memory-clause-err
returns-in-Err-Memory-clause-err g c = λ start trace s.
    let view = g.D.Disks.view c.args.disks.now in
    let e = c.args.database.now in
    breaks-unread (g.E.Stepping.stands_for view) (g.E.Stepping.on_devices view e) (g.E.Stepping.flight e) e c.stands.ensures.idle c.stands.ensures.flown c.stands.ensures.reopens start trace _ c.args.story.now view.armed s

pub returns-in-Err-Memory-clause-counts : goal.returns-in-Err-Memory-clause-counts
returns-in-Err-Memory-clause-counts g c = (Nothing, none-asked Nothing (g.D.Disks.view c.args.disks.now) c.args.story.now)

pub returns-in_default-clause-counts : goal.returns-in_default-clause-counts
returns-in_default-clause-counts g c = (Nothing, c.refuse.ensures.counts)

pub returns-in-Ok-clause-counts : goal.returns-in-Ok-clause-counts
returns-in-Ok-clause-counts g c = (c.in-Ok.line, c.step.ensures.counts)

pub returns-in-Err-Refused-clause-counts : goal.returns-in-Err-Refused-clause-counts
returns-in-Err-Refused-clause-counts g c = (Nothing, c.refuse-in-Err-Refused.ensures.counts)

pub returns-in_default-clause-able : goal.returns-in_default-clause-able
returns-in_default-clause-able g c = c.refuse.ensures.able

pub returns-in-Ok-clause-able : goal.returns-in-Ok-clause-able
returns-in-Ok-clause-able g c = c.step.ensures.able

pub returns-in-Err-Refused-clause-able : goal.returns-in-Err-Refused-clause-able
returns-in-Err-Refused-clause-able g c = c.refuse-in-Err-Refused.ensures.able

pub returns-in-Err-Memory-clause-able : goal.returns-in-Err-Memory-clause-able
returns-in-Err-Memory-clause-able g c = c.requires.able

pub refuse-requires-clause-able : goal.refuse-requires-clause-able
refuse-requires-clause-able g c = c.requires.able

pub step-requires-clause-able : goal.step-requires-clause-able
step-requires-clause-able g c = c.requires.able

pub refuse-requires-in-Err-Refused-clause-able : goal.refuse-requires-in-Err-Refused-clause-able
refuse-requires-in-Err-Refused-clause-able g c = c.requires.able
