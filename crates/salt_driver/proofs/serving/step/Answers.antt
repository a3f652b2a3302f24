use Rattle.std.proofs.lemmas.Result.{err_from_is_err_and}
use Rattle.salt_model.specs.Trace.{Tree}
use Rattle.salt_model.specs.declared.events.Event.TheVariants.{Refused}
use Rattle.salt_driver.proofs.Advancing.{sound-asked}
use Rattle.salt_driver.proofs.Counted.{count-join, count-none, count-short, count-turn}
use Rattle.salt_driver.proofs.RefusedAlone.{gained-first, gained-none, gains, refused-leaves-none}
use Rattle.salt_driver.proofs.Segments.{breaks-by, breaks-untold, goes-by, serves-at}
use Rattle.salt_driver.proofs.Untold.{told-now, told-then}
use Rattle.salt_driver.proofs.serving.step.Goals as goal
use Rattle.salt_storage.proofs.Staying.{stays-behind}
use Rattle.std.proofs.lemmas.Result.{IfErr-weaker, on_ok_weaker}
use Rattle.std.proofs.Common.{ap, sym, ◌∙◌}
use Rattle.std.specs.Prelude.{None, Ok}

pub ask-requires-clause-stands : goal.ask-requires-clause-stands
ask-requires-clause-stands g c = λ told.
    let stands_for = g.E.Stepping.stands_for (g.D.Disks.view c.args.disks.now) in
    let t = c.requires.stands told in
    let s = t.2 in (s.point, serves-at stands_for stands_for t.0 c.args.engine.now c.args.story.now t.1 s, s.stands)

pub ask-requires-clause-able : goal.ask-requires-clause-able
ask-requires-clause-able g c = c.requires.able

pub finish-requires-clause-able : goal.finish-requires-clause-able
finish-requires-clause-able g c = c.ask.ensures.able

pub finish-requires-clause-plain : goal.finish-requires-clause-plain
finish-requires-clause-plain g c = c.in_ok-first.ensures.plain

pub returns-clause-able : goal.returns-clause-able
returns-clause-able g c = c.finish.ensures.able

pub returns-in_err-first-clause-able : goal.returns-in_err-first-clause-able
returns-in_err-first-clause-able g c = c.ask.ensures.able

pub finish-requires-clause-stands : goal.finish-requires-clause-stands
finish-requires-clause-stands g c = λ told.
    let stands_for = g.E.Stepping.stands_for (g.D.Disks.view c.args.disks.now) in
    let t = c.requires.stands (told-then c.in_ok-first.ensures.within.shape told) in
    let s = t.2 in
    let sound = serves-at stands_for stands_for t.0 c.args.engine.now c.args.story.now t.1 s in
    let r = c.in_ok-first.ensures.moves s.point sound s.stands in
    (r.0, sound-asked (Tree c.args.line.now) s.point r.0 c.requires.key sound r.1, r.2)

pub returns-clause-segment : goal.returns-clause-segment
returns-clause-segment g c = on_ok_weaker c.finish.result (λ done start trace s.
    let view = g.D.Disks.view in
    let old = g.E.Stepping.stands_for (view c.args.disks.now) in
    let asked = Tree c.args.line.now in
    let sound = serves-at old old start c.args.engine.now c.args.story.now trace s in
    let r = c.in_ok-first.ensures.moves s.point sound s.stands in
    goes-by old (g.E.Stepping.stands_for (view c.finish.new.disks)) start trace asked c.args.line.now c.args.engine.now c.finish.new.engine c.args.story.now c.finish.new.story s r.0 c.requires.key r.1
    (done r.0 (sound-asked asked s.point r.0 c.requires.key sound r.1) r.2)) c.finish.ensures.ok

pub returns-clause-broken_off : goal.returns-clause-broken_off
returns-clause-broken_off g c = IfErr-weaker c.finish.result _ _ (λ halt stopped start trace s.
    let view = g.D.Disks.view in
    let old = g.E.Stepping.stands_for (view c.args.disks.now) in
    let asked = Tree c.args.line.now in
    let sound = serves-at old old start c.args.engine.now c.args.story.now trace s in
    let r = c.in_ok-first.ensures.moves s.point sound s.stands in
    breaks-by old old start (g.E.Stepping.on_devices (view c.finish.new.disks) c.finish.new.engine) (g.E.Stepping.flight c.finish.new.engine) halt trace asked c.args.engine.now c.args.story.now c.finish.new.story s r.0 c.requires.key r.1
    (stopped r.0 (sound-asked asked s.point r.0 c.requires.key sound r.1) r.2)) c.finish.ensures.err

pub returns-clause-refused : goal.returns-clause-refused
returns-clause-refused g c = λ refusal told tells.
    let view = g.D.Disks.view in
    let old = g.E.Stepping.stands_for (view c.args.disks.now) in
    let new = view c.finish.new.disks in
    let e = c.finish.new.engine in
    let asked = Tree c.args.line.now in
    let story = c.args.story.now in
    let t = c.requires.stands tells in
    let s = t.2 in
    let sound = serves-at old old t.0 c.args.engine.now story t.1 s in
    let r = c.in_ok-first.ensures.moves s.point sound s.stands in
    let begun = sound-asked asked s.point r.0 c.requires.key sound r.1 in
    let gain = gains (g.E.Stepping.stands_for new) c.args.line.now (g.E.Stepping.on_devices new e) (g.E.Stepping.flight e) r.0 story c.finish.new.story e
    c.finish.result (on_ok_weaker c.finish.result (λ done. done r.0 begun r.2) c.finish.ensures.ok) (IfErr-weaker c.finish.result _ _ (λ halt stopped. stopped r.0 begun r.2) c.finish.ensures.err) in
    let comes = gained-first refusal r.0 story c.finish.new.story begun r.2.serves gain told in
    let first = sym r.2.comes ∙ comes in
    c.finish.ensures.refused refusal r.0 begun r.2 (refused-leaves-none refusal c.args.line.now s.point r.0 r.1 comes) first (told-now c.in_ok-first.ensures.within.shape tells)
    ∙ c.in_ok-first.ensures.refused refusal (ap Ok first) tells

pub returns-in_err-first-clause-refused : goal.returns-in_err-first-clause-refused
returns-in_err-first-clause-refused g c = λ refusal told tells. absurd (gained-none c.args.story.now (Refused refusal) told)

pub returns-clause-within : goal.returns-clause-within
returns-clause-within g c = stays-behind c.in_ok-first.ensures.within c.finish.ensures.within

pub returns-clause-counts : goal.returns-clause-counts
returns-clause-counts g c =
    let view = g.D.Disks.view in
    let story = c.args.story.now in
    count-join _ (view c.args.disks.now) (view c.ask.new.disks) (view c.finish.new.disks) _ None c.in_ok-first.first story story c.finish.new.story
    (count-turn _ (view c.args.disks.now) (view c.args.disks.now) (view c.ask.new.disks) None story story c.in_ok-first.first
    (count-none _ (view c.args.disks.now) None story) c.in_ok-first.ensures.counts)
    c.finish.ensures.counts

pub returns-in_err-first-clause-broken_off : goal.returns-in_err-first-clause-broken_off
returns-in_err-first-clause-broken_off g c =
    let p = err_from_is_err_and c.from_residual.result c.from_residual.ensures.1 in
    rw (p.1, p.2) (λ start trace s.
    let old = g.E.Stepping.stands_for (g.D.Disks.view c.args.disks.now) in
    let sound = serves-at old old start c.args.engine.now c.args.story.now trace s in
    breaks-untold old old start _ _ _ trace (Tree c.args.line.now) c.args.engine.now c.args.story.now s c.requires.key (c.in_err-first.ensures.halts s.point sound s.stands))

pub returns-in_err-first-clause-counts : goal.returns-in_err-first-clause-counts
returns-in_err-first-clause-counts g c =
    let view = g.D.Disks.view in
    let story = c.args.story.now in
    let p = err_from_is_err_and c.from_residual.result c.from_residual.ensures.1 in
    rw (p.1, p.2) (count-short _ (view c.args.disks.now) (view c.args.disks.now) (view c.ask.new.disks) _ None story story (count-none _ (view c.args.disks.now) None story) c.in_err-first.ensures.counts)
