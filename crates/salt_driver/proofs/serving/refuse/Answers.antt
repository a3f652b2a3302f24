use Rattle.salt_storage.proofs.Staying.{stays-behind}
use Rattle.salt_ast.specs.declared.lines.Line.TheVariants.{Nothing}
use Rattle.salt_model.specs.Trace.{Rejected}
use Rattle.salt_model.specs.declared.events.Event.{Event}
use Rattle.salt_driver.proofs.Advancing.{sound-asked, stop-first}
use Rattle.salt_driver.proofs.Counted.{count-all, count-left, count-none, count-on, count-short, count-stop, count-turn}
use Rattle.salt_driver.proofs.Refusing.{refused-done, refused-first, refused-whole}
use Rattle.salt_driver.proofs.Segments.{breaks-by, breaks-untold, goes-by, serves-at}
use Rattle.salt_driver.proofs.Untold.{told-now, told-or-short, told-then}
use Rattle.salt_driver.proofs.serving.refuse.Goals as goal
use Rattle.salt_driver.specs.Counting.{CountsSoFar}
use Rattle.salt_driver.specs.Standing.{IsAt, IsOfSegment}
use Rattle.std.proofs.Common.{subst, sym, ◌∙◌}
use Rattle.std.proofs.lemmas.Result.{err_from_is_err_and}
use Rattle.std.specs.Prelude.{None, Option}

pub ask_rejected-requires-clause-able : goal.ask_rejected-requires-clause-able
ask_rejected-requires-clause-able g c = c.requires.able

pub ask_rejected-requires-clause-stands : goal.ask_rejected-requires-clause-stands
ask_rejected-requires-clause-stands g c = λ told.
    let stands_for = g.E.Stepping.stands_for (g.D.Disks.view c.args.disks.now) in
    let t = c.requires.stands told in
    let s = t.2 in (s.point, serves-at stands_for stands_for t.0 c.args.engine.now c.args.story.now t.1 s, s.stands)

pub say-requires-clause-able : goal.say-requires-clause-able
say-requires-clause-able g c = c.ask_rejected.ensures.able

pub say-requires-clause-plain : goal.say-requires-clause-plain
say-requires-clause-plain g c = subst IsOfSegment c.in-Some.is c.in_ok-first.ensures.plain

pub returns-in_ok-say-clause-able : goal.returns-in_ok-say-clause-able
returns-in_ok-say-clause-able g c = c.say.ensures.able

pub returns-in_err-say-clause-able : goal.returns-in_err-say-clause-able
returns-in_err-say-clause-able g c = c.say.ensures.able

pub returns-in_err-first-clause-able : goal.returns-in_err-first-clause-able
returns-in_err-first-clause-able g c = c.ask_rejected.ensures.able

pub returns-in_err-first-clause-broken_off : goal.returns-in_err-first-clause-broken_off
returns-in_err-first-clause-broken_off g c =
    let p = err_from_is_err_and c.from_residual.result c.from_residual.ensures.1 in
    rw (p.1, p.2) (λ start trace s.
    let old = g.E.Stepping.stands_for (g.D.Disks.view c.args.disks.now) in
    let sound = serves-at old old start c.args.engine.now c.args.story.now trace s in
    breaks-untold old old start _ _ _ trace (Rejected c.args.refusal) c.args.engine.now c.args.story.now s tt (c.in_err-first.ensures.halts s.point sound s.stands))

pub returns-in_err-first-clause-counts : goal.returns-in_err-first-clause-counts
returns-in_err-first-clause-counts g c =
    let view = g.D.Disks.view in
    let story = c.args.story.now in
    let p = err_from_is_err_and c.from_residual.result c.from_residual.ensures.1 in
    rw (p.1, p.2) (count-short _ (view c.args.disks.now) (view c.args.disks.now) (view c.ask_rejected.new.disks) _ None story story (count-none _ (view c.args.disks.now) None story) c.in_err-first.ensures.counts)

pub say-requires-clause-stands : goal.say-requires-clause-stands
say-requires-clause-stands g c = λ told.
    let view = g.D.Disks.view in
    let stands_for = g.E.Stepping.stands_for (view c.args.disks.now) in
    let t = c.requires.stands (told-then c.in_ok-first.ensures.within.shape told) in
    let s = t.2 in
    let sound = serves-at stands_for stands_for t.0 c.args.engine.now c.args.story.now t.1 s in
    let r = c.in_ok-first.ensures.moves s.point sound s.stands in (
      r.0,
      sound-asked (Rejected c.args.refusal) s.point r.0 tt sound r.1,
      subst (λ (o : Option Event). IsAt (g.E.Stepping.stands_for (view c.ask_rejected.new.disks) c.ask_rejected.new.self) Nothing o r.0) c.in-Some.is r.2,
    )

pub returns-in_ok-say-clause-segment : goal.returns-in_ok-say-clause-segment
returns-in_ok-say-clause-segment g c = λ start trace s.
    let view = g.D.Disks.view in
    let old = g.E.Stepping.stands_for (view c.args.disks.now) in
    let asked = Rejected c.args.refusal in
    let story = c.args.story.now in
    let sound = serves-at old old start c.args.engine.now story trace s in
    let r = c.in_ok-first.ensures.moves s.point sound s.stands in
    let at = subst (λ (o : Option Event). IsAt (g.E.Stepping.stands_for (view c.ask_rejected.new.disks) c.ask_rejected.new.self) Nothing o r.0) c.in-Some.is r.2 in
    let moved = c.in_ok-say.ensures.moves r.0 (sound-asked asked s.point r.0 tt sound r.1) at in
    let now = g.E.Stepping.stands_for (view c.say.new.disks) in
    goes-by old now start trace asked Nothing c.args.engine.now c.say.new.self story c.say.new.story s r.0 tt r.1
    (refused-whole now c.args.refusal c.in-Some.event s.point r.0 story c.say.new.story c.say.new.self c.in_ok-say.field-0 sound r.1 at.comes moved c.in_ok-say.ensures.tells)

pub returns-in_err-say-clause-broken_off : goal.returns-in_err-say-clause-broken_off
returns-in_err-say-clause-broken_off g c =
    let p = err_from_is_err_and c.from_residual-in_err-say.result c.from_residual-in_err-say.ensures.1 in
    rw (p.1, p.2) (λ start trace s.
    let view = g.D.Disks.view in
    let old = g.E.Stepping.stands_for (view c.args.disks.now) in
    let stands_for = g.E.Stepping.stands_for (view c.ask_rejected.new.disks) in
    let asked = Rejected c.args.refusal in
    let story = c.args.story.now in
    let sound = serves-at old old start c.args.engine.now story trace s in
    let r = c.in_ok-first.ensures.moves s.point sound s.stands in
    let at = subst (λ (o : Option Event). IsAt (stands_for c.ask_rejected.new.self) Nothing o r.0) c.in-Some.is r.2 in
    breaks-by old old start _ _ _ trace asked c.args.engine.now story c.say.new.story s r.0 tt r.1
    (stop-first _ _ _ c.in-Some.event r.0 story c.say.new.story (c.in_err-say.ensures.halts r.0 (sound-asked asked s.point r.0 tt sound r.1) at)))

pub returns-in_ok-say-clause-unwritten : goal.returns-in_ok-say-clause-unwritten
returns-in_ok-say-clause-unwritten g c = λ told.
    let old = g.E.Stepping.stands_for (g.D.Disks.view c.args.disks.now) in
    let t = c.requires.stands told in
    let s = t.2 in
    let r = c.in_ok-first.ensures.moves s.point (serves-at old old t.0 c.args.engine.now c.args.story.now t.1 s) s.stands in
    c.in_ok-say.ensures.refused c.args.refusal (refused-first c.args.refusal c.in-Some.event s.point r.0 r.1 (r.2.comes ∙ c.in-Some.is)) (told-now c.in_ok-first.ensures.within.shape told)
    ∙ c.in_ok-first.ensures.unwritten told

pub returns-in_err-say-clause-unwritten : goal.returns-in_err-say-clause-unwritten
returns-in_err-say-clause-unwritten g c = λ told.
    let old = g.E.Stepping.stands_for (g.D.Disks.view c.args.disks.now) in
    let t = c.requires.stands told in
    let s = t.2 in
    let r = c.in_ok-first.ensures.moves s.point (serves-at old old t.0 c.args.engine.now c.args.story.now t.1 s) s.stands in
    c.in_err-say.ensures.refused c.args.refusal (refused-first c.args.refusal c.in-Some.event s.point r.0 r.1 (r.2.comes ∙ c.in-Some.is)) (told-now c.in_ok-first.ensures.within.shape told)
    ∙ c.in_ok-first.ensures.unwritten told

pub returns-in_ok-say-clause-counts : goal.returns-in_ok-say-clause-counts
returns-in_ok-say-clause-counts g c =
    let view = g.D.Disks.view in
    let story = c.args.story.now in
    count-all _ (view c.args.disks.now) (view c.say.new.disks) None story c.say.new.story
    (count-left _ (view c.args.disks.now) (view c.say.new.disks) None story c.say.new.story c.in_ok-say.field-0 c.in_ok-say.ensures.unarmed
    (count-on _ (view c.args.disks.now) (view c.ask_rejected.new.disks) (view c.say.new.disks) None story story c.say.new.story c.in-Some.event c.in_ok-say.field-0
    (subst (λ (o : Option Event). CountsSoFar Nothing (view c.args.disks.now) (view c.ask_rejected.new.disks) None story story o) c.in-Some.is
    (count-turn _ (view c.args.disks.now) (view c.args.disks.now) (view c.ask_rejected.new.disks) None story story c.in_ok-first.first (count-none _ (view c.args.disks.now) None story) c.in_ok-first.ensures.counts))
    c.in_ok-say.ensures.counts (subst IsOfSegment c.in-Some.is c.in_ok-first.ensures.plain) c.in_ok-say.ensures.tells))

pub returns-in_err-say-clause-counts : goal.returns-in_err-say-clause-counts
returns-in_err-say-clause-counts g c =
    let view = g.D.Disks.view in
    let story = c.args.story.now in
    let p = err_from_is_err_and c.from_residual-in_err-say.result c.from_residual-in_err-say.ensures.1 in
    rw (p.1, p.2) (count-stop _ (view c.args.disks.now) (view c.ask_rejected.new.disks) (view c.say.new.disks) _ None story story c.say.new.story c.in-Some.event
    (subst (λ (o : Option Event). CountsSoFar Nothing (view c.args.disks.now) (view c.ask_rejected.new.disks) None story story o) c.in-Some.is
    (count-turn _ (view c.args.disks.now) (view c.args.disks.now) (view c.ask_rejected.new.disks) None story story c.in_ok-first.first (count-none _ (view c.args.disks.now) None story) c.in_ok-first.ensures.counts))
    c.in_err-say.ensures.counts (told-or-short _ c.in-Some.event story c.say.new.story (subst IsOfSegment c.in-Some.is c.in_ok-first.ensures.plain) c.in_err-say.ensures.broken))

pub returns-in_err-say-clause-within : goal.returns-in_err-say-clause-within
returns-in_err-say-clause-within g c = stays-behind c.ask_rejected.ensures.within c.say.ensures.within

pub returns-in_ok-say-clause-within : goal.returns-in_ok-say-clause-within
returns-in_ok-say-clause-within g c = stays-behind c.ask_rejected.ensures.within c.say.ensures.within
