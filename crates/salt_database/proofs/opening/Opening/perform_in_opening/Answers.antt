use Rattle.std.specs.Prelude.{Option, ◌+◌}
use Rattle.salt_storage.proofs.Staying.{stays-behind}
use Rattle.salt_model.specs.declared.events.Event.{Event}
use Rattle.salt_engine.specs.declared.stage.Stage.TheVariants as at
use Rattle.salt_engine.specs.Giving.{CanTake, coming_of}
use Rattle.salt_engine.proofs.Untold.{either-way, untold-by}
use Rattle.salt_driver.proofs.Untold.{told-then, untold-now}
use Rattle.salt_drain.specs.Recovering.{AnswersWith}
use Rattle.salt_database.specs.Performing.{ComesInOpening}
use Rattle.salt_database.proofs.OpeningActs.{done-comes, opens-run}
use Rattle.salt_books.specs.Coming.{event_meant}
use Rattle.law_openings.specs.Draining.{statements_at}
use Rattle.salt_database.proofs.TakenUp.{never-some, opens-asks, opens-takes, taken-opens, taken-some, taken-steps}
use Rattle.salt_database.proofs.opening.Opening.perform_in_opening.Goals as goal
use Rattle.salt_engine.proofs.Broken.{broken-as}
use Rattle.salt_engine.proofs.Counted.{cause-broken, cause-lost, cause-on, cause-told}
use Rattle.salt_engine.proofs.Outcome.{comes-broken, not-ok}
use Rattle.salt_engine.proofs.Providing.{breaks-given, breaks-undone}
use Rattle.std.proofs.Common.{ap, inl, refl, subst, sym, ◌∙◌}
use Rattle.std.proofs.lemmas.Result.{err_from_is_err_and}

pub provide-requires-clause-callable : goal.provide-requires-clause-callable
provide-requires-clause-callable g c = c.requires.callable

pub provide-requires-clause-answers : goal.provide-requires-clause-answers
provide-requires-clause-answers g c = c.requires.answers

pub provide-requires-clause-none : goal.provide-requires-clause-none
provide-requires-clause-none g c = c.requires.none

pub provide-requires-clause-ready : goal.provide-requires-clause-ready
provide-requires-clause-ready g c = λ told.
    let r = c.requires.ready told in
    (r.0, opens-asks _ _ c.args.recovery c.args.coming r.0 r.1 c.books.result.now c.books.ensures)

pub take_up-requires : goal.take_up-requires
take_up-requires g c = subst (λ x. CanTake x c.in-Ok.given) c.books.ensures c.in-Ok.ensures.taken

pub break_off-requires : goal.break_off-requires
break_off-requires g c = c.requires.lost

pub returns-in-Some-clause-comes : goal.returns-in-Some-clause-comes
returns-in-Some-clause-comes g c = λ s h.
    let x = c.args.recovery in
    let p = c.in-Ok.ensures.given s (opens-asks _ _ x c.args.coming s h c.books.result.now c.books.ensures) in
    let taken = c.in_ok-next-in-Ok.ensures.gives s (opens-takes _ _ x c.args.coming s h _ _ _ c.in-Ok.given p) in
    taken-opens _ _ x c.args.coming s h _ _ _ _ c.in-Ok.given c.take_up.new.recovery c.in-Some.event refl p
    (subst (λ (o : Option Event). AnswersWith s (event_meant s.units (coming_of c.in-Ok.given)) c.take_up.new.recovery o) (c.of_opening.ensures.of c.in-Some.event c.in-Some.is) taken)

pub returns-in-Some-clause-ticks : goal.returns-in-Some-clause-ticks
returns-in-Some-clause-ticks g c = λ s h.
    let x = c.args.recovery in
    let p = c.in-Ok.ensures.given s (opens-asks _ _ x c.args.coming s h c.books.result.now c.books.ensures) in
    c.in_ok-next-in-Ok.ensures.ticks s (opens-takes _ _ x c.args.coming s h _ _ _ c.in-Ok.given p) ∙ ap (λ o. c.args.steps.now + statements_at o) (c.of_opening.ensures.of c.in-Some.event c.in-Some.is)

pub returns-in-Some-clause-stays : goal.returns-in-Some-clause-stays
returns-in-Some-clause-stays g c = record { noted = refl; within = c.provide.ensures.within }

pub returns-in-Some-clause-cause : goal.returns-in-Some-clause-cause
returns-in-Some-clause-cause g c = c.in-Ok.ensures.cause

pub returns-in_err-next-in-Ok-clause-comes : goal.returns-in_err-next-in-Ok-clause-comes
returns-in_err-next-in-Ok-clause-comes g c = λ s h.
    let p = c.in-Ok.ensures.given s (opens-asks _ _ c.args.recovery c.args.coming s h c.books.result.now c.books.ensures) in
    comes-broken _ _ _ _ _ _ _ s _ c.from_residual.result c.from_residual.ensures.1
    (breaks-given _ _ _ _ _ _ c.args.coming c.in-Ok.given s p c.stands.ensures.stays c.requires.lost)

pub returns-in_err-next-in-Ok-clause-short : goal.returns-in_err-next-in-Ok-clause-short
returns-in_err-next-in-Ok-clause-short g c =
    let p = err_from_is_err_and c.from_residual.result c.from_residual.ensures.1 in
    rw p.1 (λ s h.
    taken-steps _ _ c.args.recovery c.args.coming s h _ _ _ c.in-Ok.given _ _
    (c.in-Ok.ensures.given s (opens-asks _ _ c.args.recovery c.args.coming s h c.books.result.now c.books.ensures)) (c.in_err-next-in-Ok.ensures.short s))

pub returns-in_err-next-in-Ok-clause-stays : goal.returns-in_err-next-in-Ok-clause-stays
returns-in_err-next-in-Ok-clause-stays g c = record { noted = refl; within = c.provide.ensures.within }

pub returns-in_err-next-in-Ok-clause-cause : goal.returns-in_err-next-in-Ok-clause-cause
returns-in_err-next-in-Ok-clause-cause g c = cause-broken _ _ c.from_residual.result _ c.from_residual.ensures.1 (cause-lost _ _ c.in-Ok.ensures.cause)

pub returns-in-Err-clause-comes : goal.returns-in-Err-clause-comes
returns-in-Err-clause-comes g c = λ s h.
    broken-as _ _ _ _ _ s.units c.in-Err.halt c.break_off.result c.break_off.ensures.halt
    (breaks-undone _ _ _ _ _ _ s.units c.books.result.now c.into_books.result (c.books.ensures ∙ sym c.into_books.ensures)
    (c.in-Err.ensures.undone s (opens-asks _ _ c.args.recovery c.args.coming s h c.books.result.now c.books.ensures)) c.break_off.ensures.broken)

pub returns-in-Err-clause-short : goal.returns-in-Err-clause-short
returns-in-Err-clause-short g c = λ s h. inl refl

pub returns-in-Err-clause-stays : goal.returns-in-Err-clause-stays
returns-in-Err-clause-stays g c = record { noted = refl; within = c.provide.ensures.within }

pub returns-in-Err-clause-cause : goal.returns-in-Err-clause-cause
returns-in-Err-clause-cause g c = cause-told _ _ c.in-Err.halt c.break_off.result c.break_off.ensures.halt c.in-Err.ensures.cause

pub returns-in-Some-clause-sent : goal.returns-in-Some-clause-sent
returns-in-Some-clause-sent g c = λ s h. c.in-Ok.ensures.sent s (opens-asks _ _ c.args.recovery c.args.coming s h c.books.result.now c.books.ensures)

pub returns-in_err-next-in-Ok-clause-sent : goal.returns-in_err-next-in-Ok-clause-sent
returns-in_err-next-in-Ok-clause-sent g c = not-ok _ _ c.from_residual.result c.from_residual.ensures.1

pub provide-requires-clause-able : goal.provide-requires-clause-able
provide-requires-clause-able g c = c.requires.able

pub reject-requires-clause-untold : goal.reject-requires-clause-untold
reject-requires-clause-untold g c = untold-by _ (λ now.
    let told = told-then c.provide.ensures.within.shape now in
    let r = c.requires.ready told in
    let x = c.args.recovery in
    let p = c.in-Ok.ensures.given r.0 (opens-asks _ _ x c.args.coming r.0 r.1 c.books.result.now c.books.ensures) in
    never-some _ _ (c.of_opening.ensures.same now) c.in_default.not-Some
    (taken-some _ _ x c.args.coming r.0 r.1 _ _ _ c.in-Ok.given _ _ p (c.in_ok-next-in-Ok.ensures.gives r.0 (opens-takes _ _ x c.args.coming r.0 r.1 _ _ _ c.in-Ok.given p))))

pub reject-requires-clause-able : goal.reject-requires-clause-able
reject-requires-clause-able g c = c.provide.ensures.able

pub returns-in-Some-clause-able : goal.returns-in-Some-clause-able
returns-in-Some-clause-able g c = c.provide.ensures.able

pub returns-in-Some-clause-plain : goal.returns-in-Some-clause-plain
returns-in-Some-clause-plain g c = either-way (ComesInOpening c.in-Some.event) (g.D.Disks.view c.args.disks.now).told (λ told.
    let r = c.requires.ready told in
    let x = c.args.recovery in
    let p = c.in-Ok.ensures.given r.0 (opens-asks _ _ x c.args.coming r.0 r.1 c.books.result.now c.books.ensures) in
    let taken = c.in_ok-next-in-Ok.ensures.gives r.0 (opens-takes _ _ x c.args.coming r.0 r.1 _ _ _ c.in-Ok.given p) in
    let d = taken-opens _ _ x c.args.coming r.0 r.1 _ _ (at.Going c.take_up.new.recovery) _ c.in-Ok.given c.take_up.new.recovery c.in-Some.event refl p
    (subst (λ (o : Option Event). AnswersWith r.0 (event_meant r.0.units (coming_of c.in-Ok.given)) c.take_up.new.recovery o) (c.of_opening.ensures.of c.in-Some.event c.in-Some.is) taken) in
    done-comes c.in-Some.event _ d.told r.1.plain (opens-run _ _ (at.Going c.take_up.new.recovery) c.in-Some.event r.0 d.sees))
    (λ untold. c.of_opening.ensures.plain (untold-now c.provide.ensures.within.shape untold) c.in-Some.event c.in-Some.is)

pub returns-in_default-clause-comes : goal.returns-in_default-clause-comes
returns-in_default-clause-comes g c = λ s h.
    let x = c.args.recovery in
    let p = c.in-Ok.ensures.given s (opens-asks _ _ x c.args.coming s h c.books.result.now c.books.ensures) in
    absurd (never-some _ _ (c.of_opening.ensures.same (c.stands.ensures.told _ p.stored.holding)) c.in_default.not-Some
    (taken-some _ _ x c.args.coming s h _ _ _ c.in-Ok.given _ _ p (c.in_ok-next-in-Ok.ensures.gives s (opens-takes _ _ x c.args.coming s h _ _ _ c.in-Ok.given p))))

pub returns-in_default-clause-short : goal.returns-in_default-clause-short
returns-in_default-clause-short g c = λ s h.
    let x = c.args.recovery in
    let p = c.in-Ok.ensures.given s (opens-asks _ _ x c.args.coming s h c.books.result.now c.books.ensures) in
    absurd (never-some _ _ (c.of_opening.ensures.same (c.stands.ensures.told _ p.stored.holding)) c.in_default.not-Some
    (taken-some _ _ x c.args.coming s h _ _ _ c.in-Ok.given _ _ p (c.in_ok-next-in-Ok.ensures.gives s (opens-takes _ _ x c.args.coming s h _ _ _ c.in-Ok.given p))))

pub returns-in_default-clause-stays : goal.returns-in_default-clause-stays
returns-in_default-clause-stays g c = record { noted = refl; within = stays-behind c.provide.ensures.within c.reject.ensures.within }

pub returns-in_default-clause-cause : goal.returns-in_default-clause-cause
returns-in_default-clause-cause g c = cause-on _ _ _ _ c.in-Ok.ensures.cause c.reject.ensures.cause

pub returns-in_default-clause-able : goal.returns-in_default-clause-able
returns-in_default-clause-able g c = c.reject.ensures.able

pub returns-in_err-next-in-Ok-clause-able : goal.returns-in_err-next-in-Ok-clause-able
returns-in_err-next-in-Ok-clause-able g c = c.provide.ensures.able

pub returns-in_err-next-in-Ok-clause-plain : goal.returns-in_err-next-in-Ok-clause-plain
returns-in_err-next-in-Ok-clause-plain g c = not-ok _ _ c.from_residual.result c.from_residual.ensures.1

pub returns-in_err-next-in-Ok-clause-ticks : goal.returns-in_err-next-in-Ok-clause-ticks
returns-in_err-next-in-Ok-clause-ticks g c = not-ok _ _ c.from_residual.result c.from_residual.ensures.1

pub returns-in-Err-clause-able : goal.returns-in-Err-clause-able
returns-in-Err-clause-able g c = c.provide.ensures.able
