use Rattle.salt_engine.proofs.Untold.{untold-by}
use Rattle.salt_books.specs.declared.books.Books.{Books}
use Rattle.salt_database.proofs.Netted.{goes-sent}
use Rattle.salt_database.proofs.GoDone.{end-less, ended, ended-at, opening-less, opens-halts, opens-short, opens-there, untold-lost}
use Rattle.salt_database.proofs.OpeningGoes.{goes-on, opened-on}
use Rattle.salt_database.proofs.Stages.{never-going, opened-at, opens-now}
use Rattle.salt_database.proofs.opening.Opening.go_on.Goals as goal
use Rattle.salt_engine.proofs.Counted.{cause-lost, same-cause}
use Rattle.salt_engine.proofs.LineAsked.{counts-same}
use Rattle.salt_engine.proofs.Netted.{told-sent}
use Rattle.salt_database.specs.Standing.{ServesBehind, left_in}
use Rattle.salt_drain.specs.declared.recovery.Recovery.{Recovery}
use Rattle.salt_engine.specs.Standing.{IsGoingStage}
use Rattle.salt_engine.specs.declared.stage.Stage.{Stage}
use Rattle.salt_driver.proofs.Counted.{counts-cause}
use Rattle.std.proofs.Common.{ap, arith, inl, inr, refl, subst, sym, ◌∙◌}
use Rattle.std.proofs.lemmas.Result.{err_from_is_err_and}
use Rattle.salt_scheduler.specs.Standing.{StandsForState}
use Rattle.std.specs.Prelude.{None, Some, [], ◌<◌}

pub go_on_in_opening-requires-clause-none : goal.go_on_in_opening-requires-clause-none
go_on_in_opening-requires-clause-none g c = refl

pub go_on_in_opening-requires-clause-stands : goal.go_on_in_opening-requires-clause-stands
go_on_in_opening-requires-clause-stands g c = λ told.
    let stands = c.requires.stands told in
    let p = stands.0 in
    let at = stands.2 in
    let there = sym c.replace.ensures.value ∙ c.going-recovery.ensures in
    let going = sym c.ends_opening.ensures ∙ c.if-ends_opening.false in
    let h = opened-at _ _ _ _ _ p.state there at.state.0.seen in
    (h.0, goes-on c.going-recovery.result c.args.event p stands.1 h.0 h.1 at.comes going _ _ h.2)

pub going-recovery-requires : goal.going-recovery-requires
going-recovery-requires g c = subst IsGoingStage (sym (c.replace.ensures.value ∙ c.in-Going.is)) tt

pub end-requires : goal.end-requires
end-requires g c = sym c.ends_opening.ensures ∙ c.if-ends_opening.true

pub returns-in_ok-scheduler-clause-moves : goal.returns-in_ok-scheduler-clause-moves
returns-in_ok-scheduler-clause-moves g c = λ p sound at.
    let there = sym c.replace.ensures.value ∙ c.going-recovery.ensures in
    let x = c.going-recovery.result in
    let y = c.in_ok-scheduler.scheduler in
    let e = c.args.event in
    let now = g.D.Disks.view c.args.disks.now in
    let ends = sym c.ends_opening.ensures ∙ c.if-ends_opening.true in
    let h = opened-at _ _ _ _ _ p.state there at.state.0.seen in
    let serves = subst (λ (books : Books). ServesBehind e books (λ s. StandsForState y s)) c.into_books.ensures c.in_ok-scheduler.ensures.serves in
    ended-at (g.S.Storage.holds now) (g.S.Storage.is_new now) (record c.args.self.now { in_flight = None }) y e p h.0 _ _ _ (ended x e p sound h.0 h.1 at.comes at.opening _ ends serves) h.2 at.state.0.can_stop refl
    at.state.0.line refl refl

pub returns-in_ok-scheduler-clause-counts : goal.returns-in_ok-scheduler-clause-counts
returns-in_ok-scheduler-clause-counts g c = counts-same _ [] refl

pub returns-in_err-scheduler-clause-halts : goal.returns-in_err-scheduler-clause-halts
returns-in_err-scheduler-clause-halts g c =
    let q = err_from_is_err_and c.from_residual.result c.from_residual.ensures.1 in
    rw (q.1, q.2) (λ p sound at.
    let there = sym c.replace.ensures.value ∙ c.going-recovery.ensures in
    let h = opened-at _ _ _ _ _ p.state there at.state.0.seen in
    untold-lost c.going-recovery.result c.args.event p sound h.0 h.1 at.comes at.opening _ _ _ _ _ _ at.state.1 _ _ _ c.args.story.now c.end.new.story
    (c.stands.ensures.stays h.0.units.kept h.2.holding) c.replace.ensures.after at.state.0.flies c.in_err-scheduler.ensures.untold)

pub returns-in_err-scheduler-clause-counts : goal.returns-in_err-scheduler-clause-counts
returns-in_err-scheduler-clause-counts g c =
    let q = err_from_is_err_and c.from_residual.result c.from_residual.ensures.1 in
    rw (q.1, q.2) (counts-cause _ _ _ [] refl (cause-lost _ _ (same-cause (g.D.Disks.view c.args.disks.now))))

pub returns-in_err-scheduler-clause-short : goal.returns-in_err-scheduler-clause-short
returns-in_err-scheduler-clause-short g c =
    let q = err_from_is_err_and c.from_residual.result c.from_residual.ensures.1 in
    rw q.1 (λ p sound at. inl refl)

pub returns-in_ok-go_on_in_opening-clause-moves : goal.returns-in_ok-go_on_in_opening-clause-moves
returns-in_ok-go_on_in_opening-clause-moves g c = λ p sound at.
    let there = sym c.replace.ensures.value ∙ c.going-recovery.ensures in
    let x = c.going-recovery.result in
    let e = c.args.event in
    let going = sym c.ends_opening.ensures ∙ c.if-ends_opening.false in
    let h = opened-at _ _ _ _ _ p.state there at.state.0.seen in
    let d = c.in_ok-go_on_in_opening.ensures.comes h.0 (goes-on x e p sound h.0 h.1 at.comes going _ _ h.2) in
    opens-there x e p sound h.0 h.1 at.comes going _ _ (
      (opened-on x e p sound h.0 h.1 at.comes going _ _ _ _ _ _ _ _ _ d at.state.0.can_stop c.go_on_in_opening.ensures.stays.within.shape.can_stop at.state.0.line (ap (λ n. n.0) c.go_on_in_opening.ensures.stays.noted)).0,
      (ap (λ n. n.1) c.go_on_in_opening.ensures.stays.noted) ∙ at.state.1,
    ) d.told

pub returns-in_ok-go_on_in_opening-clause-less : goal.returns-in_ok-go_on_in_opening-clause-less
returns-in_ok-go_on_in_opening-clause-less g c = λ told.
    let stands = c.requires.stands told in
    let p = stands.0 in
    let sound = stands.1 in
    let at = stands.2 in
    let there = sym c.replace.ensures.value ∙ c.going-recovery.ensures in
    let x = c.going-recovery.result in
    let e = c.args.event in
    let going = sym c.ends_opening.ensures ∙ c.if-ends_opening.false in
    let h = opened-at _ _ _ _ _ p.state there at.state.0.seen in
    let d = c.in_ok-go_on_in_opening.ensures.comes h.0 (goes-on x e p sound h.0 h.1 at.comes going _ _ h.2) in
    opening-less _ _ _ _ x e _ p sound h.0 h.1 at.comes going there d.sees (c.stands.ensures.sound h.0.units.kept h.2.holding) d.told

pub returns-in_ok-go_on_in_opening-clause-counts : goal.returns-in_ok-go_on_in_opening-clause-counts
returns-in_ok-go_on_in_opening-clause-counts g c = counts-cause _ _ _ [] refl c.in_ok-go_on_in_opening.ensures.cause

pub returns-in_err-go_on_in_opening-clause-halts : goal.returns-in_err-go_on_in_opening-clause-halts
returns-in_err-go_on_in_opening-clause-halts g c =
    let q = err_from_is_err_and c.from_residual-in_err-go_on_in_opening.result c.from_residual-in_err-go_on_in_opening.ensures.1 in
    rw (q.1, q.2) (λ p sound at.
    let there = sym c.replace.ensures.value ∙ c.going-recovery.ensures in
    let x = c.going-recovery.result in
    let e = c.args.event in
    let going = sym c.ends_opening.ensures ∙ c.if-ends_opening.false in
    let h = opened-at _ _ _ _ _ p.state there at.state.0.seen in
    let b = c.in_err-go_on_in_opening.ensures.comes h.0 (goes-on x e p sound h.0 h.1 at.comes going _ _ h.2) in
    opens-halts x e p sound h.0 h.1 at.comes going _ _ _ _ _ _ _ _ ((ap (λ n. n.1) c.go_on_in_opening.ensures.stays.noted) ∙ at.state.1) _ _ _ _ c.args.story.now c.push.new.self b at.state.0.can_stop c.go_on_in_opening.ensures.stays.within.shape.can_stop at.state.0.line
    (ap (λ n. n.0) c.go_on_in_opening.ensures.stays.noted) (c.stands.ensures.sound h.0.units.kept h.2.holding) c.in_ok-push.ensures.ok)

pub returns-in_err-go_on_in_opening-clause-counts : goal.returns-in_err-go_on_in_opening-clause-counts
returns-in_err-go_on_in_opening-clause-counts g c =
    let q = err_from_is_err_and c.from_residual-in_err-go_on_in_opening.result c.from_residual-in_err-go_on_in_opening.ensures.1 in
    rw (q.1, q.2) (counts-cause _ _ _ [] refl c.in_err-go_on_in_opening.ensures.cause)

pub returns-in_err-push-clause-halts : goal.returns-in_err-push-clause-halts
returns-in_err-push-clause-halts g c =
    let q = err_from_is_err_and c.from_residual-in_err-push.result c.from_residual-in_err-push.ensures.1 in
    rw (q.1, q.2) (λ p sound at.
    let there = sym c.replace.ensures.value ∙ c.going-recovery.ensures in
    let h = opened-at _ _ _ _ _ p.state there at.state.0.seen in
    untold-lost c.going-recovery.result c.args.event p sound h.0 h.1 at.comes at.opening _ _ _ _ _ _ at.state.1 _ _ _ c.args.story.now c.push.new.self
    (c.stands.ensures.stays h.0.units.kept h.2.holding) c.replace.ensures.after at.state.0.flies c.in_err-push.ensures.err)

pub returns-in_err-push-clause-counts : goal.returns-in_err-push-clause-counts
returns-in_err-push-clause-counts g c =
    let q = err_from_is_err_and c.from_residual-in_err-push.result c.from_residual-in_err-push.ensures.1 in
    rw (q.1, q.2) (counts-cause _ _ _ [] refl (cause-lost _ _ (same-cause (g.D.Disks.view c.args.disks.now))))

pub returns-in_err-go_on_in_opening-clause-short : goal.returns-in_err-go_on_in_opening-clause-short
returns-in_err-go_on_in_opening-clause-short g c =
    let q = err_from_is_err_and c.from_residual-in_err-go_on_in_opening.result c.from_residual-in_err-go_on_in_opening.ensures.1 in
    rw q.1 (λ p sound at.
    let there = sym c.replace.ensures.value ∙ c.going-recovery.ensures in
    let x = c.going-recovery.result in
    let e = c.args.event in
    let going = sym c.ends_opening.ensures ∙ c.if-ends_opening.false in
    let h = opened-at _ _ _ _ _ p.state there at.state.0.seen in
    opens-short x e p sound h.0 h.1 at.comes going c.args.story.now c.push.new.self c.args.steps.now c.go_on_in_opening.new.steps
    (c.in_err-go_on_in_opening.ensures.short h.0 (goes-on x e p sound h.0 h.1 at.comes going _ _ h.2)) c.in_ok-push.ensures.ok)

pub returns-in_err-push-clause-short : goal.returns-in_err-push-clause-short
returns-in_err-push-clause-short g c =
    let q = err_from_is_err_and c.from_residual-in_err-push.result c.from_residual-in_err-push.ensures.1 in
    rw q.1 (λ p sound at. inl refl)

pub returns-in_ok-go_on_in_opening-clause-within : goal.returns-in_ok-go_on_in_opening-clause-within
returns-in_ok-go_on_in_opening-clause-within g c = c.go_on_in_opening.ensures.stays.within

pub returns-in_err-go_on_in_opening-clause-within : goal.returns-in_err-go_on_in_opening-clause-within
returns-in_err-go_on_in_opening-clause-within g c = c.go_on_in_opening.ensures.stays.within

pub go_on_in_opening-requires-clause-callable : goal.go_on_in_opening-requires-clause-callable
go_on_in_opening-requires-clause-callable g c = c.requires.callable

pub go_on_in_opening-requires-clause-answers : goal.go_on_in_opening-requires-clause-answers
go_on_in_opening-requires-clause-answers g c = c.requires.answers

pub go_on_in_opening-requires-clause-lost : goal.go_on_in_opening-requires-clause-lost
go_on_in_opening-requires-clause-lost g c = c.replace.ensures.after

pub returns-in_ok-scheduler-clause-sent : goal.returns-in_ok-scheduler-clause-sent
returns-in_ok-scheduler-clause-sent g c = λ p sound at sees q moves. told-sent _ _ c.args.event p.state q.state moves.0.after sees

pub returns-in_ok-go_on_in_opening-clause-sent : goal.returns-in_ok-go_on_in_opening-clause-sent
returns-in_ok-go_on_in_opening-clause-sent g c = λ p sound at sees q moved.
    let there = sym c.replace.ensures.value ∙ c.going-recovery.ensures in
    let x = c.going-recovery.result in
    let e = c.args.event in
    let going = sym c.ends_opening.ensures ∙ c.if-ends_opening.false in
    let h = opened-at _ _ _ _ _ p.state there at.state.0.seen in
    let goes = goes-on x e p sound h.0 h.1 at.comes going _ _ h.2 in
    let d = c.in_ok-go_on_in_opening.ensures.comes h.0 goes in
    goes-sent _ _ _ _ e _ _ p q h.0 h.1.after moved c.go_on_in_opening.ensures.stays.within.asked d.told (c.in_ok-go_on_in_opening.ensures.sent h.0 goes) sees

pub returns-in_ok-scheduler-clause-unfound : goal.returns-in_ok-scheduler-clause-unfound
returns-in_ok-scheduler-clause-unfound g c = refl

pub returns-in_err-scheduler-clause-unfound : goal.returns-in_err-scheduler-clause-unfound
returns-in_err-scheduler-clause-unfound g c = refl

pub returns-in_err-push-clause-unfound : goal.returns-in_err-push-clause-unfound
returns-in_err-push-clause-unfound g c = refl

pub returns-in_ok-go_on_in_opening-clause-unfound : goal.returns-in_ok-go_on_in_opening-clause-unfound
returns-in_ok-go_on_in_opening-clause-unfound g c = ap (λ n. n.1) c.go_on_in_opening.ensures.stays.noted

pub returns-in_err-go_on_in_opening-clause-unfound : goal.returns-in_err-go_on_in_opening-clause-unfound
returns-in_err-go_on_in_opening-clause-unfound g c = ap (λ n. n.1) c.go_on_in_opening.ensures.stays.noted

pub returns-in_ok-scheduler-clause-less : goal.returns-in_ok-scheduler-clause-less
returns-in_ok-scheduler-clause-less g c = λ told.
    subst (λ (s : Stage Recovery). left_in s None < left_in c.args.self.now.stage (Some c.args.event)) (sym c.replace.ensures.after)
    (end-less c.args.self.now.stage c.going-recovery.result c.args.event (sym c.replace.ensures.value ∙ c.going-recovery.ensures) (sym c.ends_opening.ensures ∙ c.if-ends_opening.true))

pub go_on_in_opening-requires-clause-able : goal.go_on_in_opening-requires-clause-able
go_on_in_opening-requires-clause-able g c = c.requires.able

pub returns-in_ok-scheduler-clause-able : goal.returns-in_ok-scheduler-clause-able
returns-in_ok-scheduler-clause-able g c = c.requires.able

pub returns-in_ok-scheduler-clause-plain : goal.returns-in_ok-scheduler-clause-plain
returns-in_ok-scheduler-clause-plain g c = tt

pub returns-in_ok-scheduler-clause-ticks : goal.returns-in_ok-scheduler-clause-ticks
returns-in_ok-scheduler-clause-ticks g c = λ p sound at. omega arith

pub returns-in_err-scheduler-clause-able : goal.returns-in_err-scheduler-clause-able
returns-in_err-scheduler-clause-able g c = c.requires.able

pub returns-in_err-scheduler-clause-broken : goal.returns-in_err-scheduler-clause-broken
returns-in_err-scheduler-clause-broken g c = let q = err_from_is_err_and c.from_residual.result c.from_residual.ensures.1 in
    rw (q.1, q.2) (inl (c.in_err-scheduler.ensures.untold, refl))

pub returns-in_err-push-clause-able : goal.returns-in_err-push-clause-able
returns-in_err-push-clause-able g c = c.requires.able

pub returns-in_err-push-clause-broken : goal.returns-in_err-push-clause-broken
returns-in_err-push-clause-broken g c = let q = err_from_is_err_and c.from_residual-in_err-push.result c.from_residual-in_err-push.ensures.1 in
    rw (q.1, q.2) (inl (c.in_err-push.ensures.err, refl))

pub returns-in_ok-go_on_in_opening-clause-able : goal.returns-in_ok-go_on_in_opening-clause-able
returns-in_ok-go_on_in_opening-clause-able g c = c.go_on_in_opening.ensures.able

pub returns-in_ok-go_on_in_opening-clause-plain : goal.returns-in_ok-go_on_in_opening-clause-plain
returns-in_ok-go_on_in_opening-clause-plain g c = c.in_ok-go_on_in_opening.ensures.plain

pub returns-in_ok-go_on_in_opening-clause-ticks : goal.returns-in_ok-go_on_in_opening-clause-ticks
returns-in_ok-go_on_in_opening-clause-ticks g c = λ p sound at.
    let there = sym c.replace.ensures.value ∙ c.going-recovery.ensures in
    let going = sym c.ends_opening.ensures ∙ c.if-ends_opening.false in
    let h = opened-at _ _ _ _ _ p.state there at.state.0.seen in
    c.in_ok-go_on_in_opening.ensures.ticks h.0 (goes-on c.going-recovery.result c.args.event p sound h.0 h.1 at.comes going _ _ h.2)

pub returns-in_err-go_on_in_opening-clause-able : goal.returns-in_err-go_on_in_opening-clause-able
returns-in_err-go_on_in_opening-clause-able g c = c.go_on_in_opening.ensures.able

pub returns-in_err-go_on_in_opening-clause-broken : goal.returns-in_err-go_on_in_opening-clause-broken
returns-in_err-go_on_in_opening-clause-broken g c = let q = err_from_is_err_and c.from_residual-in_err-go_on_in_opening.result c.from_residual-in_err-go_on_in_opening.ensures.1 in
    rw (q.1, q.2) (inr c.in_ok-push.ensures.ok)

pub strayed-requires-clause-untold : goal.strayed-requires-clause-untold
strayed-requires-clause-untold g c = untold-by _ (λ told. let stands = c.requires.stands told in never-going c.args.self.now.stage c.in_default.not-Going (opens-now _ _ c.args.self.now.stage (Some c.args.event) stands.0.state stands.2.state.0.seen))

pub strayed-requires-clause-able : goal.strayed-requires-clause-able
strayed-requires-clause-able g c = c.requires.able

pub returns-in_default-clause-able : goal.returns-in_default-clause-able
returns-in_default-clause-able g c = c.strayed.ensures.able

pub returns-in_default-clause-broken : goal.returns-in_default-clause-broken
returns-in_default-clause-broken g c = c.strayed.ensures.broken

pub returns-in_default-clause-halts : goal.returns-in_default-clause-halts
returns-in_default-clause-halts g c = λ p sound at. absurd (never-going c.args.self.now.stage c.in_default.not-Going (opens-now _ _ c.args.self.now.stage (Some c.args.event) p.state at.state.0.seen))

pub returns-in_default-clause-short : goal.returns-in_default-clause-short
returns-in_default-clause-short g c = λ p sound at. inl refl

pub returns-in_default-clause-unfound : goal.returns-in_default-clause-unfound
returns-in_default-clause-unfound g c = refl

pub returns-in_default-clause-within : goal.returns-in_default-clause-within
returns-in_default-clause-within g c = c.strayed.ensures.within

pub returns-in_default-clause-counts : goal.returns-in_default-clause-counts
returns-in_default-clause-counts g c = counts-cause _ _ _ [] refl c.strayed.ensures.cause
