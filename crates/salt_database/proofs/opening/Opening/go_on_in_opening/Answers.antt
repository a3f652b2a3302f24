use Rattle.salt_database.proofs.OpeningActs.{goes-recovers, goes-to-open}
use Rattle.salt_database.proofs.opening.Opening.go_on_in_opening.Goals as goal
use Rattle.salt_database.specs.Performing.{MayStep}
use Rattle.salt_engine.proofs.Counted.{cause-broken, cause-lost, same-cause}
use Rattle.salt_engine.proofs.Netted.{other-sent}
use Rattle.salt_engine.proofs.Outcome.{comes-lost, comes-same, not-ok, on-ok, stays-same}
use Rattle.salt_model.specs.declared.events.Event.{Event}
use Rattle.std.proofs.Common.{Option, inl, subst}
use Rattle.std.proofs.lemmas.Result.{IfOk-weaker, err_from_is_err_and, on_err_weaker}
use Rattle.std.specs.Prelude.{refl}

pub perform_in_opening-requires-clause-callable : goal.perform_in_opening-requires-clause-callable
perform_in_opening-requires-clause-callable g c = c.requires.callable

pub perform_in_opening-requires-clause-answers : goal.perform_in_opening-requires-clause-answers
perform_in_opening-requires-clause-answers g c = c.requires.answers

pub perform_in_opening-requires-clause-lost : goal.perform_in_opening-requires-clause-lost
perform_in_opening-requires-clause-lost g c = c.requires.lost

pub perform_in_opening-requires-clause-none : goal.perform_in_opening-requires-clause-none
perform_in_opening-requires-clause-none g c = c.requires.none

pub perform_in_opening-requires-clause-ready : goal.perform_in_opening-requires-clause-ready
perform_in_opening-requires-clause-ready g c = λ told.
    let s = (c.requires.stands told).0 in
    let h = (c.requires.stands told).1 in
    (s, goes-to-open _ _ c.args.recovery c.go_on.new.self c.in_ok-coming.coming s h (c.stands.ensures.sound s.units.kept h.stored.holding) (c.in_ok-coming.ensures s h.stands (goes-recovers _ _ c.args.recovery s h)))

pub returns-clause-comes : goal.returns-clause-comes
returns-clause-comes g c = λ s h.
    let b = c.in_ok-coming.ensures s h.stands (goes-recovers _ _ c.args.recovery s h) in
    comes-same _ _ _ _ _ _ _ _ s c.perform_in_opening.result b.meant
    (c.perform_in_opening.ensures.comes s (goes-to-open _ _ c.args.recovery c.go_on.new.self c.in_ok-coming.coming s h (c.stands.ensures.sound s.units.kept h.stored.holding) b))

pub returns-clause-stays : goal.returns-clause-stays
returns-clause-stays g c = c.perform_in_opening.ensures.stays

pub returns-clause-cause : goal.returns-clause-cause
returns-clause-cause g c = c.perform_in_opening.ensures.cause

pub returns-clause-ticks : goal.returns-clause-ticks
returns-clause-ticks g c = IfOk-weaker c.perform_in_opening.result _ _ (λ e ticks s h.
    let b = c.in_ok-coming.ensures s h.stands (goes-recovers _ _ c.args.recovery s h) in
    ticks s (goes-to-open _ _ c.args.recovery c.go_on.new.self c.in_ok-coming.coming s h (c.stands.ensures.sound s.units.kept h.stored.holding) b)) c.perform_in_opening.ensures.ticks

pub returns-in_err-coming-clause-comes : goal.returns-in_err-coming-clause-comes
returns-in_err-coming-clause-comes g c = λ s h.
    comes-lost _ _ _ _ _ _ _ s c.from_residual.result c.from_residual.ensures.1 (c.stands.ensures.stays s.units.kept h.stored.holding) (record { there = c.requires.lost; flies = inl c.requires.none })

pub returns-in_err-coming-clause-stays : goal.returns-in_err-coming-clause-stays
returns-in_err-coming-clause-stays g c = stays-same _ _ _

pub returns-in_err-coming-clause-cause : goal.returns-in_err-coming-clause-cause
returns-in_err-coming-clause-cause g c = cause-broken _ _ c.from_residual.result _ c.from_residual.ensures.1 (cause-lost _ _ (same-cause (g.D.Disks.view c.args.disks.now)))

pub returns-clause-short : goal.returns-clause-short
returns-clause-short g c = on_err_weaker c.perform_in_opening.result (λ short s h.
    let b = c.in_ok-coming.ensures s h.stands (goes-recovers _ _ c.args.recovery s h) in
    subst (λ (o : Option Event). MayStep o c.args.steps.now c.perform_in_opening.new.steps) b.meant
    (short s (goes-to-open _ _ c.args.recovery c.go_on.new.self c.in_ok-coming.coming s h (c.stands.ensures.sound s.units.kept h.stored.holding) b))) c.perform_in_opening.ensures.short

pub returns-in_err-coming-clause-short : goal.returns-in_err-coming-clause-short
returns-in_err-coming-clause-short g c =
    let p = err_from_is_err_and c.from_residual.result c.from_residual.ensures.1 in
    rw p.1 (λ s h. inl refl)

pub returns-in_err-coming-clause-ticks : goal.returns-in_err-coming-clause-ticks
returns-in_err-coming-clause-ticks g c = not-ok _ _ c.from_residual.result c.from_residual.ensures.1

pub returns-clause-sent : goal.returns-clause-sent
returns-clause-sent g c = on-ok c.perform_in_opening.result _ _ (λ sent s h.
    let b = c.in_ok-coming.ensures s h.stands (goes-recovers _ _ c.args.recovery s h) in
    other-sent (g.S.Storage.asked c.args.self.now.storage) _ _ _ _ s b.meant
    (sent s (goes-to-open _ _ c.args.recovery c.go_on.new.self c.in_ok-coming.coming s h (c.stands.ensures.sound s.units.kept h.stored.holding) b))) c.perform_in_opening.ensures.sent

pub returns-in_err-coming-clause-sent : goal.returns-in_err-coming-clause-sent
returns-in_err-coming-clause-sent g c = not-ok _ _ c.from_residual.result c.from_residual.ensures.1

pub perform_in_opening-requires-clause-able : goal.perform_in_opening-requires-clause-able
perform_in_opening-requires-clause-able g c = c.requires.able

pub returns-clause-able : goal.returns-clause-able
returns-clause-able g c = c.perform_in_opening.ensures.able

pub returns-clause-plain : goal.returns-clause-plain
returns-clause-plain g c = c.perform_in_opening.ensures.plain

pub returns-in_err-coming-clause-able : goal.returns-in_err-coming-clause-able
returns-in_err-coming-clause-able g c = c.requires.able

pub returns-in_err-coming-clause-plain : goal.returns-in_err-coming-clause-plain
returns-in_err-coming-clause-plain g c = not-ok _ _ c.from_residual.result c.from_residual.ensures.1
