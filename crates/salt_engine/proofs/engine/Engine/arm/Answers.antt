use Rattle.salt_engine.proofs.Broken.{breaks-before}
use Rattle.salt_engine.proofs.Counted.{cause-lost, counts-armed, counts-broken, counts-lost, same-cause}
use Rattle.salt_engine.proofs.InStage.{behind-lost, never-else, stands-there}
use Rattle.salt_engine.proofs.LineArms.{arms-able, arms-performs, arms-sent, crash-sent, stops-armed}
use Rattle.salt_engine.proofs.Outcome.{comes-lost, not-ok, stays-same}
use Rattle.salt_engine.proofs.Untold.{event-arms, event-plain, untold-by}
use Rattle.salt_engine.proofs.engine.Engine.arm.Goals as goal
use Rattle.salt_engine.specs.Performing.{IsServed}
use Rattle.salt_driver.proofs.Counted.{counts-cause}
use Rattle.salt_ast.specs.declared.lines.Line.{Line}
use Rattle.salt_model.specs.Arming.{stops_asked}
use Rattle.salt_model.specs.Words.{Every}
use Rattle.std.proofs.Common.{ap, inl, sym, subst, ◌∙◌}
use Rattle.std.specs.Prelude.{List, [], refl, ℕ, ◌++◌, ◌≤◌}

pub arm_each-requires-clause-able : goal.arm_each-requires-clause-able
arm_each-requires-clause-able g c = sym c.can_stop.ensures ∙ c.if-not-can_stop.false

pub arm_each-requires-clause-picks : goal.arm_each-requires-clause-picks
arm_each-requires-clause-picks g c = subst (Every (λ (p : ℕ × ℕ). p.1 ≤ 4)) (sym c.as_slice-2.ensures) (subst IsServed c.requires.line c.requires.served)

pub returns-in-Ok-clause-comes : goal.returns-in-Ok-clause-comes
returns-in-Ok-clause-comes g c = λ s r k.
    let h = stands-there _ _ c.in-Going.scheduler c.in-Going.is k in
    arms-performs _ _ _ c.args.line.now c.in-Going.scheduler s h c.args.pairs.now (stops-armed _ _ _ c.args.line.now c.in-Going.scheduler s h c.args.pairs.now c.requires.line) _ _ _ _ c.armed-event.new.self c.armed-event.result c.in_ok-told.told (c.in_ok-told.ensures ∙ c.as_slice.ensures) c.requires.none refl
    (c.arm_each.ensures.stored s.units h.stored) r (c.armed-event.ensures.does s r h.stands h.allowed.serves)

pub returns-in-Ok-clause-stays : goal.returns-in-Ok-clause-stays
returns-in-Ok-clause-stays g c = record { noted = refl; within = c.arm_each.ensures.within }

pub returns-in-Ok-clause-counts : goal.returns-in-Ok-clause-counts
returns-in-Ok-clause-counts g c =
    let armed = event-arms c.args.line.now c.args.pairs.now c.in_ok-told.told c.armed-event.result c.armed-event.ensures.event (c.in_ok-told.ensures ∙ c.as_slice.ensures)
    ∙ ap (λ (l : Line). stops_asked l c.args.pairs.now) c.requires.line in
    counts-armed _ _ _ c.arm_each.ensures.faults
    (c.in-Ok.ensures.ok ∙ ap (λ (l : List (ℕ × ℕ)). (g.D.Disks.view c.args.disks.now).armed ++ l) (c.as_slice-2.ensures ∙ sym armed))

pub returns-in-Err-clause-comes : goal.returns-in-Err-clause-comes
returns-in-Err-clause-comes g c = λ s r k.
    let h = stands-there _ _ c.in-Going.scheduler c.in-Going.is k in
    breaks-before _ _ _ _ _ s.units (c.stands-in-Err.ensures.stays s.units.kept (c.arm_each.ensures.stored s.units h.stored).holding)
    (record { there = refl; flies = inl c.requires.none })

pub returns-in-Err-clause-stays : goal.returns-in-Err-clause-stays
returns-in-Err-clause-stays g c = record { noted = refl; within = c.arm_each.ensures.within }

pub returns-in-Err-clause-counts : goal.returns-in-Err-clause-counts
returns-in-Err-clause-counts g c = counts-lost _ _ [] c.arm_each.ensures.faults

pub returns-in_err-told-clause-comes : goal.returns-in_err-told-clause-comes
returns-in_err-told-clause-comes g c = λ s r k.
    let h = stands-there _ _ c.in-Going.scheduler c.in-Going.is k in
    comes-lost _ _ _ _ _ _ _ s c.from_residual.result c.from_residual.ensures.1 (c.stands.ensures.stays s.units.kept h.stored.holding)
    (record { there = behind-lost c.from_residual.result _ c.from_residual.ensures.1; flies = inl c.requires.none })

pub returns-in_err-told-clause-stays : goal.returns-in_err-told-clause-stays
returns-in_err-told-clause-stays g c = stays-same _ _ _

pub returns-in_err-told-clause-counts : goal.returns-in_err-told-clause-counts
returns-in_err-told-clause-counts g c = counts-broken _ _ _ c.from_residual.result _ c.from_residual.ensures.1 (cause-lost _ _ (same-cause (g.D.Disks.view c.args.disks.now)))

pub returns-in-Ok-clause-sent : goal.returns-in-Ok-clause-sent
returns-in-Ok-clause-sent g c = λ s r k.
    let h = stands-there _ _ c.in-Going.scheduler c.in-Going.is k in
    arms-sent _ _ _ c.args.line.now c.in-Going.scheduler s h c.args.pairs.now (stops-armed _ _ _ c.args.line.now c.in-Going.scheduler s h c.args.pairs.now c.requires.line) (g.S.Storage.asked c.args.self.now.storage) _ _
    (crash-sent c.args.line.now c.args.pairs.now _ _ c.requires.line c.arm_each.ensures.net) r

pub returns-in_err-told-clause-sent : goal.returns-in_err-told-clause-sent
returns-in_err-told-clause-sent g c = not-ok _ _ c.from_residual.result c.from_residual.ensures.1

pub reject-requires-clause-untold : goal.reject-requires-clause-untold
reject-requires-clause-untold g c = untold-by _ (λ told. never-else _ c.args.self.now.stage c.in_default.not-Going (c.requires.ready told).1)

pub reject-requires-clause-able : goal.reject-requires-clause-able
reject-requires-clause-able g c = c.requires.able

pub returns-in_default-clause-comes : goal.returns-in_default-clause-comes
returns-in_default-clause-comes g c = λ s r k. absurd (never-else _ c.args.self.now.stage c.in_default.not-Going k)

pub returns-in_default-clause-stays : goal.returns-in_default-clause-stays
returns-in_default-clause-stays g c = record { noted = refl; within = c.reject.ensures.within }

pub returns-in_default-clause-counts : goal.returns-in_default-clause-counts
returns-in_default-clause-counts g c = counts-cause _ _ _ [] refl c.reject.ensures.cause

pub returns-in_default-clause-able : goal.returns-in_default-clause-able
returns-in_default-clause-able g c = c.reject.ensures.able

pub reject-requires-then-not-can_stop-clause-untold : goal.reject-requires-then-not-can_stop-clause-untold
reject-requires-then-not-can_stop-clause-untold g c = untold-by _ (λ told.
    let r = c.requires.ready told in
    let can = arms-able _ _ _ c.args.line.now c.in-Going.scheduler r.0 (stands-there _ _ c.in-Going.scheduler c.in-Going.is r.1) c.args.pairs.now c.requires.line in
    let no = sym can ∙ sym c.can_stop.ensures ∙ c.if-not-can_stop.true in cc)

pub reject-requires-then-not-can_stop-clause-able : goal.reject-requires-then-not-can_stop-clause-able
reject-requires-then-not-can_stop-clause-able g c = c.requires.able

pub returns-then-not-can_stop-clause-comes : goal.returns-then-not-can_stop-clause-comes
returns-then-not-can_stop-clause-comes g c = λ s r k.
    let can = arms-able _ _ _ c.args.line.now c.in-Going.scheduler s (stands-there _ _ c.in-Going.scheduler c.in-Going.is k) c.args.pairs.now c.requires.line in
    let no = sym can ∙ sym c.can_stop.ensures ∙ c.if-not-can_stop.true in cc

pub returns-then-not-can_stop-clause-stays : goal.returns-then-not-can_stop-clause-stays
returns-then-not-can_stop-clause-stays g c = record { noted = refl; within = c.reject-then-not-can_stop.ensures.within }

pub returns-then-not-can_stop-clause-counts : goal.returns-then-not-can_stop-clause-counts
returns-then-not-can_stop-clause-counts g c = counts-cause _ _ _ [] refl c.reject-then-not-can_stop.ensures.cause

pub returns-then-not-can_stop-clause-able : goal.returns-then-not-can_stop-clause-able
returns-then-not-can_stop-clause-able g c = c.reject-then-not-can_stop.ensures.able

pub returns-in-Ok-clause-able : goal.returns-in-Ok-clause-able
returns-in-Ok-clause-able g c = c.arm_each.ensures.able c.requires.able

pub returns-in-Ok-clause-plain : goal.returns-in-Ok-clause-plain
returns-in-Ok-clause-plain g c = event-plain _ _ c.armed-event.ensures.event refl

pub returns-in-Err-clause-able : goal.returns-in-Err-clause-able
returns-in-Err-clause-able g c = c.arm_each.ensures.able c.requires.able

pub returns-in_err-told-clause-able : goal.returns-in_err-told-clause-able
returns-in_err-told-clause-able g c = c.requires.able

pub returns-in_err-told-clause-plain : goal.returns-in_err-told-clause-plain
returns-in_err-told-clause-plain g c = not-ok _ _ c.from_residual.result c.from_residual.ensures.1
