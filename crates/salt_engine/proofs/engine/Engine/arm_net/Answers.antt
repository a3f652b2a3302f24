use Rattle.salt_engine.proofs.Broken.{breaks-before}
use Rattle.salt_engine.proofs.Counted.{cause-lost, counts-broken, counts-lost, same-cause}
use Rattle.salt_engine.proofs.InStage.{behind-lost, never-else, stands-there}
use Rattle.salt_engine.proofs.LineArms.{arms-performs, arms-sent, net-sent, pairs-armed}
use Rattle.salt_engine.proofs.LineAsked.{counts-same}
use Rattle.salt_engine.proofs.Outcome.{comes-lost, not-ok, stays-as, stays-same}
use Rattle.salt_engine.proofs.Untold.{event-arms, event-plain, untold-by}
use Rattle.salt_engine.proofs.engine.Engine.arm_net.Goals as goal
use Rattle.salt_driver.proofs.Counted.{counts-cause}
use Rattle.salt_ast.specs.declared.lines.Line.{Line}
use Rattle.salt_model.specs.Arming.{stops_asked}
use Rattle.std.proofs.Common.{ap, inl, ◌∙◌}
use Rattle.std.specs.Prelude.{[], refl}

pub returns-in-Ok-clause-comes : goal.returns-in-Ok-clause-comes
returns-in-Ok-clause-comes g c = λ s r k.
    let h = stands-there _ _ c.in-Going.scheduler c.in-Going.is k in
    arms-performs _ _ _ c.args.line.now c.in-Going.scheduler s h c.args.pairs.now (pairs-armed _ _ _ c.args.line.now c.in-Going.scheduler s h c.args.pairs.now c.requires.line) _ _ _ _ c.armed-event.new.self c.armed-event.result c.in_ok-told.told (c.in_ok-told.ensures ∙ c.as_slice.ensures) c.requires.none refl
    (record { holding = c.arm_net.ensures.holds s.units.kept h.stored.holding; new = λ u i. c.arm_net.ensures.is_new u (h.stored.new u i) }) r (c.armed-event.ensures.does s r h.stands h.allowed.serves)

pub returns-in-Ok-clause-stays : goal.returns-in-Ok-clause-stays
returns-in-Ok-clause-stays g c = stays-as _ _ _ _ c.arm_net.ensures.asked

pub returns-in-Ok-clause-counts : goal.returns-in-Ok-clause-counts
returns-in-Ok-clause-counts g c =
    counts-same _ _
    (event-arms c.args.line.now c.args.pairs.now c.in_ok-told.told c.armed-event.result c.armed-event.ensures.event (c.in_ok-told.ensures ∙ c.as_slice.ensures)
    ∙ ap (λ (l : Line). stops_asked l c.args.pairs.now) c.requires.line)

pub returns-in-Ok-clause-sent : goal.returns-in-Ok-clause-sent
returns-in-Ok-clause-sent g c = λ s r k.
    let h = stands-there _ _ c.in-Going.scheduler c.in-Going.is k in
    arms-sent _ _ _ c.args.line.now c.in-Going.scheduler s h c.args.pairs.now (pairs-armed _ _ _ c.args.line.now c.in-Going.scheduler s h c.args.pairs.now c.requires.line) (g.S.Storage.asked c.args.self.now.storage) _ _
    (net-sent c.args.line.now c.args.pairs.now _ _ _ c.requires.line c.as_slice-2.ensures c.in-Ok.ensures.ok) r

pub returns-in-Err-clause-comes : goal.returns-in-Err-clause-comes
returns-in-Err-clause-comes g c = λ s r k.
    let h = stands-there _ _ c.in-Going.scheduler c.in-Going.is k in
    breaks-before _ _ _ _ _ s.units (c.stands-in-Err.ensures.stays s.units.kept (c.arm_net.ensures.holds s.units.kept h.stored.holding))
    (record { there = refl; flies = inl c.requires.none })

pub returns-in-Err-clause-stays : goal.returns-in-Err-clause-stays
returns-in-Err-clause-stays g c = stays-as _ _ _ _ c.arm_net.ensures.asked

pub returns-in-Err-clause-counts : goal.returns-in-Err-clause-counts
returns-in-Err-clause-counts g c = counts-lost _ _ [] refl

pub returns-in_err-told-clause-comes : goal.returns-in_err-told-clause-comes
returns-in_err-told-clause-comes g c = λ s r k.
    let h = stands-there _ _ c.in-Going.scheduler c.in-Going.is k in
    comes-lost _ _ _ _ _ _ _ s c.from_residual.result c.from_residual.ensures.1 (c.stands.ensures.stays s.units.kept h.stored.holding)
    (record { there = behind-lost c.from_residual.result _ c.from_residual.ensures.1; flies = inl c.requires.none })

pub returns-in_err-told-clause-stays : goal.returns-in_err-told-clause-stays
returns-in_err-told-clause-stays g c = stays-same _ _ _

pub returns-in_err-told-clause-counts : goal.returns-in_err-told-clause-counts
returns-in_err-told-clause-counts g c = counts-broken _ _ _ c.from_residual.result _ c.from_residual.ensures.1 (cause-lost _ _ (same-cause (g.D.Disks.view c.args.disks.now)))

pub returns-in_err-told-clause-sent : goal.returns-in_err-told-clause-sent
returns-in_err-told-clause-sent g c = not-ok _ _ c.from_residual.result c.from_residual.ensures.1

pub reject-requires-clause-untold : goal.reject-requires-clause-untold
reject-requires-clause-untold g c = untold-by _ (λ told. never-else _ c.args.self.now.stage c.in_default.not-Going (c.requires.ready told).1)

pub reject-requires-clause-able : goal.reject-requires-clause-able
reject-requires-clause-able g c = c.requires.able

pub returns-in_default-clause-comes : goal.returns-in_default-clause-comes
returns-in_default-clause-comes g c = λ s r k. absurd (never-else _ c.args.self.now.stage c.in_default.not-Going k)

pub returns-in_default-clause-stays : goal.returns-in_default-clause-stays
returns-in_default-clause-stays g c = record { noted = refl; within = c.reject.ensures.within }

pub returns-in_default-clause-counts : goal.returns-in_default-clause-counts
returns-in_default-clause-counts g c = counts-cause _ _ _ [] refl c.reject.ensures.cause

pub returns-in_default-clause-able : goal.returns-in_default-clause-able
returns-in_default-clause-able g c = c.reject.ensures.able

pub returns-in-Ok-clause-able : goal.returns-in-Ok-clause-able
returns-in-Ok-clause-able g c = c.arm_net.ensures.able c.requires.able

pub returns-in-Ok-clause-plain : goal.returns-in-Ok-clause-plain
returns-in-Ok-clause-plain g c = event-plain _ _ c.armed-event.ensures.event refl

pub returns-in-Err-clause-able : goal.returns-in-Err-clause-able
returns-in-Err-clause-able g c = c.arm_net.ensures.able c.requires.able

pub returns-in_err-told-clause-able : goal.returns-in_err-told-clause-able
returns-in_err-told-clause-able g c = c.requires.able

pub returns-in_err-told-clause-plain : goal.returns-in_err-told-clause-plain
returns-in_err-told-clause-plain g c = not-ok _ _ c.from_residual.result c.from_residual.ensures.1
