use Rattle.salt_scheduler.specs.Standing.{IsDefinable, books_of}
use Rattle.law_definitions.specs.Texts.{definition_in}
use Rattle.salt_engine.proofs.Counted.{cause-lost, counts-broken, same-cause}
use Rattle.salt_engine.proofs.InStage.{behind-lost, broken-there, never-else, stands-there}
use Rattle.salt_engine.proofs.LineAsked.{few-of}
use Rattle.salt_engine.proofs.LineDefines.{allows-defining, by-ok, defined-breaks, defined-lost, defined-performs, defining-plain, defining-unarmed, line-defines}
use Rattle.salt_engine.proofs.Netted.{definition-sent}
use Rattle.law_states.specs.Readings.{clash_by, items_by}
use Rattle.salt_engine.proofs.Outcome.{comes-broken, comes-lost, not-ok, stays-same}
use Rattle.salt_engine.proofs.Untold.{either-way, held-untold, untold-by}
use Rattle.salt_engine.proofs.engine.Engine.define.Goals as goal
use Rattle.salt_driver.proofs.Counted.{counts-cause}
use Rattle.salt_storage.specs.Writing.{OfDefinition}
use Rattle.std.proofs.Common.{ap, inl, subst, ◌∙◌}
use Rattle.std.specs.Prelude.{Err, List, [], refl, ℕ}

pub define-requires-clause-may : goal.define-requires-clause-may
define-requires-clause-may g c = λ told.
    let ready = c.requires.ready told in
    let s = ready.0 in
    let h = stands-there _ _ c.in-Going.scheduler c.in-Going.is ready.1 in
    let d = line-defines _ _ _ c.in-Going.scheduler s c.definitions_may_be_kept.ensures.table c.definitions_may_be_kept.ensures.program c.stands.ensures.sound c.args.line.now c.in_ok-asked.asked h c.in_ok-asked.ensures in
    (s.units.kept, h.stored.holding, (d.definition, ap definition_in c.text.ensures ∙ d.may.reads, d.may.may))

pub defined-requires-clause-definition : goal.defined-requires-clause-definition
defined-requires-clause-definition g c = c.requires.definition

pub defined-requires-clause-allowed : goal.defined-requires-clause-allowed
defined-requires-clause-allowed g c =
    either-way (IsDefinable c.args.line.now (books_of c.in-Going.scheduler)) (g.D.Disks.view c.args.disks.now).told
    (λ told. let r = c.requires.ready told in let h = stands-there _ _ c.in-Going.scheduler c.in-Going.is r.1 in allows-defining c.args.line.now c.in-Going.scheduler (r.0, h.stands, h.allowed))
    (λ untold. c.is_undefinable.ensures.fits (by-ok c.in_ok-is_undefinable.was c.if-branch.false) untold)

pub defined-requires-clause-parts : goal.defined-requires-clause-parts
defined-requires-clause-parts g c = few-of c.args.line.now c.requires.served

pub returns-in_ok-event-in-Ok-clause-comes : goal.returns-in_ok-event-in-Ok-clause-comes
returns-in_ok-event-in-Ok-clause-comes g c = λ s r k.
    let h = stands-there _ _ c.in-Going.scheduler c.in-Going.is k in
    let d = line-defines _ _ _ c.in-Going.scheduler s c.definitions_may_be_kept.ensures.table c.definitions_may_be_kept.ensures.program c.stands.ensures.sound c.args.line.now c.in_ok-asked.asked h c.in_ok-asked.ensures in
    defined-performs _ _ _ c.args.line.now c.in-Going.scheduler s h c.in_ok-asked.asked d _ _ c.defined.new.scheduler c.in_ok-event-in-Ok.event r
    (c.in-Ok.ensures.holds s.units.kept d.definition h.stored.holding (ap definition_in c.text.ensures ∙ d.may.reads) d.may.may) c.in-Ok.ensures.is_new
    (c.in_ok-event-in-Ok.ensures.does s r h.stands h.allowed)

pub returns-in_ok-event-in-Ok-clause-stays : goal.returns-in_ok-event-in-Ok-clause-stays
returns-in_ok-event-in-Ok-clause-stays g c = record { noted = refl; within = c.define.ensures.within }

pub returns-in_ok-event-in-Ok-clause-counts : goal.returns-in_ok-event-in-Ok-clause-counts
returns-in_ok-event-in-Ok-clause-counts g c = counts-cause _ _ _ _ (defining-unarmed c.args.line.now c.in_ok-event-in-Ok.event c.in_ok-event-in-Ok.ensures.event) c.in-Ok.ensures.cause

pub returns-in_err-event-in-Ok-clause-comes : goal.returns-in_err-event-in-Ok-clause-comes
returns-in_err-event-in-Ok-clause-comes g c = λ s r k.
    let h = stands-there _ _ c.in-Going.scheduler c.in-Going.is k in
    let d = line-defines _ _ _ c.in-Going.scheduler s c.definitions_may_be_kept.ensures.table c.definitions_may_be_kept.ensures.program c.stands.ensures.sound c.args.line.now c.in_ok-asked.asked h c.in_ok-asked.ensures in
    comes-broken _ _ _ _ _ _ _ s _ c.from_residual-in_err-event-in-Ok.result c.from_residual-in_err-event-in-Ok.ensures.1
    (defined-lost _ _ _ c.args.line.now c.in-Going.scheduler s h c.in_ok-asked.asked d _ _ _ r (behind-lost c.from_residual-in_err-event-in-Ok.result _ c.from_residual-in_err-event-in-Ok.ensures.1)
    (c.stands-in-Ok.ensures.stays _ (c.in-Ok.ensures.holds s.units.kept d.definition h.stored.holding (ap definition_in c.text.ensures ∙ d.may.reads) d.may.may)))

pub returns-in_err-event-in-Ok-clause-stays : goal.returns-in_err-event-in-Ok-clause-stays
returns-in_err-event-in-Ok-clause-stays g c = record { noted = refl; within = c.define.ensures.within }

pub returns-in_err-event-in-Ok-clause-counts : goal.returns-in_err-event-in-Ok-clause-counts
returns-in_err-event-in-Ok-clause-counts g c =
    counts-broken _ _ _ c.from_residual-in_err-event-in-Ok.result _ c.from_residual-in_err-event-in-Ok.ensures.1 (cause-lost _ _ c.in-Ok.ensures.cause)

pub returns-in-Err-clause-comes : goal.returns-in-Err-clause-comes
returns-in-Err-clause-comes g c = λ s r k.
    let h = stands-there _ _ c.in-Going.scheduler c.in-Going.is k in
    let d = line-defines _ _ _ c.in-Going.scheduler s c.definitions_may_be_kept.ensures.table c.definitions_may_be_kept.ensures.program c.stands.ensures.sound c.args.line.now c.in_ok-asked.asked h c.in_ok-asked.ensures in
    defined-breaks _ _ _ c.args.line.now c.in-Going.scheduler s h c.in_ok-asked.asked d _ _ _ r c.in-Err.halt (books_of c.in-Going.scheduler) refl
    (c.in-Err.ensures.leaves s.units.kept d.definition h.stored.holding (ap definition_in c.text.ensures ∙ d.may.reads) d.may.may)
    (λ dev is. subst (λ (t : List ℕ). g.S.Storage.fills (g.D.Disks.view c.define.new.disks) c.define.new.self (OfDefinition t) dev) c.text.ensures (c.in-Err.ensures.full dev (ap Err is)))
    (broken-there c.in-Err.halt _ c.in-Going.scheduler refl)

pub returns-in-Err-clause-stays : goal.returns-in-Err-clause-stays
returns-in-Err-clause-stays g c = record { noted = refl; within = c.define.ensures.within }

pub returns-in-Err-clause-counts : goal.returns-in-Err-clause-counts
returns-in-Err-clause-counts g c = counts-broken c.args.line.now _ _ (Err c.in-Err.halt) c.in-Err.halt refl c.in-Err.ensures.cause

pub returns-in_err-asked-clause-comes : goal.returns-in_err-asked-clause-comes
returns-in_err-asked-clause-comes g c = λ s r k.
    let h = stands-there _ _ c.in-Going.scheduler c.in-Going.is k in
    comes-lost _ _ _ _ _ _ _ s c.from_residual-in_err-asked.result c.from_residual-in_err-asked.ensures.1 (c.stands.ensures.stays s.units.kept h.stored.holding)
    (record { there = behind-lost c.from_residual-in_err-asked.result _ c.from_residual-in_err-asked.ensures.1; flies = inl c.requires.none })

pub returns-in_err-asked-clause-stays : goal.returns-in_err-asked-clause-stays
returns-in_err-asked-clause-stays g c = stays-same _ _ _

pub returns-in_err-asked-clause-counts : goal.returns-in_err-asked-clause-counts
returns-in_err-asked-clause-counts g c = counts-broken _ _ _ c.from_residual-in_err-asked.result _ c.from_residual-in_err-asked.ensures.1 (cause-lost _ _ (same-cause (g.D.Disks.view c.args.disks.now)))

pub returns-in_ok-event-in-Ok-clause-sent : goal.returns-in_ok-event-in-Ok-clause-sent
returns-in_ok-event-in-Ok-clause-sent g c = λ s r k. c.in-Ok.ensures.net ∙ definition-sent (g.S.Storage.asked c.args.self.now.storage) c.args.line.now s (clash_by s) (items_by s r) _ c.requires.definition

pub returns-in_err-event-in-Ok-clause-sent : goal.returns-in_err-event-in-Ok-clause-sent
returns-in_err-event-in-Ok-clause-sent g c = not-ok _ _ c.from_residual-in_err-event-in-Ok.result c.from_residual-in_err-event-in-Ok.ensures.1

pub returns-in_err-asked-clause-sent : goal.returns-in_err-asked-clause-sent
returns-in_err-asked-clause-sent g c = not-ok _ _ c.from_residual-in_err-asked.result c.from_residual-in_err-asked.ensures.1

pub reject-requires-clause-untold : goal.reject-requires-clause-untold
reject-requires-clause-untold g c = untold-by _ (λ told. never-else _ c.args.self.now.stage c.in_default.not-Going (c.requires.ready told).1)

pub reject-requires-clause-able : goal.reject-requires-clause-able
reject-requires-clause-able g c = c.requires.able

pub returns-in_default-clause-comes : goal.returns-in_default-clause-comes
returns-in_default-clause-comes g c = λ s r k. absurd (never-else _ c.args.self.now.stage c.in_default.not-Going k)

pub returns-in_default-clause-stays : goal.returns-in_default-clause-stays
returns-in_default-clause-stays g c = record { noted = refl; within = c.reject.ensures.within }

pub returns-in_default-clause-counts : goal.returns-in_default-clause-counts
returns-in_default-clause-counts g c = counts-cause _ _ _ [] refl c.reject.ensures.cause

pub returns-in_default-clause-able : goal.returns-in_default-clause-able
returns-in_default-clause-able g c = c.reject.ensures.able

pub is_undefinable-requires : goal.is_undefinable-requires
is_undefinable-requires g c = few-of c.args.line.now c.requires.served

pub reject-requires-then-branch-clause-untold : goal.reject-requires-then-branch-clause-untold
reject-requires-then-branch-clause-untold g c = c.is_undefinable.ensures.untold (by-ok c.in_ok-is_undefinable.was c.if-branch.true)

pub reject-requires-then-branch-clause-able : goal.reject-requires-then-branch-clause-able
reject-requires-then-branch-clause-able g c = c.requires.able

pub returns-then-branch-clause-comes : goal.returns-then-branch-clause-comes
returns-then-branch-clause-comes g c = λ s r k.
    let h = stands-there _ _ c.in-Going.scheduler c.in-Going.is k in
    absurd (held-untold _ (c.is_undefinable.ensures.untold (by-ok c.in_ok-is_undefinable.was c.if-branch.true)) c.stands.ensures.told s.units.kept h.stored.holding)

pub returns-then-branch-clause-stays : goal.returns-then-branch-clause-stays
returns-then-branch-clause-stays g c = record { noted = refl; within = c.reject-then-branch.ensures.within }

pub returns-then-branch-clause-counts : goal.returns-then-branch-clause-counts
returns-then-branch-clause-counts g c = counts-cause _ _ _ [] refl c.reject-then-branch.ensures.cause

pub returns-then-branch-clause-able : goal.returns-then-branch-clause-able
returns-then-branch-clause-able g c = c.reject-then-branch.ensures.able

pub returns-in_err-is_undefinable-clause-comes : goal.returns-in_err-is_undefinable-clause-comes
returns-in_err-is_undefinable-clause-comes g c = λ s r k.
    let h = stands-there _ _ c.in-Going.scheduler c.in-Going.is k in
    comes-lost _ _ _ _ _ _ _ s c.from_residual.result c.from_residual.ensures.1 (c.stands.ensures.stays s.units.kept h.stored.holding)
    (record { there = behind-lost c.from_residual.result _ c.from_residual.ensures.1; flies = inl c.requires.none })

pub returns-in_err-is_undefinable-clause-stays : goal.returns-in_err-is_undefinable-clause-stays
returns-in_err-is_undefinable-clause-stays g c = stays-same _ _ _

pub returns-in_err-is_undefinable-clause-counts : goal.returns-in_err-is_undefinable-clause-counts
returns-in_err-is_undefinable-clause-counts g c = counts-broken _ _ _ c.from_residual.result _ c.from_residual.ensures.1 (cause-lost _ _ (same-cause (g.D.Disks.view c.args.disks.now)))

pub returns-in_err-is_undefinable-clause-sent : goal.returns-in_err-is_undefinable-clause-sent
returns-in_err-is_undefinable-clause-sent g c = not-ok _ _ c.from_residual.result c.from_residual.ensures.1

pub returns-in_err-is_undefinable-clause-able : goal.returns-in_err-is_undefinable-clause-able
returns-in_err-is_undefinable-clause-able g c = c.requires.able

pub returns-in_err-is_undefinable-clause-plain : goal.returns-in_err-is_undefinable-clause-plain
returns-in_err-is_undefinable-clause-plain g c = not-ok _ _ c.from_residual.result c.from_residual.ensures.1

pub define-requires-clause-able : goal.define-requires-clause-able
define-requires-clause-able g c = c.requires.able

pub returns-in_ok-event-in-Ok-clause-able : goal.returns-in_ok-event-in-Ok-clause-able
returns-in_ok-event-in-Ok-clause-able g c = c.define.ensures.able

pub returns-in_ok-event-in-Ok-clause-plain : goal.returns-in_ok-event-in-Ok-clause-plain
returns-in_ok-event-in-Ok-clause-plain g c = defining-plain c.in_ok-event-in-Ok.event c.in_ok-event-in-Ok.ensures.event

pub returns-in_err-event-in-Ok-clause-able : goal.returns-in_err-event-in-Ok-clause-able
returns-in_err-event-in-Ok-clause-able g c = c.define.ensures.able

pub returns-in_err-event-in-Ok-clause-plain : goal.returns-in_err-event-in-Ok-clause-plain
returns-in_err-event-in-Ok-clause-plain g c = not-ok _ _ c.from_residual-in_err-event-in-Ok.result c.from_residual-in_err-event-in-Ok.ensures.1

pub returns-in-Err-clause-able : goal.returns-in-Err-clause-able
returns-in-Err-clause-able g c = c.define.ensures.able

pub returns-in_err-asked-clause-able : goal.returns-in_err-asked-clause-able
returns-in_err-asked-clause-able g c = c.requires.able

pub returns-in_err-asked-clause-plain : goal.returns-in_err-asked-clause-plain
returns-in_err-asked-clause-plain g c = not-ok _ _ c.from_residual-in_err-asked.result c.from_residual-in_err-asked.ensures.1
