use Rattle.std.specs.Prelude.{Some, []}
use Rattle.salt_model.specs.declared.events.Event.TheVariants.{Refused}
use Rattle.salt_engine.proofs.Netted.{other-sent, refused-sent}
use Rattle.salt_engine.proofs.Counted.{cause-lost, counts-broken, same-cause}
use Rattle.salt_engine.proofs.InStage.{behind-lost, never-else, stands-there}
use Rattle.salt_engine.proofs.LineAsked.{asks-line, begun-unrefused, counts-same, err-unrefused, few-of, is-refused, refused-performs, unrefused}
use Rattle.salt_engine.proofs.Outcome.{comes-lost, comes-same, not-ok, on-ok, stays-same}
use Rattle.salt_engine.proofs.Untold.{event-plain, event-unarmed, untold-by}
use Rattle.salt_engine.proofs.engine.Engine.ask_line.Goals as goal
use Rattle.salt_driver.proofs.Counted.{counts-cause}
use Rattle.law_states.specs.States.{asked_of}
use Rattle.salt_model.specs.Trace.{Tree}
use Rattle.salt_scheduler.proofs.SoundFacts.{reads}
use Rattle.std.proofs.Common.{inl, refl, sym, ◌∙◌}

pub ask-requires : goal.ask-requires
ask-requires g c = few-of c.args.line.now c.requires.served

pub begin_line-requires-clause-callable : goal.begin_line-requires-clause-callable
begin_line-requires-clause-callable g c = c.requires.callable

pub begin_line-requires-clause-answers : goal.begin_line-requires-clause-answers
begin_line-requires-clause-answers g c = c.requires.answers

pub begin_line-requires-clause-none : goal.begin_line-requires-clause-none
begin_line-requires-clause-none g c = c.requires.none

pub begin_line-requires-clause-ready : goal.begin_line-requires-clause-ready
begin_line-requires-clause-ready g c = λ told.
    let ready = c.requires.ready told in
    let s = ready.0 in
    let h = stands-there _ _ c.in-Going.scheduler c.in-Going.is ready.1 in (
      asked_of (Tree c.args.line.now) s,
      asks-line _ _ _ c.args.line.now _ s h _ (sym (c.in_ok-refusal.ensures s h.stands (h.can_stop ∙ sym c.can_stop.ensures) (ready.2 ∙ sym c.over_net.ensures) h.distinct).0 ∙ c.in-None.is) (c.in_ok-refusal.ensures s h.stands (h.can_stop ∙ sym c.can_stop.ensures) (ready.2 ∙ sym c.over_net.ensures) h.distinct).1,
    )

pub returns-in-Some-clause-comes : goal.returns-in-Some-clause-comes
returns-in-Some-clause-comes g c = λ s r k over.
    let h = stands-there _ _ c.in-Going.scheduler c.in-Going.is k in
    let asks = c.in_ok-refusal.ensures s h.stands (h.can_stop ∙ sym c.can_stop.ensures) (over ∙ sym c.over_net.ensures) h.distinct in
    refused-performs _ _ _ c.args.line.now _ s h c.in-Some.refusal (sym asks.0 ∙ c.in-Some.is) _ _ _ _ c.refuse.new.self refl c.refuse.ensures.does asks.1 c.requires.none r

pub returns-in-Some-clause-stays : goal.returns-in-Some-clause-stays
returns-in-Some-clause-stays g c = stays-same _ _ _

pub returns-in-Some-clause-counts : goal.returns-in-Some-clause-counts
returns-in-Some-clause-counts g c = counts-same _ _ (event-unarmed c.args.line.now c.refuse.result (Refused c.in-Some.refusal) c.refuse.ensures.event refl)

pub returns-in-None-clause-comes : goal.returns-in-None-clause-comes
returns-in-None-clause-comes g c = λ s r k over.
    let h = stands-there _ _ c.in-Going.scheduler c.in-Going.is k in
    let none = sym (c.in_ok-refusal.ensures s h.stands (h.can_stop ∙ sym c.can_stop.ensures) (over ∙ sym c.over_net.ensures) h.distinct).0 ∙ c.in-None.is in
    comes-same _ _ _ _ _ _ _ _ (asked_of (Tree c.args.line.now) s) c.begin_line.result (sym (unrefused _ _ _ c.args.line.now _ s h none r))
    (c.begin_line.ensures.comes (asked_of (Tree c.args.line.now) s) r (asks-line _ _ _ c.args.line.now _ s h _ none (c.in_ok-refusal.ensures s h.stands (h.can_stop ∙ sym c.can_stop.ensures) (over ∙ sym c.over_net.ensures) h.distinct).1))

pub returns-in-None-clause-stays : goal.returns-in-None-clause-stays
returns-in-None-clause-stays g c = c.begin_line.ensures.stays

pub returns-in-None-clause-counts : goal.returns-in-None-clause-counts
returns-in-None-clause-counts g c = c.begin_line.ensures.counts

pub returns-in_err-refusal-clause-comes : goal.returns-in_err-refusal-clause-comes
returns-in_err-refusal-clause-comes g c = λ s r k over.
    let h = stands-there _ _ c.in-Going.scheduler c.in-Going.is k in
    comes-lost _ _ _ _ _ _ _ (asked_of (Tree c.args.line.now) s) c.from_residual.result c.from_residual.ensures.1 (c.stands.ensures.stays s.units.kept h.stored.holding)
    (record { there = behind-lost c.from_residual.result _ c.from_residual.ensures.1; flies = inl c.requires.none })

pub returns-in_err-refusal-clause-stays : goal.returns-in_err-refusal-clause-stays
returns-in_err-refusal-clause-stays g c = stays-same _ _ _

pub returns-in_err-refusal-clause-counts : goal.returns-in_err-refusal-clause-counts
returns-in_err-refusal-clause-counts g c = counts-broken _ _ _ c.from_residual.result _ c.from_residual.ensures.1 (cause-lost _ _ (same-cause (g.D.Disks.view c.args.disks.now)))

pub returns-in-None-clause-refused : goal.returns-in-None-clause-refused
returns-in-None-clause-refused g c = λ refusal is told.
    let ready = c.requires.ready told in
    let s = ready.0 in
    let h = stands-there _ _ c.in-Going.scheduler c.in-Going.is ready.1 in
    let t = asked_of (Tree c.args.line.now) s in
    let asks = c.in_ok-refusal.ensures s h.stands (h.can_stop ∙ sym c.can_stop.ensures) (ready.2 ∙ sym c.over_net.ensures) h.distinct in
    let r = reads t h.serves.sound in
    absurd (begun-unrefused _ _ _ _ _ t r c.args.line.now c.begin_line.result (c.begin_line.ensures.comes t r (asks-line _ _ _ c.args.line.now _ s h _ (sym asks.0 ∙ c.in-None.is) asks.1)) refusal is)

pub returns-in_err-refusal-clause-refused : goal.returns-in_err-refusal-clause-refused
returns-in_err-refusal-clause-refused g c = λ refusal is told. err-unrefused _ _ c.from_residual.result c.from_residual.ensures.1 refusal is

pub returns-in-Some-clause-sent : goal.returns-in-Some-clause-sent
returns-in-Some-clause-sent g c = λ s r k over.
    let h = stands-there _ _ c.in-Going.scheduler c.in-Going.is k in
    let t = asked_of (Tree c.args.line.now) s in
    let asks = c.in_ok-refusal.ensures s h.stands (h.can_stop ∙ sym c.can_stop.ensures) (over ∙ sym c.over_net.ensures) h.distinct in
    other-sent (g.S.Storage.asked c.args.self.now.storage) _ _ (Some (Refused c.in-Some.refusal)) _ t (sym (is-refused _ _ _ c.args.line.now _ s h c.in-Some.refusal (sym asks.0 ∙ c.in-Some.is) r)) (refused-sent (g.S.Storage.asked c.args.self.now.storage) c.in-Some.refusal t.units _)

pub returns-in-None-clause-sent : goal.returns-in-None-clause-sent
returns-in-None-clause-sent g c = on-ok c.begin_line.result _ _ (λ sent s r k over.
    let h = stands-there _ _ c.in-Going.scheduler c.in-Going.is k in
    let t = asked_of (Tree c.args.line.now) s in
    let asks = c.in_ok-refusal.ensures s h.stands (h.can_stop ∙ sym c.can_stop.ensures) (over ∙ sym c.over_net.ensures) h.distinct in
    let none = sym asks.0 ∙ c.in-None.is in
    other-sent (g.S.Storage.asked c.args.self.now.storage) _ _ _ _ t (sym (unrefused _ _ _ c.args.line.now _ s h none r)) (sent t r (asks-line _ _ _ c.args.line.now _ s h _ none asks.1))) c.begin_line.ensures.sent

pub returns-in_err-refusal-clause-sent : goal.returns-in_err-refusal-clause-sent
returns-in_err-refusal-clause-sent g c = not-ok _ _ c.from_residual.result c.from_residual.ensures.1

pub reject-requires-clause-untold : goal.reject-requires-clause-untold
reject-requires-clause-untold g c = untold-by _ (λ told. never-else _ c.args.self.now.stage c.in_default.not-Going (c.requires.ready told).1)

pub reject-requires-clause-able : goal.reject-requires-clause-able
reject-requires-clause-able g c = c.requires.able

pub returns-in_default-clause-comes : goal.returns-in_default-clause-comes
returns-in_default-clause-comes g c = λ s r k over. absurd (never-else _ c.args.self.now.stage c.in_default.not-Going k)

pub returns-in_default-clause-stays : goal.returns-in_default-clause-stays
returns-in_default-clause-stays g c = record { noted = refl; within = c.reject.ensures.within }

pub returns-in_default-clause-counts : goal.returns-in_default-clause-counts
returns-in_default-clause-counts g c = counts-cause _ _ _ [] refl c.reject.ensures.cause

pub returns-in_default-clause-able : goal.returns-in_default-clause-able
returns-in_default-clause-able g c = c.reject.ensures.able

pub returns-in_default-clause-refused : goal.returns-in_default-clause-refused
returns-in_default-clause-refused g c = λ refusal is told. absurd (never-else _ c.args.self.now.stage c.in_default.not-Going (c.requires.ready told).1)

pub begin_line-requires-clause-served : goal.begin_line-requires-clause-served
begin_line-requires-clause-served g c = c.requires.served

pub begin_line-requires-clause-able : goal.begin_line-requires-clause-able
begin_line-requires-clause-able g c = c.requires.able

pub returns-in-Some-clause-able : goal.returns-in-Some-clause-able
returns-in-Some-clause-able g c = c.requires.able

pub returns-in-Some-clause-plain : goal.returns-in-Some-clause-plain
returns-in-Some-clause-plain g c = event-plain _ _ c.refuse.ensures.event refl

pub returns-in-Some-clause-refused : goal.returns-in-Some-clause-refused
returns-in-Some-clause-refused g c = λ refusal is told. refl

pub returns-in-None-clause-able : goal.returns-in-None-clause-able
returns-in-None-clause-able g c = c.begin_line.ensures.able

pub returns-in-None-clause-plain : goal.returns-in-None-clause-plain
returns-in-None-clause-plain g c = c.begin_line.ensures.plain

pub returns-in_err-refusal-clause-able : goal.returns-in_err-refusal-clause-able
returns-in_err-refusal-clause-able g c = c.requires.able

pub returns-in_err-refusal-clause-plain : goal.returns-in_err-refusal-clause-plain
returns-in_err-refusal-clause-plain g c = not-ok _ _ c.from_residual.result c.from_residual.ensures.1
