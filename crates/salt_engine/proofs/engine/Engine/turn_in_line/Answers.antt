use Rattle.salt_engine.proofs.Netted.{other-sent}
use Rattle.salt_engine.proofs.Counted.{cause-broken, cause-lost, same-cause}
use Rattle.salt_engine.proofs.InStage.{behind-lost, never-else, stands-there}
use Rattle.salt_engine.proofs.LineChosen.{to-serve}
use Rattle.salt_engine.proofs.Outcome.{comes-lost, comes-same, not-ok, on-ok, stays-same}
use Rattle.salt_engine.proofs.Plain.{go-plain}
use Rattle.salt_engine.proofs.Untold.{untold-by}
use Rattle.salt_engine.proofs.engine.Engine.turn_in_line.Goals as goal
use Rattle.law_states.specs.Readings.{clash_by}
use Rattle.law_states.specs.States.{turned_to}
use Rattle.salt_scheduler.proofs.SoundFacts.{reads}
use Rattle.std.proofs.Common.{inl, refl}

pub perform-requires-clause-callable : goal.perform-requires-clause-callable
perform-requires-clause-callable g c = c.requires.callable

pub perform-requires-clause-answers : goal.perform-requires-clause-answers
perform-requires-clause-answers g c = c.requires.answers

pub perform-requires-clause-none : goal.perform-requires-clause-none
perform-requires-clause-none g c = c.requires.none

pub perform-requires-clause-ready : goal.perform-requires-clause-ready
perform-requires-clause-ready g c = λ told.
    let ready = c.requires.ready told in
    let s = ready.0 in
    let h = stands-there _ _ c.in-Going.scheduler c.in-Going.is ready.1 in
    let t = turned_to c.args.base s in
    let r = reads t h.turns.serves.sound in (
      t,
      to-serve _ _ _ _ _ t (h.played r) h.turns.serves.phase (go-plain t.units (clash_by t) c.args.base) (c.in_ok-coming.ensures s r h.turns)
          (record { holding = h.stored.holding; new = h.stored.new }),
    )

pub returns-clause-comes : goal.returns-clause-comes
returns-clause-comes g c = λ s r k.
    let h = stands-there _ _ c.in-Going.scheduler c.in-Going.is k in
    let t = turned_to c.args.base s in
    let b = c.in_ok-coming.ensures s r h.turns in
    comes-same _ _ _ _ _ _ _ _ t c.perform.result b.meant
    (c.perform.ensures.comes t (to-serve _ _ _ _ _ t (h.played r) h.turns.serves.phase (go-plain t.units (clash_by t) c.args.base) b (record { holding = h.stored.holding; new = h.stored.new })))

pub returns-clause-stays : goal.returns-clause-stays
returns-clause-stays g c = c.perform.ensures.stays

pub returns-clause-cause : goal.returns-clause-cause
returns-clause-cause g c = c.perform.ensures.cause

pub returns-in_err-coming-clause-comes : goal.returns-in_err-coming-clause-comes
returns-in_err-coming-clause-comes g c = λ s r k.
    let h = stands-there _ _ c.in-Going.scheduler c.in-Going.is k in
    comes-lost _ _ _ _ _ _ _ (turned_to c.args.base s) c.from_residual.result c.from_residual.ensures.1 (c.stands.ensures.stays s.units.kept h.stored.holding)
    (record { there = behind-lost c.from_residual.result _ c.from_residual.ensures.1; flies = inl c.requires.none })

pub returns-in_err-coming-clause-stays : goal.returns-in_err-coming-clause-stays
returns-in_err-coming-clause-stays g c = stays-same _ _ _

pub returns-in_err-coming-clause-cause : goal.returns-in_err-coming-clause-cause
returns-in_err-coming-clause-cause g c = cause-broken _ _ c.from_residual.result _ c.from_residual.ensures.1 (cause-lost _ _ (same-cause (g.D.Disks.view c.args.disks.now)))

pub returns-clause-sent : goal.returns-clause-sent
returns-clause-sent g c = on-ok c.perform.result _ _ (λ sent s r k.
    let h = stands-there _ _ c.in-Going.scheduler c.in-Going.is k in
    let t = turned_to c.args.base s in
    let b = c.in_ok-coming.ensures s r h.turns in
    other-sent (g.S.Storage.asked c.args.self.now.storage) _ _ _ _ t b.meant
    (sent t (to-serve _ _ _ _ _ t (h.played r) h.turns.serves.phase (go-plain t.units (clash_by t) c.args.base) b (record { holding = h.stored.holding; new = h.stored.new })))) c.perform.ensures.sent

pub returns-in_err-coming-clause-sent : goal.returns-in_err-coming-clause-sent
returns-in_err-coming-clause-sent g c = not-ok _ _ c.from_residual.result c.from_residual.ensures.1

pub reject-requires-clause-untold : goal.reject-requires-clause-untold
reject-requires-clause-untold g c = untold-by _ (λ told. never-else _ c.args.self.now.stage c.in_default.not-Going (c.requires.ready told).1)

pub reject-requires-clause-able : goal.reject-requires-clause-able
reject-requires-clause-able g c = c.requires.able

pub returns-in_default-clause-comes : goal.returns-in_default-clause-comes
returns-in_default-clause-comes g c = λ s r k. absurd (never-else _ c.args.self.now.stage c.in_default.not-Going k)

pub returns-in_default-clause-stays : goal.returns-in_default-clause-stays
returns-in_default-clause-stays g c = record { noted = refl; within = c.reject.ensures.within }

pub returns-in_default-clause-cause : goal.returns-in_default-clause-cause
returns-in_default-clause-cause g c = c.reject.ensures.cause

pub returns-in_default-clause-able : goal.returns-in_default-clause-able
returns-in_default-clause-able g c = c.reject.ensures.able

pub perform-requires-clause-able : goal.perform-requires-clause-able
perform-requires-clause-able g c = c.requires.able

pub returns-clause-able : goal.returns-clause-able
returns-clause-able g c = c.perform.ensures.able

pub returns-clause-plain : goal.returns-clause-plain
returns-clause-plain g c = c.perform.ensures.plain

pub returns-in_err-coming-clause-able : goal.returns-in_err-coming-clause-able
returns-in_err-coming-clause-able g c = c.requires.able

pub returns-in_err-coming-clause-plain : goal.returns-in_err-coming-clause-plain
returns-in_err-coming-clause-plain g c = not-ok _ _ c.from_residual.result c.from_residual.ensures.1
