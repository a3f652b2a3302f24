use Rattle.law_states.specs.States.{asked_of}
use Rattle.salt_engine.proofs.Netted.{halts-net, lies-net, next-sent, refused-sent}
use Rattle.salt_engine.proofs.AskDone.{asked-there, reads-here}
use Rattle.salt_engine.proofs.Counted.{cause-lost, cause-told, same-cause}
use Rattle.salt_engine.proofs.Flying.{flies-none, flight-next}
use Rattle.salt_engine.proofs.Halting.{memory-as}
use Rattle.salt_ast.specs.declared.lines.Line.TheVariants.{Nothing}
use Rattle.salt_engine.proofs.LineAsked.{counts-same, rejected-performs}
use Rattle.salt_engine.proofs.Untold.{event-plain, event-unarmed, untold-by}
use Rattle.salt_model.specs.declared.events.Event.TheVariants.{Refused}
use Rattle.salt_engine.proofs.LineGoes.{asked-at, asked-played, asked-serves}
use Rattle.salt_engine.proofs.SayDone.{never-fallen}
use Rattle.salt_engine.proofs.Stages.{held-now, seen-at, serves-now, serving-of}
use Rattle.salt_engine.proofs.stepping.EngineStepping.ask_rejected.Goals as goal
use Rattle.salt_engine.specs.declared.stage.Stage.TheVariants.{Going}
use Rattle.salt_model.specs.Trace.{Rejected}
use Rattle.salt_scheduler.specs.Standing.{books_of}
use Rattle.salt_driver.proofs.Counted.{counts-cause}
use Rattle.salt_storage.specs.declared.halt.Halt.TheVariants.{Memory}
use Rattle.std.proofs.Common.{inl, refl}
use Rattle.std.specs.Prelude.{[]}

pub returns-in-Ok-clause-moves : goal.returns-in-Ok-clause-moves
returns-in-Ok-clause-moves g c = λ p sound at.
    let view = g.D.Disks.view c.args.disks.now in
    let holds = g.S.Storage.holds view c.args.self.now.storage in
    let is_new = g.S.Storage.is_new view c.args.self.now.storage in
    let asked = Rejected c.args.refusal in
    let r = reads-here p sound in
    let h = seen-at _ _ _ _ _ p.state c.in-Going.is at.state.0.seen in
    let d = rejected-performs holds is_new c.args.refusal c.in-Going.scheduler c.reject-2.new.scheduler p _ _ r c.in-Ok.ensures.rejects h.0 (asked-serves asked p sound at.idle) (asked-played asked p sound at.idle tt r) h.1
    (flies-none c.args.self.now.in_flight p.state.units at.state.0.flies) in
    asked-there _ asked p sound at.idle r _ (
      asked-at asked p sound at.idle holds is_new _ _ _ (Going c.reject-2.new.scheduler) _ _ r d at.state.0.can_stop refl refl,
      next-sent _ _ _ _ _ _ p.state (asked_of asked p.state) refl refl refl d.told (refused-sent (g.S.Storage.asked c.args.self.now.storage) c.args.refusal (asked_of asked p.state).units _) at.state.1,
    ) d.told

pub returns-in-Ok-clause-counts : goal.returns-in-Ok-clause-counts
returns-in-Ok-clause-counts g c = counts-same _ _ (event-unarmed Nothing _ (Refused c.args.refusal) c.in-Ok.ensures.event refl)

pub returns-in-Err-clause-halts : goal.returns-in-Err-clause-halts
returns-in-Err-clause-halts g c = λ p sound at. inl (
  c.break_by.ensures.halt,
  halts-net _ _ _ _ _ _ p (lies-net _ _ _ at.state.1.over refl)
      (memory-as books_of _ _ _ _ _ _ _ _ c.break_by.result p p.state.units.kept c.break_by.ensures.halt (flight-next p sound.trace sound.keeps (never-fallen p at.idle.serves))
      (c.stands.ensures.stays p.state.units.kept (held-now _ _ _ p.state at.state.0.seen)) (inl refl)
      (record { there = c.break_by.ensures.broken; flies = inl (flies-none c.args.self.now.in_flight p.state.units at.state.0.flies) })),
)

pub returns-in-Err-clause-counts : goal.returns-in-Err-clause-counts
returns-in-Err-clause-counts g c =
    counts-cause _ _ _ [] refl (cause-told _ _ Memory c.break_by.result c.break_by.ensures.halt (cause-lost _ _ (same-cause (g.D.Disks.view c.args.disks.now))))

pub reject-requires-clause-untold : goal.reject-requires-clause-untold
reject-requires-clause-untold g c = untold-by _ (λ told.
    let r = c.requires.stands told in
    let s = serving-of c.args.self.now.stage (serves-now _ _ c.args.self.now.stage _ r.0.state r.2.state.0.seen) in
    c.in_default.not-Going s.0 s.1)

pub reject-requires-clause-able : goal.reject-requires-clause-able
reject-requires-clause-able g c = c.requires.able

pub returns-in_default-clause-halts : goal.returns-in_default-clause-halts
returns-in_default-clause-halts g c = λ p sound at.
    let s = serving-of c.args.self.now.stage (serves-now _ _ c.args.self.now.stage _ p.state at.state.0.seen) in
    absurd (c.in_default.not-Going s.0 s.1)

pub returns-in_default-clause-unwritten : goal.returns-in_default-clause-unwritten
returns-in_default-clause-unwritten g c = λ told.
    let r = c.requires.stands told in
    let s = serving-of c.args.self.now.stage (serves-now _ _ c.args.self.now.stage _ r.0.state r.2.state.0.seen) in
    absurd (c.in_default.not-Going s.0 s.1)

pub returns-in_default-clause-counts : goal.returns-in_default-clause-counts
returns-in_default-clause-counts g c = counts-cause _ _ _ [] refl c.reject.ensures.cause

pub returns-in_default-clause-within : goal.returns-in_default-clause-within
returns-in_default-clause-within g c = c.reject.ensures.within

pub returns-in_default-clause-able : goal.returns-in_default-clause-able
returns-in_default-clause-able g c = c.reject.ensures.able

pub returns-in-Ok-clause-plain : goal.returns-in-Ok-clause-plain
returns-in-Ok-clause-plain g c = event-plain _ _ c.in-Ok.ensures.event refl

pub returns-in-Ok-clause-able : goal.returns-in-Ok-clause-able
returns-in-Ok-clause-able g c = c.requires.able

pub returns-in-Err-clause-able : goal.returns-in-Err-clause-able
returns-in-Err-clause-able g c = c.requires.able
