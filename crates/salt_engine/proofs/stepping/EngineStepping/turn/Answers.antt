use Rattle.law_states.specs.Points.{Turn}
use Rattle.law_states.specs.States.{turned_to}
use Rattle.salt_engine.proofs.Netted.{halts-there, lies-net, next-sent, turned-over}
use Rattle.salt_engine.proofs.AskDone.{reads-here, to-turn, turned-fewer, turned-halts, turned-sees, turned-there}
use Rattle.salt_engine.proofs.Counted.{cause-told}
use Rattle.salt_engine.proofs.InStage.{broken-out}
use Rattle.salt_engine.proofs.Stages.{held-now}
use Rattle.salt_engine.proofs.Untold.{plain-of-segment, plain-unarmed-next}
use Rattle.salt_engine.proofs.stepping.EngineStepping.turn.Goals as goal
use Rattle.salt_driver.proofs.Counted.{counts-cause}
use Rattle.std.proofs.Common.{[], inr, refl, ◌∙◌}

pub turn_in_line-requires-clause-callable : goal.turn_in_line-requires-clause-callable
turn_in_line-requires-clause-callable g c = c.requires.callable

pub turn_in_line-requires-clause-answers : goal.turn_in_line-requires-clause-answers
turn_in_line-requires-clause-answers g c = c.requires.answers

pub turn_in_line-requires-clause-none : goal.turn_in_line-requires-clause-none
turn_in_line-requires-clause-none g c = refl

pub turn_in_line-requires-clause-ready : goal.turn_in_line-requires-clause-ready
turn_in_line-requires-clause-ready g c = λ told.
    let r = c.requires.stands told in
    let p = r.0 in
    let at = r.2 in
    (p.state, to-turn _ _ c.args.self.now.stage c.args.line.now c.args.base p r.1 at.serves at.line at.comes r.3 at.state.0.seen)

pub returns-in-Ok-clause-moves : goal.returns-in-Ok-clause-moves
returns-in-Ok-clause-moves g c = λ p sound at turn.
    let r = reads-here p sound in
    let d = c.in-Ok.ensures.comes p.state r (to-turn _ _ c.args.self.now.stage c.args.line.now c.args.base p sound at.serves at.line at.comes turn at.state.0.seen) in
    turned-there _ c.args.line.now c.args.base p sound at.serves at.comes turn r c.in-Ok.next at.line (
      turned-sees _ _ _ _ _ _ _ _ _ c.in-Ok.next c.args.base p.state d at.state.0.can_stop c.turn_in_line.ensures.stays.within.shape.can_stop at.state.0.line c.turn_in_line.ensures.stays.noted,
      next-sent _ _ _ _ _ _ p.state (turned_to c.args.base p.state) refl refl c.turn_in_line.ensures.stays.within.asked d.told
          (c.in-Ok.ensures.sent p.state r (to-turn _ _ c.args.self.now.stage c.args.line.now c.args.base p sound at.serves at.line at.comes turn at.state.0.seen)) at.state.1,
    ) d.told

pub returns-in-Ok-clause-fewer : goal.returns-in-Ok-clause-fewer
returns-in-Ok-clause-fewer g c = λ told.
    let w = c.requires.stands told in
    let p = w.0 in
    let sound = w.1 in
    let at = w.2 in
    let turn = w.3 in
    let r = reads-here p sound in
    let d = c.in-Ok.ensures.comes p.state r (to-turn _ _ c.args.self.now.stage c.args.line.now c.args.base p sound at.serves at.line at.comes turn at.state.0.seen) in
    turned-fewer _ _ _ _ _ _ c.args.base c.in-Ok.next p.state turn at.state.0.seen d.sees

pub returns-in-Ok-clause-counts : goal.returns-in-Ok-clause-counts
returns-in-Ok-clause-counts g c = counts-cause _ _ _ _ (plain-unarmed-next c.args.line.now c.in-Ok.next c.in-Ok.ensures.plain) c.in-Ok.ensures.cause

pub returns-in-Ok-clause-within : goal.returns-in-Ok-clause-within
returns-in-Ok-clause-within g c = c.turn_in_line.ensures.stays.within

pub returns-in-Err-clause-halts : goal.returns-in-Err-clause-halts
returns-in-Err-clause-halts g c = λ p sound at turn.
    let r = reads-here p sound in
    let b = broken-out _ _ c.in-Err.halt c.break_by.result _ _ _ _ _ c.break_by.ensures.halt c.break_by.ensures.broken
    (c.in-Err.ensures.comes p.state r (to-turn _ _ c.args.self.now.stage c.args.line.now c.args.base p sound at.serves at.line at.comes turn at.state.0.seen)) in
    let kept = c.stands.ensures.sound p.state.units.kept (held-now _ _ _ p.state at.state.0.seen) in
    inr (halts-there _ _ _ _ _ _ p (Turn c.args.base) (λ q moves. lies-net _ _ _ (turned-over c.args.base p q moves ∙ at.state.1.over) c.turn_in_line.ensures.stays.within.asked) (turned-halts _ _ _ _ c.break_by.result _ _ _ _ _ p sound at.state.0.can_stop c.turn_in_line.ensures.stays.within.shape.can_stop kept c.args.base at.serves at.comes turn r b (c.turn_in_line.ensures.stays.noted ∙ at.state.0.line)))

pub returns-in-Err-clause-counts : goal.returns-in-Err-clause-counts
returns-in-Err-clause-counts g c = counts-cause _ _ _ [] refl (cause-told _ _ c.in-Err.halt c.break_by.result c.break_by.ensures.halt c.in-Err.ensures.cause)

pub returns-in-Err-clause-within : goal.returns-in-Err-clause-within
returns-in-Err-clause-within g c = c.turn_in_line.ensures.stays.within

pub turn_in_line-requires-clause-able : goal.turn_in_line-requires-clause-able
turn_in_line-requires-clause-able g c = c.requires.able

pub returns-in-Ok-clause-able : goal.returns-in-Ok-clause-able
returns-in-Ok-clause-able g c = c.turn_in_line.ensures.able

pub returns-in-Ok-clause-plain : goal.returns-in-Ok-clause-plain
returns-in-Ok-clause-plain g c = plain-of-segment c.in-Ok.next c.in-Ok.ensures.plain

pub returns-in-Err-clause-able : goal.returns-in-Err-clause-able
returns-in-Err-clause-able g c = c.turn_in_line.ensures.able
