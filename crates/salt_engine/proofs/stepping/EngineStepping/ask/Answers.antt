use Rattle.law_states.specs.Points.{Ask}
use Rattle.law_states.specs.States.{asked_of}
use Rattle.salt_engine.proofs.Netted.{asked-over, halts-there, lies-net, next-sent}
use Rattle.salt_engine.proofs.AskDone.{asked-halts, asked-there, reads-here, to-ask}
use Rattle.salt_engine.proofs.Counted.{counts-told}
use Rattle.salt_engine.proofs.Flying.{flies-none}
use Rattle.salt_engine.proofs.InStage.{broken-out}
use Rattle.salt_engine.proofs.LineGoes.{asked-at}
use Rattle.salt_engine.proofs.Stages.{held-now}
use Rattle.salt_engine.proofs.stepping.EngineStepping.ask.Goals as goal
use Rattle.salt_model.specs.Trace.{Tree}
use Rattle.std.proofs.Common.{inr, refl, ◌∙◌}

pub ask_line-requires-clause-callable : goal.ask_line-requires-clause-callable
ask_line-requires-clause-callable g c = c.requires.callable

pub ask_line-requires-clause-answers : goal.ask_line-requires-clause-answers
ask_line-requires-clause-answers g c = c.requires.answers

pub ask_line-requires-clause-none : goal.ask_line-requires-clause-none
ask_line-requires-clause-none g c = refl

pub ask_line-requires-clause-ready : goal.ask_line-requires-clause-ready
ask_line-requires-clause-ready g c = λ told.
    let r = c.requires.stands told in
    let p = r.0 in
    let at = r.2 in
    (p.state, to-ask _ _ _ _ _ _ c.args.line.now p r.1 at.idle c.requires.served c.read_lines_are_spelled.ensures.keys at.state.0, at.state.1.over)

pub returns-in-Ok-clause-moves : goal.returns-in-Ok-clause-moves
returns-in-Ok-clause-moves g c = λ p sound at.
    let r = reads-here p sound in
    let ask = to-ask _ _ _ _ _ _ c.args.line.now p sound at.idle c.requires.served c.read_lines_are_spelled.ensures.keys at.state.0 in
    let d = c.in-Ok.ensures.comes p.state r ask at.state.1.over in
    asked-there _ (Tree c.args.line.now) p sound at.idle r c.in-Ok.next (
      asked-at (Tree c.args.line.now) p sound at.idle _ _ _ _ _ _ _ c.in-Ok.next r d at.state.0.can_stop c.ask_line.ensures.stays.within.shape.can_stop (c.ask_line.ensures.stays.noted ∙ c.is_statement_line-self.ensures),
      next-sent _ _ _ _ _ _ p.state (asked_of (Tree c.args.line.now) p.state) refl refl c.ask_line.ensures.stays.within.asked d.told (c.in-Ok.ensures.sent p.state r ask at.state.1.over) at.state.1,
    ) d.told

pub returns-in-Ok-clause-within : goal.returns-in-Ok-clause-within
returns-in-Ok-clause-within g c = c.ask_line.ensures.stays.within

pub returns-in-Ok-clause-refused : goal.returns-in-Ok-clause-refused
returns-in-Ok-clause-refused g c = c.in-Ok.ensures.refused

pub returns-in-Err-clause-halts : goal.returns-in-Err-clause-halts
returns-in-Err-clause-halts g c = λ p sound at.
    let r = reads-here p sound in
    let b = broken-out _ _ c.in-Err.halt c.break_by.result _ _ _ _ _ c.break_by.ensures.halt c.break_by.ensures.broken
    (c.in-Err.ensures.comes p.state r (to-ask _ _ _ _ _ _ c.args.line.now p sound at.idle c.requires.served c.read_lines_are_spelled.ensures.keys at.state.0) at.state.1.over) in
    let kept = c.stands.ensures.sound p.state.units.kept (held-now _ _ _ p.state at.state.0.seen) in
    inr (halts-there _ _ _ _ _ _ p (Ask (Tree c.args.line.now)) (λ q moves. lies-net _ _ _ (asked-over (Tree c.args.line.now) p q moves ∙ at.state.1.over) c.ask_line.ensures.stays.within.asked) (asked-halts _ _ _ _ c.break_by.result _ _ _ _ _ p sound at.state.0.can_stop c.ask_line.ensures.stays.within.shape.can_stop kept (Tree c.args.line.now) at.idle r b (c.ask_line.ensures.stays.noted ∙ c.is_statement_line-self.ensures)))

pub returns-in-Err-clause-within : goal.returns-in-Err-clause-within
returns-in-Err-clause-within g c = c.ask_line.ensures.stays.within

pub returns-in-Err-clause-counts : goal.returns-in-Err-clause-counts
returns-in-Err-clause-counts g c = counts-told _ _ c.in-Err.halt c.break_by.result _ c.break_by.ensures.halt c.in-Err.ensures.counts

pub ask_line-requires-clause-served : goal.ask_line-requires-clause-served
ask_line-requires-clause-served g c = c.requires.served

pub ask_line-requires-clause-able : goal.ask_line-requires-clause-able
ask_line-requires-clause-able g c = c.requires.able

pub returns-in-Ok-clause-able : goal.returns-in-Ok-clause-able
returns-in-Ok-clause-able g c = c.ask_line.ensures.able

pub returns-in-Ok-clause-plain : goal.returns-in-Ok-clause-plain
returns-in-Ok-clause-plain g c = c.in-Ok.ensures.plain

pub returns-in-Err-clause-able : goal.returns-in-Err-clause-able
returns-in-Err-clause-able g c = c.ask_line.ensures.able
