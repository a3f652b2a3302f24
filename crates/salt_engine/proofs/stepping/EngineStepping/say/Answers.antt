use Rattle.salt_engine.proofs.Netted.{breaks-there, lies-net, next-sent, said-over, told-sent}
use Rattle.salt_engine.proofs.Counted.{cause-lost, cause-told, same-cause}
use Rattle.salt_engine.proofs.InStage.{followed}
use Rattle.salt_engine.proofs.SayDone.{said-breaks, said-goes, said-halts, said-less, said-lost, said-performs, said-rests, said-sees, said-sent, said-there, said-turns}
use Rattle.salt_engine.proofs.ServingGoes.{read}
use Rattle.salt_engine.proofs.Stages.{done-in}
use Rattle.salt_engine.proofs.Untold.{plain-of-segment, plain-unarmed-next}
use Rattle.salt_engine.proofs.stepping.EngineStepping.say.Goals as goal
use Rattle.salt_driver.proofs.Counted.{counts-cause}
use Rattle.salt_storage.specs.declared.halt.Halt.TheVariants.{Memory}
use Rattle.std.proofs.Common.{[], inl, inr, refl, sym, ◌∙◌}

pub go_on_in_line-requires-clause-callable : goal.go_on_in_line-requires-clause-callable
go_on_in_line-requires-clause-callable g c = c.requires.callable

pub go_on_in_line-requires-clause-answers : goal.go_on_in_line-requires-clause-answers
go_on_in_line-requires-clause-answers g c = c.requires.answers

pub go_on_in_line-requires-clause-none : goal.go_on_in_line-requires-clause-none
go_on_in_line-requires-clause-none g c = refl

pub go_on_in_line-requires-clause-ready : goal.go_on_in_line-requires-clause-ready
go_on_in_line-requires-clause-ready g c = λ told.
    let w = c.requires.stands told in
    let p = w.0 in
    let sound = w.1 in
    let at = w.2 in
    let line = c.args.line.now in
    let e = c.args.event in
    let i = done-in _ _ c.args.self.now.stage e p.state at.state.0.seen in
    let x = i.scheduler in
    let t = i.behind in
    (t, said-goes line x e p sound t i.done at.comes at.serves at.line _ _ _ i.there i.stored)

pub returns-in-Ok-go_on_in_line-clause-moves : goal.returns-in-Ok-go_on_in_line-clause-moves
returns-in-Ok-go_on_in_line-clause-moves g c = λ p sound at.
    let line = c.args.line.now in
    let e = c.args.event in
    let i = done-in _ _ c.args.self.now.stage e p.state at.state.0.seen in
    let x = i.scheduler in
    let t = i.behind in
    let d = said-performs line x e p sound t i.done at.comes at.serves at.line _ _ _ _ _ _ i.there (c.in-Ok-go_on_in_line.ensures.comes t (read line x e p sound t i.done at.comes at.serves at.line) (said-goes line x e p sound t i.done at.comes at.serves at.line _ _ _ i.there i.stored)) in
    said-there line x e p sound t i.done at.comes at.serves at.line _ c.in-Ok-go_on_in_line.next (
      said-sees line x e p sound t i.done at.comes at.serves at.line _ _ _ _ _ _ _ _ c.in-Ok-go_on_in_line.next d at.state.0.can_stop c.go_on_in_line.ensures.stays.within.shape.can_stop at.state.0.line c.go_on_in_line.ensures.stays.noted,
      next-sent _ _ _ _ _ _ t t refl refl c.go_on_in_line.ensures.stays.within.asked d.told
          (said-sent line x e p sound t i.done at.comes at.serves at.line (g.S.Storage.asked c.args.self.now.storage) _ _ _ i.there (c.in-Ok-go_on_in_line.ensures.sent t (read line x e p sound t i.done at.comes at.serves at.line) (said-goes line x e p sound t i.done at.comes at.serves at.line _ _ _ i.there i.stored)))
          (told-sent _ _ e p.state t i.done.after at.state.1),
    ) d.told

pub returns-in-Ok-go_on_in_line-clause-tells : goal.returns-in-Ok-go_on_in_line-clause-tells
returns-in-Ok-go_on_in_line-clause-tells g c = c.in-Ok.ensures.ok

pub returns-in-Ok-go_on_in_line-clause-less : goal.returns-in-Ok-go_on_in_line-clause-less
returns-in-Ok-go_on_in_line-clause-less g c = λ told.
    let w = c.requires.stands told in
    let p = w.0 in
    let sound = w.1 in
    let at = w.2 in
    let line = c.args.line.now in
    let e = c.args.event in
    let i = done-in _ _ c.args.self.now.stage e p.state at.state.0.seen in
    let x = i.scheduler in
    let t = i.behind in
    let d = said-performs line x e p sound t i.done at.comes at.serves at.line _ _ _ _ _ _ i.there (c.in-Ok-go_on_in_line.ensures.comes t (read line x e p sound t i.done at.comes at.serves at.line) (said-goes line x e p sound t i.done at.comes at.serves at.line _ _ _ i.there i.stored)) in
    said-less line x e p sound t i.done at.comes at.serves at.line _ _ _ _ _ _ c.in-Ok-go_on_in_line.next at.state.0.seen d.sees d.told

pub returns-in-Ok-go_on_in_line-clause-turns : goal.returns-in-Ok-go_on_in_line-clause-turns
returns-in-Ok-go_on_in_line-clause-turns g c = λ told.
    let w = c.requires.stands told in
    let p = w.0 in
    let sound = w.1 in
    let at = w.2 in
    let line = c.args.line.now in
    let e = c.args.event in
    let i = done-in _ _ c.args.self.now.stage e p.state at.state.0.seen in
    let x = i.scheduler in
    let t = i.behind in
    let d = said-performs line x e p sound t i.done at.comes at.serves at.line _ _ _ _ _ _ i.there (c.in-Ok-go_on_in_line.ensures.comes t (read line x e p sound t i.done at.comes at.serves at.line) (said-goes line x e p sound t i.done at.comes at.serves at.line _ _ _ i.there i.stored)) in
    said-turns line x e p sound t i.done at.comes at.serves at.line _ _ _ _ c.in-Ok-go_on_in_line.next i.there d.sees

pub returns-in-Ok-go_on_in_line-clause-counts : goal.returns-in-Ok-go_on_in_line-clause-counts
returns-in-Ok-go_on_in_line-clause-counts g c = counts-cause _ _ _ _ (plain-unarmed-next c.args.line.now c.in-Ok-go_on_in_line.next c.in-Ok-go_on_in_line.ensures.plain) c.in-Ok-go_on_in_line.ensures.cause

pub returns-in-Ok-go_on_in_line-clause-within : goal.returns-in-Ok-go_on_in_line-clause-within
returns-in-Ok-go_on_in_line-clause-within g c = c.go_on_in_line.ensures.stays.within

pub returns-in-Ok-go_on_in_line-clause-refused : goal.returns-in-Ok-go_on_in_line-clause-refused
returns-in-Ok-go_on_in_line-clause-refused g c = λ refusal is told.
    let w = c.requires.stands told in
    let p = w.0 in
    let sound = w.1 in
    let at = w.2 in
    let line = c.args.line.now in
    let e = c.args.event in
    let i = done-in _ _ c.args.self.now.stage e p.state at.state.0.seen in
    let x = i.scheduler in
    let t = i.behind in
    c.go_on_in_line.ensures.still t (read line x e p sound t i.done at.comes at.serves at.line) (said-goes line x e p sound t i.done at.comes at.serves at.line _ _ _ i.there i.stored)
    (sym (followed t (read line x e p sound t i.done at.comes at.serves at.line) _ x i.there) ∙ said-rests line x e p sound t i.done at.comes at.serves at.line refusal is) told

pub returns-in-Err-go_on_in_line-clause-halts : goal.returns-in-Err-go_on_in_line-clause-halts
returns-in-Err-go_on_in_line-clause-halts g c = λ p sound at.
    let line = c.args.line.now in
    let e = c.args.event in
    let i = done-in _ _ c.args.self.now.stage e p.state at.state.0.seen in
    let x = i.scheduler in
    let t = i.behind in
    let b = said-breaks line x e p sound t i.done at.comes at.serves at.line _ _ c.in-Err-go_on_in_line.halt c.break_by.result _ _ _ _ i.there c.break_by.ensures.halt c.break_by.ensures.broken
    (c.in-Err-go_on_in_line.ensures.comes t (read line x e p sound t i.done at.comes at.serves at.line) (said-goes line x e p sound t i.done at.comes at.serves at.line _ _ _ i.there i.stored)) in
    breaks-there _ _ _ _ _ p e _ _ (lies-net _ _ _ at.state.1.over c.go_on_in_line.ensures.stays.within.asked) (λ q moves. lies-net _ _ _ (said-over e p q moves ∙ at.state.1.over) c.go_on_in_line.ensures.stays.within.asked)
    (said-halts line x e p sound t i.done at.comes at.serves at.line _ _ _ _ c.break_by.result _ _ _ _ _ _ c.args.story.now c.push.new.self b at.state.0.can_stop c.go_on_in_line.ensures.stays.within.shape.can_stop
    at.state.0.line c.go_on_in_line.ensures.stays.noted (c.stands.ensures.sound t.units.kept i.stored.holding) c.in-Ok.ensures.ok)

pub returns-in-Err-go_on_in_line-clause-counts : goal.returns-in-Err-go_on_in_line-clause-counts
returns-in-Err-go_on_in_line-clause-counts g c = counts-cause _ _ _ [] refl (cause-told _ _ c.in-Err-go_on_in_line.halt c.break_by.result c.break_by.ensures.halt c.in-Err-go_on_in_line.ensures.cause)

pub returns-in-Err-go_on_in_line-clause-within : goal.returns-in-Err-go_on_in_line-clause-within
returns-in-Err-go_on_in_line-clause-within g c = c.go_on_in_line.ensures.stays.within

pub returns-in-Err-go_on_in_line-clause-refused : goal.returns-in-Err-go_on_in_line-clause-refused
returns-in-Err-go_on_in_line-clause-refused g c = λ refusal is told.
    let w = c.requires.stands told in
    let p = w.0 in
    let sound = w.1 in
    let at = w.2 in
    let line = c.args.line.now in
    let e = c.args.event in
    let i = done-in _ _ c.args.self.now.stage e p.state at.state.0.seen in
    let x = i.scheduler in
    let t = i.behind in
    c.go_on_in_line.ensures.still t (read line x e p sound t i.done at.comes at.serves at.line) (said-goes line x e p sound t i.done at.comes at.serves at.line _ _ _ i.there i.stored)
    (sym (followed t (read line x e p sound t i.done at.comes at.serves at.line) _ x i.there) ∙ said-rests line x e p sound t i.done at.comes at.serves at.line refusal is) told

pub returns-in-Err-clause-halts : goal.returns-in-Err-clause-halts
returns-in-Err-clause-halts g c = λ p sound at.
    let line = c.args.line.now in
    let e = c.args.event in
    let i = done-in _ _ c.args.self.now.stage e p.state at.state.0.seen in
    let x = i.scheduler in
    let t = i.behind in
    breaks-there _ _ _ _ _ p e _ _ (lies-net _ _ _ at.state.1.over refl) (λ q moves. lies-net _ _ _ (said-over e p q moves ∙ at.state.1.over) refl)
    (said-lost line x e p sound t i.done at.comes at.serves at.line _ _ _ _ c.break_by-in-Err.result _ _ _ _ c.args.story.now c.push.new.self c.break_by-in-Err.ensures.halt
    (c.stands.ensures.stays t.units.kept i.stored.holding) c.break_by-in-Err.ensures.broken at.state.0.flies c.in-Err.ensures.err)

pub returns-in-Err-clause-counts : goal.returns-in-Err-clause-counts
returns-in-Err-clause-counts g c =
    counts-cause _ _ _ [] refl (cause-told _ _ Memory c.break_by-in-Err.result c.break_by-in-Err.ensures.halt (cause-lost _ _ (same-cause (g.D.Disks.view c.args.disks.now))))

pub go_on_in_line-requires-clause-able : goal.go_on_in_line-requires-clause-able
go_on_in_line-requires-clause-able g c = c.requires.able

pub returns-in-Ok-go_on_in_line-clause-able : goal.returns-in-Ok-go_on_in_line-clause-able
returns-in-Ok-go_on_in_line-clause-able g c = c.go_on_in_line.ensures.able

pub returns-in-Ok-go_on_in_line-clause-plain : goal.returns-in-Ok-go_on_in_line-clause-plain
returns-in-Ok-go_on_in_line-clause-plain g c = plain-of-segment c.in-Ok-go_on_in_line.next c.in-Ok-go_on_in_line.ensures.plain

pub returns-in-Ok-go_on_in_line-clause-unarmed : goal.returns-in-Ok-go_on_in_line-clause-unarmed
returns-in-Ok-go_on_in_line-clause-unarmed g c = plain-unarmed-next c.args.line.now c.in-Ok-go_on_in_line.next c.in-Ok-go_on_in_line.ensures.plain

pub returns-in-Err-go_on_in_line-clause-able : goal.returns-in-Err-go_on_in_line-clause-able
returns-in-Err-go_on_in_line-clause-able g c = c.go_on_in_line.ensures.able

pub returns-in-Err-go_on_in_line-clause-broken : goal.returns-in-Err-go_on_in_line-clause-broken
returns-in-Err-go_on_in_line-clause-broken g c = inr c.in-Ok.ensures.ok

pub returns-in-Err-clause-able : goal.returns-in-Err-clause-able
returns-in-Err-clause-able g c = c.requires.able

pub returns-in-Err-clause-broken : goal.returns-in-Err-clause-broken
returns-in-Err-clause-broken g c = inl (c.in-Err.ensures.err, c.break_by-in-Err.ensures.halt)

pub returns-in-Err-clause-refused : goal.returns-in-Err-clause-refused
returns-in-Err-clause-refused g c = λ refusal is told. refl
