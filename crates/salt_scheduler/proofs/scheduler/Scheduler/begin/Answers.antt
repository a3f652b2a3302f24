use Rattle.salt_scheduler.proofs.scheduler.Scheduler.begin.Goals as goal
use Rattle.std.specs.Prelude.{Some, refl}
use Rattle.law_states.specs.Told.{next_unit}
use Rattle.salt_model.specs.declared.events.Event.TheVariants.{Began}
use Rattle.salt_model.specs.Turns.{is_statement_line}
use Rattle.salt_scheduler.proofs.BeginDone.{begin-gives, follows-alone, follows-turn}
use Rattle.std.proofs.Common.{ap, sym, ◌∙◌}
use Rattle.salt_scheduler.proofs.scheduler.Scheduler.begin.Goals.{else-alone, then-alone}

pub returns : goal.returns
returns c = λ s r stands serves.
    let name = c.in_ok-unit.ensures.name s.units stands.books in
    begin-gives c.args.line.now c.args.kind c.args.self.now _ s _ stands serves.line
    (λ i. Some (Began (name i) (c.in_ok-told.ensures i)))
    stands.watch
    (c.in_ok-unit.ensures.state s.units stands.books (c.is_statement_line.ensures ∙ ap is_statement_line (sym serves.line)))
    c.in_ok-note_call.ensures
    (elim c.if-alone.branch [
      | then-alone w ↦ follows-alone c.args.line.now c.args.kind (next_unit s.units) c.if-alone.self c.opens_alone-alone.result c.opens_alone-alone.ensures w.if-alone.true w.self-is
      | else-alone w ↦ follows-turn c.args.line.now c.args.kind (next_unit s.units) c.in_ok-unit.unit c.if-alone.self c.opens_alone-alone.result c.opens_alone-alone.ensures w.if-alone.false name w.self-is
    ])
    refl
