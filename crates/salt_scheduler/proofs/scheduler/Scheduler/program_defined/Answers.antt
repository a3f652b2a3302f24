use Rattle.salt_ast.specs.ProgramTexts.{program_text}
use Rattle.salt_scheduler.proofs.LinesDone.{quiet}
use Rattle.salt_scheduler.proofs.scheduler.Scheduler.program_defined.Goals as goal
use Rattle.law_states.specs.Told.{next_decision_number}
use Rattle.salt_model.specs.declared.events.Event.TheVariants.{Defined}
use Rattle.std.proofs.Common.{◌∙◌}
use Rattle.std.specs.Prelude.{Some, refl}

pub returns-clause-does : goal.returns-clause-does
returns-clause-does c = λ s r stands h.
    let told = c.in_ok-number.ensures.told s.units stands.books in
    quiet (Defined (next_decision_number s.units) (program_text c.args.def.now)) s c.args.self.now _ _ refl tt (λ x. refl) refl (λ b. refl) stands refl refl refl refl
    (c.in_ok-number.ensures.state s.units stands.books (h.serves.line ∙ c.requires.line)) (λ i. Some (Defined (told.0 i) (told.1 i)))

pub returns-clause-event : goal.returns-clause-event
returns-clause-event c = (_, _, refl)
