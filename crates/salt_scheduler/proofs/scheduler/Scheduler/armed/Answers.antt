use Rattle.salt_scheduler.proofs.LinesDone.{quiet}
use Rattle.salt_scheduler.proofs.scheduler.Scheduler.armed.Goals as goal
use Rattle.salt_model.specs.declared.events.Event.TheVariants.{Armed}
use Rattle.std.specs.Prelude.{refl}

pub returns-clause-does : goal.returns-clause-does
returns-clause-does c = λ s r stands h.
    quiet (Armed c.args.pairs) s c.args.self.now _ _ refl tt (λ x. refl) refl (λ b. refl) stands refl refl refl refl stands.books refl
