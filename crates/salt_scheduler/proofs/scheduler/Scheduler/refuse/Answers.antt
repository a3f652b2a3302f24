use Rattle.salt_scheduler.proofs.LinesDone.{quiet}
use Rattle.salt_scheduler.proofs.scheduler.Scheduler.refuse.Goals as goal
use Rattle.salt_model.specs.declared.events.Event.TheVariants.{Refused}
use Rattle.std.specs.Prelude.{refl}

pub returns-clause-does : goal.returns-clause-does
returns-clause-does c = λ s r stands h.
    quiet (Refused c.args.refusal) s c.args.self.now _ _ refl tt (λ x. refl) refl (λ b. refl) stands refl refl refl refl
    (c.refuse.ensures s.units c.args.refusal stands.books) refl
