use Rattle.salt_scheduler.proofs.Refusing.{faulty}
use Rattle.salt_scheduler.proofs.scheduler.Scheduler.refusal.Goals as goal
use Rattle.salt_scheduler.specs.Refused.{refusal_by_state}
use Rattle.std.proofs.Common.{Some, refl, sym, ◌∙◌}

pub returns-in-Some : goal.returns-in-Some
returns-in-Some c = λ s stands stops messages distinct.
    faulty s c.args.line.now (Some c.in-Some.refusal) (refusal_by_state s c.args.line.now) (sym c.in-Some.is ∙ c.in_ok-refusal.ensures s stands distinct) refl
