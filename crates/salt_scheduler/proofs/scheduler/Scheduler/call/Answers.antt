use Rattle.salt_scheduler.proofs.Done.{brings-same, brings-told}
use Rattle.salt_scheduler.proofs.LinesDone.{calls-as}
use Rattle.salt_scheduler.proofs.scheduler.Scheduler.call.Goals as goal
use Rattle.std.proofs.Common.{sym, ◌∙◌}
use Rattle.std.specs.Prelude.{Some, refl}

pub returns-in_ok-begin-in-Some : goal.returns-in_ok-begin-in-Some
returns-in_ok-begin-in-Some c = λ s r stands serves.
    brings-same s _ _ _ _
    (calls-as s.units c.args.session c.args.name.now c.args.args.now (Some c.in-Some.kind) (sym c.in-Some.is ∙ c.in_ok-kind.ensures s stands))
    (brings-told s _ _ _ (c.in_ok-begin-in-Some.ensures s r stands serves) refl)
