use Rattle.salt_scheduler.proofs.scheduler.Scheduler.go_on.Goals as goal
use Rattle.salt_scheduler.proofs.Done.{brings-same}
use Rattle.std.proofs.lemmas.Result.{IfOk-weaker}
use Rattle.salt_scheduler.proofs.SettleDone.{follows-first, settles-then, stands-on}

pub returns-in-Nothing : goal.returns-in-Nothing
returns-in-Nothing c =
    IfOk-weaker c.settle.result _ _ (λ e g s r behind serves.
    let h = c.in_ok-following.ensures s r behind serves in
    brings-same s _ _ _ _ (settles-then s r c.args.self.now.follow _ c.in_ok-following.following c.in-Nothing.is h)
    (g s r (stands-on s _ _ c.in_ok-following.following c.in-Nothing.is h) serves)) c.settle.ensures

pub returns-in_default : goal.returns-in_default
returns-in_default c = λ s r behind serves.
    follows-first s r c.args.self.now.follow _ c.in_ok-following.following c.in_default.not-Nothing (c.in_ok-following.ensures s r behind serves)
