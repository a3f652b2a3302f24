use Rattle.salt_scheduler.proofs.scheduler.Scheduler.follow_up.Goals as goal
use Rattle.salt_scheduler.proofs.SettleDone.{behind-at}
use Rattle.salt_scheduler.specs.Follows.{event_of}
use Rattle.law_states.specs.Readings.{beside_by}
use Rattle.salt_scheduler.proofs.Done.{brings-same, brings-told}
use Rattle.std.proofs.lemmas.Result.{IfOk-weaker}
use Rattle.std.proofs.Common.{ap}
use Rattle.salt_scheduler.specs.declared.follow.Follow.TheVariants.{Accept, Done, Finish, Turn}
use Rattle.std.specs.Prelude.{refl}

pub returns-in-Turn : goal.returns-in-Turn
returns-in-Turn c =
    IfOk-weaker c.take_turn.result _ _ (λ e h s r behind serves.
    brings-same s _ _ _ _ (ap (λ f. event_of f s.units (beside_by s r)) c.in-Turn.is)
    (h s r (behind-at (Turn c.in-Turn.unit) c.args.self.now s c.in-Turn.is behind) serves)) c.take_turn.ensures

pub returns-in-Done : goal.returns-in-Done
returns-in-Done c =
    IfOk-weaker c.go_on_behind.result _ _ (λ e h s r behind serves.
    brings-same s _ _ _ _ (ap (λ f. event_of f s.units (beside_by s r)) c.in-Done.is)
    (h s r (behind-at (Done c.in-Done.unit c.in-Done.failed) c.args.self.now s c.in-Done.is behind) serves)) c.go_on_behind.ensures

pub returns-in_ok-accept-in-Accept : goal.returns-in_ok-accept-in-Accept
returns-in_ok-accept-in-Accept c = λ s r behind serves.
    brings-same s _ _ _ _ (ap (λ f. event_of f s.units (beside_by s r)) c.in-Accept.is)
    (brings-told s _ _ _ (c.in_ok-accept-in-Accept.ensures s r (behind-at (Accept c.in-Accept.base) c.args.self.now s c.in-Accept.is behind) serves) refl)

pub returns-in-Finish : goal.returns-in-Finish
returns-in-Finish c = λ s r behind serves.
    brings-same s _ _ _ _ (ap (λ f. event_of f s.units (beside_by s r)) c.in-Finish.is)
    (c.finish.ensures s r (behind-at (Finish c.in-Finish.base) c.args.self.now s c.in-Finish.is behind) serves)

pub returns-in-Release : goal.returns-in-Release
returns-in-Release c =
    IfOk-weaker c.release.result _ _ (λ e h s r behind serves.
    brings-same s _ _ _ _ (ap (λ f. event_of f s.units (beside_by s r)) c.in-Release.is) (h s r behind serves)) c.release.ensures
