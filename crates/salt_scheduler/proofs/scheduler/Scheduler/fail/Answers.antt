use Rattle.salt_scheduler.proofs.scheduler.Scheduler.fail.Goals as goal
use Rattle.salt_books.specs.Held.{seen}
use Rattle.salt_scheduler.proofs.EndsDone.{branch-brings, done-failed}
use Rattle.salt_scheduler.proofs.Done.{brings-same, brings-told}
use Rattle.law_states.specs.OpenUnits.{OpenUnit}
use Rattle.std.proofs.Common.{sym}
use Rattle.std.specs.Prelude.{refl}

pub returns-in-Later : goal.returns-in-Later
returns-in-Later c = λ s r stands serves.
    branch-brings c.args.self.now s c.args.unit c.in-Later.base c.in-Later.part (seen c.in-Some.held.now) c.args.cause stands
    (sym (c.in-Some.ensures s.units stands.books)) c.in-Later.is

pub returns-in_ok-end-in_default-kind : goal.returns-in_ok-end-in_default-kind
returns-in_ok-end-in_default-kind c = λ s r stands serves.
    let o : OpenUnit = seen c.in-Some.held.now in
    let named = sym (c.in-Some.ensures s.units stands.books) in
    brings-same s _ _ _ _ (done-failed s.units c.args.unit o c.args.cause named (λ b part is. c.in_default-kind.not-Later b part is))
    (brings-told s _ _ _ (c.in_ok-end-in_default-kind.ensures s r stands serves) refl)
