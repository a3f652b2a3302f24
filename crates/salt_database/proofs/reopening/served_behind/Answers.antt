use Rattle.salt_database.proofs.GoDone.{serves-late}
use Rattle.salt_database.proofs.reopening.served_behind.Goals as goal
use Rattle.salt_database.specs.Standing.{ServesBehind}
use Rattle.salt_model.specs.declared.events.Event.{Event}
use Rattle.salt_scheduler.specs.Standing.{StandsForState}
use Rattle.salt_scheduler.specs.declared.scheduler.Scheduler.{Scheduler}
use Rattle.std.proofs.Common.{subst, sym}
use Rattle.std.specs.Prelude.{IfOk}

pub returns-in-Early : goal.returns-in-Early
returns-in-Early c =
    subst (λ (e : Event). IfOk c.resume.result (λ (x : Scheduler). ServesBehind e c.args.books (λ s. StandsForState x s))) (sym c.in-Early.is) c.resume.ensures

pub returns-in_default : goal.returns-in_default
returns-in_default c = serves-late c.args.end.now c.args.books c.new.result c.requires (λ bs is. c.in_default.not-Early bs is) c.new.ensures
