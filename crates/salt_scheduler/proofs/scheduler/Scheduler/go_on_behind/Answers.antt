use Rattle.salt_scheduler.proofs.Done.{brings-same}
use Rattle.salt_scheduler.proofs.EndsDone.{end-brings}
use Rattle.salt_scheduler.proofs.scheduler.Scheduler.go_on_behind.Goals as goal
use Rattle.salt_books.specs.Ends.{done_of}
use Rattle.law_states.specs.OpenUnits.{unit_named}
use Rattle.std.proofs.Common.{ap}
use Rattle.std.proofs.lemmas.Result.{IfOk-weaker}

pub returns-in-Some : goal.returns-in-Some
returns-in-Some c =
    IfOk-weaker c.fail.result _ _ (λ e h s r stands serves.
    brings-same s _ _ _ _ (ap (λ f. done_of s.units f (unit_named c.args.unit s.units.units)) c.in-Some.is) (h s r stands serves)) c.fail.ensures

pub returns-in-None : goal.returns-in-None
returns-in-None c = λ s r stands serves.
    brings-same s _ _ _ _ (ap (λ f. done_of s.units f (unit_named c.args.unit s.units.units)) c.in-None.is) (end-brings c.args.self.now s c.args.unit c.commit_at_end.result stands (c.commit_at_end.ensures s.units stands.books))
