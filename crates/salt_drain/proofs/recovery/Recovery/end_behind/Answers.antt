use Rattle.law_states.specs.OpenUnits.{unit_named}
use Rattle.salt_books.specs.Ends.{done_of}
use Rattle.salt_drain.proofs.Chosen.{end-brings}
use Rattle.salt_drain.proofs.recovery.Recovery.end_behind.Goals as goal
use Rattle.salt_drain.specs.Recovering.{AnswersWithComing}
use Rattle.std.proofs.Common.{ap, subst, sym}

pub returns-in-None : goal.returns-in-None
returns-in-None c = λ s stands r parts.
    subst (λ want. AnswersWithComing s want c.args.self.now c.commit_at_end.result) (sym (ap (λ f. done_of s.units f (unit_named c.args.unit s.units.units)) c.in-None.is))
    (end-brings s c.args.unit c.args.self.now c.commit_at_end.result stands (c.commit_at_end.ensures s.units stands.books))
