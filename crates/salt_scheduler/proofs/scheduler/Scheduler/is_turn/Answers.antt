use Rattle.salt_books.specs.Known.{IsKnown}
use Rattle.salt_books.specs.declared.known.Known.{Known}
use Rattle.salt_model.specs.Kept.{cont_of}
use Rattle.salt_scheduler.proofs.Refusing.{copied-some}
use Rattle.salt_scheduler.proofs.scheduler.Scheduler.is_turn.Goals as goal
use Rattle.salt_scheduler.specs.Refused.{is_turn}
use Rattle.std.proofs.Common.{ap, subst, sym, ◌∙◌}

pub returns-in-Go : goal.returns-in-Go
returns-in-Go c = λ s stands.
    c.is_some.ensures
    ∙ (copied-some c.cont.result (cont_of c.in-Go.base s.units.kept) (c.cont.ensures s.units.kept (subst (λ (x : Known). IsKnown x s.units.kept) (sym c.known.ensures) stands.books.known))
    ∙ ap (is_turn s.units.kept) (sym c.in-Go.is))
