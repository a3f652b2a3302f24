use Rattle.salt_books.specs.declared.known.Known.{Known}
use Rattle.salt_scheduler.proofs.scheduler.Scheduler.finish.Goals as goal
use Rattle.salt_scheduler.proofs.EndsDone.{copied-none}
use Rattle.salt_books.specs.Known.{IsKnown}
use Rattle.salt_model.specs.Kept.{cont_of}
use Rattle.salt_scheduler.proofs.BasesDone.{finish-brings}
use Rattle.std.proofs.Common.{subst, sym}
use Rattle.std.specs.Prelude.{refl}

pub returns : goal.returns
returns c = λ s r stands serves.
    finish-brings c.args.self.now _ c.args.base s stands
    (copied-none c.cont.result (cont_of c.args.base s.units.kept)
    (c.cont.ensures s.units.kept (subst (λ (x : Known). IsKnown x s.units.kept) (sym c.known.ensures) stands.books.known)) (sym c.if-is_some.ensures))
    refl refl refl refl refl
