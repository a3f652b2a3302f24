use Rattle.salt_drain.proofs.recovery.Recovery.finish.Goals as goal
use Rattle.salt_books.specs.Known.{IsKnown}
use Rattle.salt_books.specs.declared.known.Known.{Known}
use Rattle.salt_model.specs.declared.events.Event.TheVariants.{Finished}
use Rattle.salt_drain.proofs.Chosen.{finish-plain, finishes, told}
use Rattle.salt_drain.proofs.Done.{gives}
use Rattle.std.proofs.Common.{subst, sym}
use Rattle.std.specs.Prelude.{refl}

pub returns : goal.returns
returns c = λ s stands r.
    told s _ _ _ (finish-plain s.units c.args.base)
    (gives (Finished c.args.base) _ _ s _ r refl
    (finishes s.units c.args.base c.cont.result (c.cont.ensures s.units.kept (subst (λ (x : Known). IsKnown x s.units.kept) (sym c.known.ensures) stands.books.known)) (sym c.if-is_some.ensures))
    refl (record { books = stands.books; opening = stands.opening; single = stands.single; drain = tt }) refl)
