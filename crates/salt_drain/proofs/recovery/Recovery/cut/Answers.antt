use Rattle.salt_drain.proofs.recovery.Recovery.cut.Goals as goal
use Rattle.law_states.specs.Steps.{units_after}
use Rattle.salt_model.specs.declared.events.End.TheVariants.{Cut}
use Rattle.salt_model.specs.declared.events.Event.TheVariants.{Ended}
use Rattle.salt_drain.proofs.Done.{gives}
use Rattle.salt_drain.proofs.Follows.{cut}
use Rattle.salt_books.proofs.Named.{rising}
use Rattle.std.specs.Prelude.{refl}

pub returns : goal.returns
returns c = λ s stands r.
    gives (Ended c.args.unit Cut) _ _ s _ r refl refl refl
    (record { books = c.end.ensures s.units Cut stands.books (rising s r.sound) tt; opening = stands.opening; single = stands.single; drain = tt })
    (cut c.args.unit s.units (units_after (Ended c.args.unit Cut) s.units))
