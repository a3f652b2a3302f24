use Rattle.salt_drain.proofs.recovery.Recovery.accept.Goals as goal
use Rattle.salt_model.specs.declared.events.Event.TheVariants.{Accepted}
use Rattle.salt_drain.proofs.Done.{gives}
use Rattle.std.specs.Prelude.{refl}

pub returns : goal.returns
returns c = λ s stands r. gives (Accepted c.args.base) _ _ s _ r refl refl refl (record { books = stands.books; opening = stands.opening; single = stands.single; drain = tt }) refl
