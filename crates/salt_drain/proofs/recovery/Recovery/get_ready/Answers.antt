use Rattle.salt_drain.proofs.recovery.Recovery.get_ready.Goals as goal
use Rattle.salt_books.proofs.Phases.{in-each-phase}
use Rattle.salt_model.specs.Phases.{Serving}
use Rattle.salt_model.specs.declared.events.Event.TheVariants.{Ready}
use Rattle.salt_drain.proofs.Done.{gives}
use Rattle.std.specs.Prelude.{refl}

pub returns : goal.returns
returns c = λ s stands r. gives Ready _ _ s _ r refl refl refl (in-each-phase c.args.self.now.books s.units Serving stands.books, refl) refl
