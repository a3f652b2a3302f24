-- The events that change nothing of what is known.
use Rattle.salt_audit.specs.Telling.{IsBehind, is_quiet}
use Rattle.salt_audit.specs.declared.state.State.{State}
use Rattle.salt_model.specs.declared.events.Event.TheVariants as event
use Rattle.salt_model.specs.declared.events.Event.{Event}
use Rattle.std.proofs.Common.{refl, true, ◌≡◌}

pub unchanged : (s : State) (e : Event) → is_quiet e ≡ true → IsBehind s s e
unchanged s (event.Waits u os) h = record { opened = refl; schema = refl; programs = refl; conts = refl; units = λ v. refl; bases = refl; accepted = refl; finished = refl }
unchanged s (event.Released bs) h = record { opened = refl; schema = refl; programs = refl; conts = refl; units = λ v. refl; bases = refl; accepted = refl; finished = refl }
unchanged s (event.Early bs) h = record { opened = refl; schema = refl; programs = refl; conts = refl; units = λ v. refl; bases = refl; accepted = refl; finished = refl }
unchanged s (event.Down y) h = record { opened = refl; schema = refl; programs = refl; conts = refl; units = λ v. refl; bases = refl; accepted = refl; finished = refl }
unchanged s event.Ready h = record { opened = refl; schema = refl; programs = refl; conts = refl; units = λ v. refl; bases = refl; accepted = refl; finished = refl }
unchanged s (event.Refused r) h = record { opened = refl; schema = refl; programs = refl; conts = refl; units = λ v. refl; bases = refl; accepted = refl; finished = refl }
unchanged s (event.Armed pairs) h = record { opened = refl; schema = refl; programs = refl; conts = refl; units = λ v. refl; bases = refl; accepted = refl; finished = refl }
unchanged s (event.Shown items) h = record { opened = refl; schema = refl; programs = refl; conts = refl; units = λ v. refl; bases = refl; accepted = refl; finished = refl }
unchanged s (event.Began u kind) h = absurd cc
unchanged s (event.Did u st a) h = absurd cc
unchanged s (event.Ended u how) h = absurd cc
unchanged s (event.Accepted b) h = absurd cc
unchanged s (event.Finished b) h = absurd cc
unchanged s (event.Opened boot n) h = absurd cc
unchanged s (event.Defined n text) h = absurd cc
