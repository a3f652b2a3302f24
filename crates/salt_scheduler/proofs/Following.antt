-- What comes behind an event: what follows it in its turn, or what settles.
use Rattle.salt_scheduler.specs.Follows.{FollowsOn, event_of}
use Rattle.salt_scheduler.specs.Serving.{is_served}
use Rattle.salt_scheduler.specs.declared.follow.Follow.{Follow}
use Rattle.law_states.specs.Follows.{settles_in}
use Rattle.law_states.specs.Laws.{is_of_run}
use Rattle.law_states.specs.Nexts.{said_next}
use Rattle.law_states.specs.Readings.{WatchReading, beside_by}
use Rattle.law_states.specs.States.{State}
use Rattle.law_states.specs.Follows.{said_in, unit_of}
use Rattle.salt_model.specs.Phases.{Serving}
use Rattle.salt_model.specs.declared.events.Event.{Event}
use Rattle.salt_model.specs.declared.events.Event.TheVariants.{Down, Early, Opened, Ready}
use Rattle.std.proofs.Common.{ap, ◌∙◌}
use Rattle.std.specs.Option.{option_or}
use Rattle.std.specs.Prelude.{Option, false, refl, true, ◌≡◌}

pub not-of-run : (e : Event) → is_served e ≡ true → is_of_run e ≡ false
not-of-run (Down why) h = cc
not-of-run (Opened boot n) h = cc
not-of-run e h = refl

pub goes-on : (e : Event) (f : Follow) (old new : State) (x : WatchReading new.watch) (flight : Option Event) → is_served e ≡ true →
    new.units.phase ≡ Serving → FollowsOn f e old.units new.units →
    said_next e old new x flight ≡ option_or (event_of f new.units (beside_by new x)) (settles_in new.units (beside_by new x))
goes-on (Down why) f old new x flight h p g = cc
goes-on (Opened boot n) f old new x flight h p g = cc
goes-on Ready f old new x flight h p g = cc
goes-on (Early bs) f old new x flight h p g = cc
goes-on e f old new x flight h p g =
    ap (λ q. said_in q new.units (beside_by new x) e (unit_of e old.units new.units)) p
    ∙ ap (λ o. option_or o (settles_in new.units (beside_by new x))) (g (beside_by new x))
