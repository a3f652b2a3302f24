-- A run falls at the devices.
use Rattle.law_states.proofs.NextTold.{devices-told, may-stand}
use Rattle.law_states.proofs.StatesGoOn.{states-say}
use Rattle.law_states.specs.Laws.{IsSound, is_of_run}
use Rattle.law_states.specs.OpenUnits.{UnitState}
use Rattle.law_states.specs.Points.{Falls, KeepsPoint, Point}
use Rattle.law_states.specs.Told.{at_devices_in}
use Rattle.law_story.proofs.Replays.{good-event, replays}
use Rattle.salt_model.specs.Next.{next}
use Rattle.salt_model.specs.Phases.{Phase}
use Rattle.salt_model.specs.Played.{IsPlayed}
use Rattle.salt_model.specs.Stops.{MayFall, is_device_next}
use Rattle.salt_model.specs.Trace.{Trace, ◌says◌}
use Rattle.salt_model.specs.declared.events.Event.{Event}
use Rattle.salt_model.specs.declared.events.Event.TheVariants.{Down, Opened}
use Rattle.salt_model.specs.declared.events.Why.{Why}
use Rattle.std.proofs.Common.{ap, subst, sym, ◌∙◌}
use Rattle.std.specs.Prelude.{Some, false, refl, true, ◌≡◌}

-- what is at the devices is no stop and no opening
is-of-units : (s : UnitState) (e : Event) → at_devices_in s e ≡ true → is_of_run e ≡ false
is-of-units s (Down why) h = cc
is-of-units s (Opened boot n) h = cc
is-of-units s e h = refl

pub falls-point : (why : Why) (old new : Point) (trace : Trace) → KeepsPoint old trace → IsSound trace → Falls why old new →
    KeepsPoint new (trace says Down why) × IsSound (trace says Down why)
falls-point why old new trace k sound f =
    let comes : next trace ≡ Some f.event = k.next ∙ f.comes in
    let good = good-event trace f.event (replays trace sound.played) (may-stand trace f.event (is-of-units old.state.units f.event f.devices) comes) in
    let device : is_device_next trace (next trace) ≡ true = ap (is_device_next trace) comes ∙ devices-told old.state.units trace f.event k.state.units sound.played good ∙ f.devices in
    let p : IsPlayed (trace says Down why) = (sound.played, subst (λ (x : Phase). MayFall x trace why) (sym (k.state.units.phase ∙ f.serves)) device) in (
      record {
        state = states-say old.state new.state trace (Down why) k.state p sound.well f.after;
        next = sym f.next;
        flight = k.flight ∙ sym f.flight;
      },
      record { played = p; well = sound.well },
    )
