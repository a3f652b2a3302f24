-- Each trace that is played moves its point as it falls and is opened.
use Rattle.law_states.proofs.EachTrace.{always-in-turn, each-kept}
use Rattle.law_states.proofs.NextTold.{devices-told, may-stand}
use Rattle.law_states.proofs.PlainGoesOn.{plain-reading, plain-says}
use Rattle.law_states.proofs.PointsGoOn.{flight-kept, said-kept}
use Rattle.law_states.specs.Laws.{IsSound, is_of_run}
use Rattle.law_states.specs.PlainStates.{as_state, state_of, watch_of}
use Rattle.law_states.specs.Points.{point_of}
use Rattle.law_states.specs.Readings.{WatchReading}
use Rattle.law_story.proofs.Replays.{good-event, replays}
use Rattle.salt_model.specs.Next.{next}
use Rattle.salt_model.specs.Phases.{Fallen, Opening, Phase, Serving, phase}
use Rattle.salt_model.specs.Stops.{MayFall, MayOpen, is_at_devices, is_device_next, is_just_opened}
use Rattle.salt_model.specs.Trace.{Trace, ◌says◌}
use Rattle.salt_model.specs.declared.events.Event.{Event}
use Rattle.salt_model.specs.declared.events.Event.TheVariants.{Down, Opened}
use Rattle.salt_model.specs.declared.events.Why.TheVariants.{Stopped}
use Rattle.salt_model.specs.declared.events.Why.{Why}
use Rattle.law_openings.specs.Openings.{FallsAgain, FallsInOpening, Opens}
use Rattle.std.proofs.Common.{subst, sym, ◌∙◌}
use Rattle.std.specs.Prelude.{Bool, None, Option, Some, false, not, refl, true, ℕ, ◌&&◌, ◌≡◌}

pub trace-stops : (trace : Trace) (why : Why) → IsSound (trace says Down why) → (phase trace ≡ Serving → ⊥) → why ≡ Stopped
trace-stops trace why sound n = by (phase trace) n sound.played.1
  where
    by : (p : Phase) → (p ≡ Serving → ⊥) → MayFall p trace why → why ≡ Stopped
    by Serving n m = absurd (n refl)
    by Opening n m = m.0
    by Fallen n m = m

at-units : (trace : Trace) (e : Event) → is_at_devices trace e ≡ true → is_of_run e ≡ false
at-units trace (Down why) h = cc
at-units trace (Opened boot n) h = cc
at-units trace e h = refl

right-of : (a b : Bool) → (a && b) ≡ true → b ≡ true
right-of true b h = h
right-of false b h = cc

pub trace-falls : (trace : Trace) → IsSound (trace says Down Stopped) → phase trace ≡ Opening →
    FallsInOpening (point_of trace) (point_of (trace says Down Stopped))
trace-falls trace sound opening = by (next trace) refl
  where
    device : is_device_next trace (next trace) ≡ true
    device = right-of (not (is_just_opened trace)) (is_device_next trace (next trace)) (subst (λ (x : Phase). MayFall x trace Stopped) opening sound.played.1).1

    by : (o : Option Event) → next trace ≡ o → FallsInOpening (point_of trace) (point_of (trace says Down Stopped))
    by None e = let d : is_device_next trace None ≡ true = subst (λ o. is_device_next trace o ≡ true) e device in cc
    by (Some event) e =
        let keeps = each-kept trace sound.played.0 sound.well in
        let d : is_device_next trace (Some event) ≡ true = subst (λ o. is_device_next trace o ≡ true) e device in
        let good = good-event trace event (replays trace sound.played.0) (may-stand trace event (at-units trace event d) e) in
        record {
          opening = sym keeps.units.phase ∙ opening;
          event = event;
          comes = e;
          devices = sym (devices-told (state_of trace).units trace event keeps.units sound.played.0 good) ∙ d;
          after = plain-says (Down Stopped) (state_of trace);
          next = refl;
          flight = refl;
        }

pub trace-falls-again : (trace : Trace) → IsSound (trace says Down Stopped) → phase trace ≡ Fallen →
    FallsAgain (point_of trace) (point_of (trace says Down Stopped))
trace-falls-again trace sound fallen = record {
  fallen = sym (each-kept trace sound.played.0 sound.well).units.phase ∙ fallen;
  after = plain-says (Down Stopped) (state_of trace);
  next = refl;
  flight = refl;
}

may-open : (p : Phase) (trace : Trace) (boot n : ℕ) → MayOpen p trace boot n → (p ≡ Fallen) × MayOpen Fallen trace boot n
may-open Fallen trace boot n m = (refl, m)
may-open Opening trace boot n m = absurd m
may-open Serving trace boot n m = absurd m

pub trace-opens : (trace : Trace) (boot n : ℕ) → IsSound (trace says Opened boot n) →
    MayOpen Fallen trace boot n × Opens boot n (point_of trace) (point_of (trace says Opened boot n))
trace-opens trace boot n sound =
    let e = Opened boot n in
    let keeps = each-kept trace sound.played.0 sound.well in
    let m = may-open (phase trace) trace boot n sound.played.1 in
    let read : WatchReading (watch_of (state_of (trace says e)).watch) = plain-reading (state_of (trace says e)).watch (always-in-turn (trace says e)) in (
      m.1,
      record {
        fallen = sym keeps.units.phase ∙ m.0;
        after = plain-says e (state_of trace);
        read = read;
        next = said-kept (as_state (state_of trace)) (as_state (state_of (trace says e))) trace e read keeps sound.played sound.well (plain-says e (state_of trace));
        flight = flight-kept trace e (next (trace says e)) refl;
      },
    )
