-- Each trace that is played moves its point as its lines, turns and events go.
use Rattle.law_states.proofs.EachTrace.{always-in-turn, each-kept}
use Rattle.law_states.proofs.PlainGoesOn.{plain-reading, plain-says}
use Rattle.law_states.proofs.NextTold.{devices-told, may-stand}
use Rattle.law_states.proofs.PointsGoOn.{asked-kept, flight-kept, said-kept, turn-kept, turned-kept}
use Rattle.law_states.specs.Laws.{is_of_run}
use Rattle.law_states.specs.PlainStates.{as_state, state_of, watch_of}
use Rattle.law_states.specs.Points.{Asks, Falls, KeepsPoint, Says, Turns, point_of}
use Rattle.law_states.specs.Readings.{WatchReading}
use Rattle.law_story.proofs.Replays.{good-event, replays}
use Rattle.salt_model.specs.Kept.{WellKept}
use Rattle.salt_model.specs.Next.{next}
use Rattle.salt_model.specs.Phases.{Serving, phase}
use Rattle.salt_model.specs.Played.{IsPlayed}
use Rattle.salt_model.specs.Segments.{May}
use Rattle.salt_model.specs.Stops.{MayFall, is_at_devices, is_device_next}
use Rattle.salt_model.specs.Trace.{Asked, Trace, start_of, ◌asks◌, ◌says◌, ◌turns◌}
use Rattle.salt_model.specs.declared.events.Event.{Event}
use Rattle.salt_model.specs.declared.events.Event.TheVariants.{Down, Opened}
use Rattle.salt_model.specs.declared.events.Why.{Why}
use Rattle.salt_values.specs.declared.id.Id.{Id}
use Rattle.std.proofs.Common.{subst, sym, ◌∙◌}
use Rattle.std.specs.Prelude.{None, Option, Some, false, refl, true, ◌≡◌}

reading-of : (trace : Trace) → WatchReading (watch_of (state_of trace).watch)
reading-of trace = plain-reading (state_of trace).watch (always-in-turn trace)

pub point-kept : (trace : Trace) → IsPlayed trace → WellKept (start_of trace).kept → KeepsPoint (point_of trace) trace
point-kept trace p w = record { state = each-kept trace p w; next = refl; flight = refl }

-- what may stand, and is no stop and no opening, comes next
stands-next : (trace : Trace) (e : Event) → is_of_run e ≡ false → May trace e → next trace ≡ Some e
stands-next trace (Down why) h m = cc
stands-next trace (Opened boot n) h m = cc
stands-next trace e h m = m

pub trace-says : (trace : Trace) (e : Event) → IsPlayed (trace says e) → WellKept (start_of trace).kept → is_of_run e ≡ false →
    Says e (point_of trace) (point_of (trace says e))
trace-says trace e p w h = record {
  comes = stands-next trace e h p.1;
  after = plain-says e (state_of trace);
  read = reading-of (trace says e);
  next = said-kept (as_state (state_of trace)) (as_state (state_of (trace says e))) trace e (reading-of (trace says e)) (each-kept trace p.0 w) p w (plain-says e (state_of trace));
  flight = flight-kept trace e (next (trace says e)) refl;
}

pub trace-asks : (trace : Trace) (asked : Asked) → IsPlayed (trace asks asked) → WellKept (start_of trace).kept →
    Asks asked (point_of trace) (point_of (trace asks asked))
trace-asks trace asked p w = let keeps = each-kept trace p.0 w in record {
  idle = record { serves = sym keeps.units.phase ∙ p.1.0; next = p.1.1; turn = sym (turn-kept (as_state (state_of trace)) trace keeps) ∙ p.1.2 };
  state = refl;
  read = reading-of trace;
  next = asked-kept (as_state (state_of trace)) trace asked (reading-of trace) keeps p w;
  flight = refl;
}

pub trace-turns : (trace : Trace) (b : Id) → IsPlayed (trace turns b) → WellKept (start_of trace).kept →
    Turns b (point_of trace) (point_of (trace turns b))
trace-turns trace b p w = let keeps = each-kept trace p.0 w in record {
  serves = sym keeps.units.phase ∙ p.1;
  none = p.2;
  turn = sym (turn-kept (as_state (state_of trace)) trace keeps) ∙ p.3;
  state = refl;
  read = reading-of trace;
  next = turned-kept (as_state (state_of trace)) trace b (reading-of trace) keeps p w;
  flight = refl;
}

-- what is at the devices is no stop and no opening
is-of-units : (trace : Trace) (e : Event) → is_at_devices trace e ≡ true → is_of_run e ≡ false
is-of-units trace (Down why) h = cc
is-of-units trace (Opened boot n) h = cc
is-of-units trace e h = refl

pub trace-falls : (trace : Trace) (why : Why) → IsPlayed (trace says Down why) → WellKept (start_of trace).kept → phase trace ≡ Serving →
    Falls why (point_of trace) (point_of (trace says Down why))
trace-falls trace why p w serves = by (next trace) refl
  where
    device : is_device_next trace (next trace) ≡ true
    device = subst (λ x. MayFall x trace why) serves p.1

    by : (o : Option Event) → next trace ≡ o → Falls why (point_of trace) (point_of (trace says Down why))
    by None e = let d : is_device_next trace None ≡ true = subst (λ o. is_device_next trace o ≡ true) e device in cc
    by (Some event) e =
        let keeps = each-kept trace p.0 w in
        let d : is_at_devices trace event ≡ true = subst (λ o. is_device_next trace o ≡ true) e device in
        let good = good-event trace event (replays trace p.0) (may-stand trace event (is-of-units trace event d) e) in
        record {
          serves = sym keeps.units.phase ∙ serves;
          event = event;
          comes = e;
          devices = sym (devices-told (state_of trace).units trace event keeps.units p.0 good) ∙ d;
          after = plain-says (Down why) (state_of trace);
          next = refl;
          flight = refl;
        }
