-- A run falls in an opening and while it is down, and is opened again.
use Rattle.law_states.proofs.NextTold.{devices-told, may-stand}
use Rattle.law_states.proofs.PointsGoOn.{flight-kept, said-kept, says-point}
use Rattle.law_states.proofs.StatesGoOn.{states-say, states-start}
use Rattle.law_states.specs.Follows.{opening_in, said_in, unit_of}
use Rattle.law_states.specs.Keeps.{KeepsUnits}
use Rattle.law_states.specs.Laws.{IsSound, is_of_run}
use Rattle.law_states.specs.Nexts.{flight_next, said_next}
use Rattle.law_states.specs.OpenUnits.{UnitState, can_go_in, next_turn_in}
use Rattle.law_states.specs.Points.{IsIdle, KeepsPoint, Point, Says}
use Rattle.law_states.specs.Readings.{WatchReading, beside_by}
use Rattle.law_states.specs.States.{State, started}
use Rattle.law_states.specs.Told.{at_devices_in}
use Rattle.law_story.proofs.Replays.{good-event, replays}
use Rattle.law_story.proofs.Upheld.{holds, may-fit}
use Rattle.law_story.proofs.WellKept.{of-start}
use Rattle.salt_model.specs.Kept.{WellKept}
use Rattle.salt_model.specs.Next.{next}
use Rattle.salt_model.specs.Phases.{Fallen, Opening, Phase, Serving, phase}
use Rattle.salt_model.specs.Played.{IsPlayed}
use Rattle.salt_model.specs.Stops.{MayFall, MayOpen, is_device_next, is_just_opened}
use Rattle.salt_model.specs.Trace.{Start, Trace, from, start_of, ◌asks◌, ◌says◌, ◌turns◌}
use Rattle.salt_model.specs.Turns.{owes_turn, still_to_go}
use Rattle.salt_model.specs.declared.events.Event.{Event}
use Rattle.salt_model.specs.declared.events.Event.TheVariants.{Down, Early, Opened, Ready, Refused}
use Rattle.salt_model.specs.declared.events.Why.TheVariants.{Stopped}
use Rattle.law_openings.specs.Openings.{FallsAgain, FallsInOpening, Opens}
use Rattle.salt_values.specs.declared.id.Id.{Id}
use Rattle.std.proofs.Common.{ap, inl, inr, subst, sym, ◌∙◌}
use Rattle.std.specs.List.{find}
use Rattle.std.specs.Option.{option_or}
use Rattle.std.specs.Prelude.{List, None, Option, Some, [], cond, false, not, refl, true, ℕ, ◌&&◌, ◌≡◌, ◌⊎◌}

-- what follows an event of an opening is told by the states alone
pub said-in-opening : (e : Event) (old new : State) (x : WatchReading new.watch) (flight : Option Event) → is_of_run e ≡ false →
    new.units.phase ≡ Opening → said_next e old new x flight ≡ opening_in new.units e (unit_of e old.units new.units)
said-in-opening (Down why) old new x flight r h = cc
said-in-opening (Opened boot n) old new x flight r h = cc
said-in-opening e old new x flight r h = ap (λ (p : Phase). said_in p new.units (beside_by new x) e (unit_of e old.units new.units)) h

-- an event that isn't an Opened
pub said-last : (trace : Trace) (e : Event) → is_of_run e ≡ false → is_just_opened (trace says e) ≡ false
said-last trace (Opened boot n) r = cc
said-last trace e r = refl

-- what is at the devices is no stop and no opening
of-units : (s : UnitState) (e : Event) → at_devices_in s e ≡ true → is_of_run e ≡ false
of-units s (Down why) h = cc
of-units s (Opened boot n) h = cc
of-units s e h = refl

-- behind an event of an opening that isn't its Opened
pub falls-in-opening : (old new : Point) (trace : Trace) (e : Event) → KeepsPoint old (trace says e) → IsSound (trace says e) → is_of_run e ≡ false →
    FallsInOpening old new → KeepsPoint new (trace says e says Down Stopped) × IsSound (trace says e says Down Stopped)
falls-in-opening old new trace e k sound r f =
    let here = trace says e in
    let comes : next here ≡ Some f.event = k.next ∙ f.comes in
    let good = good-event here f.event (replays here sound.played) (may-stand here f.event (of-units old.state.units f.event f.devices) comes) in
    let device : is_device_next here (next here) ≡ true = ap (is_device_next here) comes ∙ devices-told old.state.units here f.event k.state.units sound.played good ∙ f.devices in
    let drain : (not (is_just_opened here) && is_device_next here (next here)) ≡ true = (λ i. not (said-last trace e r i) && device i) in
    let p : IsPlayed (here says Down Stopped) = (sound.played, subst (λ (x : Phase). MayFall x here Stopped) (sym (k.state.units.phase ∙ f.opening)) (refl, drain)) in (
      record {
        state = states-say old.state new.state here (Down Stopped) k.state p sound.well f.after;
        next = sym f.next;
        flight = k.flight ∙ sym f.flight;
      },
      record { played = p; well = sound.well },
    )

pub falls-again : (old new : Point) (trace : Trace) → KeepsPoint old trace → IsSound trace → FallsAgain old new →
    KeepsPoint new (trace says Down Stopped) × IsSound (trace says Down Stopped)
falls-again old new trace k sound f =
    let p : IsPlayed (trace says Down Stopped) = (sound.played, subst (λ (x : Phase). MayFall x trace Stopped) (sym (k.state.units.phase ∙ f.fallen)) refl) in (
      record {
        state = states-say old.state new.state trace (Down Stopped) k.state p sound.well f.after;
        next = sym f.next;
        flight = k.flight ∙ sym f.flight;
      },
      record { played = p; well = sound.well },
    )

pub opens-point : (boot n : ℕ) (old new : Point) (trace : Trace) → KeepsPoint old trace → IsSound trace → MayOpen Fallen trace boot n →
    Opens boot n old new → KeepsPoint new (trace says Opened boot n) × IsSound (trace says Opened boot n)
opens-point boot n old new trace k sound m a =
    let e = Opened boot n in
    let p : IsPlayed (trace says e) = (sound.played, subst (λ (x : Phase). MayOpen x trace boot n) (sym (k.state.units.phase ∙ a.fallen)) m) in
    let now = said-kept old.state new.state trace e a.read k.state p sound.well a.after ∙ ap (said_next e old.state new.state a.read) k.flight ∙ sym a.next in (
      record {
        state = states-say old.state new.state trace e k.state p sound.well a.after;
        next = now;
        flight = flight-kept trace e new.next now ∙ ap (λ f. flight_next e f new.next) k.flight ∙ sym a.flight;
      },
      record { played = p; well = sound.well },
    )

pub start-point : (k : Start) → WellKept k.kept → KeepsPoint (record { state = started k; next = None; flight = None }) (from k) × IsSound (from k)
start-point k w = (record { state = states-start k; next = refl; flight = refl }, record { played = tt; well = w })

-- while the run is down or is opened, `go all` has nothing left to turn to, and no line is owed a turn

abbrev pub IsNotServing : Phase → Type 0
IsNotServing p = (p ≡ Fallen) ⊎ (p ≡ Opening)

pub serves-not : (p : Phase) → p ≡ Serving → IsNotServing p → ⊥
serves-not p s (inl h) = cc
serves-not p s (inr h) = cc

fits-ready : (trace : Trace) → IsPlayed (trace says Ready) → WellKept (start_of trace).kept → phase trace ≡ Opening
fits-ready trace p w = (may-fit trace Ready (holds trace p.0 (of-start (start_of trace).kept w)).comes p.1).0

fits-early : (trace : Trace) (bs : List Id) → IsPlayed (trace says Early bs) → WellKept (start_of trace).kept → phase trace ≡ Opening
fits-early trace bs p w = (may-fit trace (Early bs) (holds trace p.0 (of-start (start_of trace).kept w)).comes p.1).0

pub none-left : (trace : Trace) → IsPlayed trace → WellKept (start_of trace).kept → IsNotServing (phase trace) → still_to_go trace ≡ []
none-left (from k) p w h = refl
none-left (trace asks asked) p w h = absurd (serves-not (phase trace) p.1.0 h)
none-left (trace turns b) p w h = absurd (serves-not (phase trace) p.1 h)
none-left (trace says Down why) p w h = refl
none-left (trace says Opened boot n) p w h =
    none-left trace p.0 w (inl (may-fit trace (Opened boot n) (holds trace p.0 (of-start (start_of trace).kept w)).comes p.1).0)
none-left (trace says Ready) p w h = absurd (serves-not Serving refl h)
none-left (trace says Early bs) p w h = absurd (serves-not Serving refl h)
none-left (trace says e) p w h = none-left trace p.0 w h

none-owed : (trace : Trace) → IsPlayed trace → WellKept (start_of trace).kept → IsNotServing (phase trace) → owes_turn trace ≡ false
none-owed (from k) p w h = refl
none-owed (trace asks asked) p w h = absurd (serves-not (phase trace) p.1.0 h)
none-owed (trace turns b) p w h = absurd (serves-not (phase trace) p.1 h)
none-owed (trace says Down why) p w h = refl
none-owed (trace says Refused r) p w h = refl
none-owed (trace says Opened boot n) p w h =
    none-owed trace p.0 w (inl (may-fit trace (Opened boot n) (holds trace p.0 (of-start (start_of trace).kept w)).comes p.1).0)
none-owed (trace says Ready) p w h = absurd (serves-not Serving refl h)
none-owed (trace says Early bs) p w h = absurd (serves-not Serving refl h)
none-owed (trace says e) p w h = none-owed trace p.0 w h

pub none-to-go : (s : UnitState) (trace : Trace) → KeepsUnits s trace → IsSound trace → (s.phase ≡ Fallen) ⊎ (s.phase ≡ Opening) → s.to_go ≡ []
none-to-go s trace keeps sound h = sym keeps.to_go ∙ none-left trace sound.played sound.well (subst IsNotServing (sym keeps.phase) h)

-- behind the end of an opening a run waits for a line

none-turns : (s : UnitState) → s.to_go ≡ [] → s.owes ≡ false → next_turn_in s ≡ None
none-turns s e f = λ i. option_or (find (can_go_in s) (e i)) (cond (f i) (find (can_go_in s) s.named) None)

idle-behind : (old new : Point) (trace : Trace) → KeepsPoint old trace → IsSound trace → phase trace ≡ Opening → new.state.units.phase ≡ Serving →
    new.state.units.to_go ≡ old.state.units.to_go → new.state.units.owes ≡ old.state.units.owes → new.next ≡ None → IsIdle new
idle-behind old new trace k sound opening serves to_go owes next =
    let its = k.state.units in
    let owed : old.state.units.owes ≡ false = sym its.owes ∙ none-owed trace sound.played sound.well (inr opening) in
    let none = none-to-go old.state.units trace its sound (inr (sym its.phase ∙ opening)) in
    record { serves = serves; next = next; turn = none-turns new.state.units (to_go ∙ none) (owes ∙ owed) }

pub ready-idle : (old new : Point) (trace : Trace) → KeepsPoint old trace → IsSound trace → Says Ready old new → IsIdle new
ready-idle old new trace k sound a =
    let on = says-point Ready old new trace k sound a refl in
    let serves : new.state.units.phase ≡ Serving = ap (λ (s : UnitState). s.phase) a.after.units in
    idle-behind old new trace k sound (fits-ready trace on.1.played sound.well) serves
    (ap (λ (s : UnitState). s.to_go) a.after.units) (ap (λ (s : UnitState). s.owes) a.after.units)
    (a.next ∙ ap (λ (p : Phase). said_in p new.state.units (beside_by new.state a.read) Ready None) serves)

pub early-idle : (bs : List Id) (old new : Point) (trace : Trace) → KeepsPoint old trace → IsSound trace → Says (Early bs) old new → IsIdle new
early-idle bs old new trace k sound a =
    let on = says-point (Early bs) old new trace k sound a refl in
    let serves : new.state.units.phase ≡ Serving = ap (λ (s : UnitState). s.phase) a.after.units in
    idle-behind old new trace k sound (fits-early trace bs on.1.played sound.well) serves
    (ap (λ (s : UnitState). s.to_go) a.after.units) (ap (λ (s : UnitState). s.owes) a.after.units)
    (a.next ∙ ap (λ (p : Phase). said_in p new.state.units (beside_by new.state a.read) (Early bs) None) serves)
