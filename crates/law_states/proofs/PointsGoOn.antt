-- Moves of a point are moves of its trace.
use Rattle.law_states.proofs.BesideKept.{beside-kept, under-way-kept}
use Rattle.law_states.proofs.NextTold.{asked-told, may-stand, opened-told, said-told, turned-told}
use Rattle.law_states.proofs.Refused.{refusal-told}
use Rattle.law_states.proofs.StatesGoOn.{states-ask, states-say, states-turn}
use Rattle.law_states.proofs.Told.{next-turn-told}
use Rattle.law_states.specs.Laws.{IsSound, is_of_run}
use Rattle.law_states.specs.Nexts.{asked_next, flight_next, next_turn_of, refusal_of, said_next, turned_next}
use Rattle.law_states.specs.Points.{Ask, Asks, IsIdle, KeepsPoint, TraceStep, Moves, Point, Runs, Say, Says, Turn, Turns, stepped, told_by, trace_on}
use Rattle.law_states.specs.Readings.{WatchReading, beside_by, under_way_of}
use Rattle.law_states.specs.States.{After, Keeps, State, asked_of, turned_to}
use Rattle.law_states.specs.Steps.{units_asked}
use Rattle.law_states.specs.Follows.{said_in, unit_of}
use Rattle.law_states.specs.Told.{line_in}
use Rattle.salt_model.specs.Kept.{WellKept}
use Rattle.salt_model.specs.Next.{decision_in, flight, next}
use Rattle.salt_model.specs.Phases.{phase}
use Rattle.salt_model.specs.Played.{IsPlayed}
use Rattle.salt_model.specs.Refusals.{refusal}
use Rattle.salt_model.specs.Segments.{IsComplete}
use Rattle.salt_model.specs.Trace.{Asked, Trace, line_asked, start_of, story_of, ◌asks◌, ◌says◌, ◌turns◌}
use Rattle.salt_model.specs.Turns.{next_turn}
use Rattle.salt_model.specs.declared.events.Event.{Event}
use Rattle.salt_model.specs.declared.events.Event.TheVariants.{Down, Opened, Refused}
use Rattle.salt_values.specs.declared.id.Id.{Id}
use Rattle.std.proofs.Common.{ap, subst, sym, ◌∙◌}
use Rattle.std.specs.Option.{option_or}
use Rattle.std.specs.Prelude.{List, Option, [], false, option_map, refl, ◌++◌, ◌∷◌, ◌≡◌}

pub refusal-kept : (s : State) (trace : Trace) (asked : Asked) → Keeps s trace → IsPlayed trace → WellKept (start_of trace).kept →
    refusal trace asked ≡ refusal_of s asked
refusal-kept s trace asked keeps p w = refusal-told s.units trace keeps.units (under_way_of s) (under-way-kept s trace keeps p w) asked

pub asked-kept : (s : State) (trace : Trace) (asked : Asked) (x : WatchReading s.watch) → Keeps s trace → IsPlayed (trace asks asked) →
    WellKept (start_of trace).kept → next (trace asks asked) ≡ asked_next s x asked
asked-kept s trace asked x keeps p w =
    let now = asked_of asked s in
    asked-told s.units trace asked (beside_by now x) (beside-kept now (trace asks asked) (states-ask s trace asked keeps p.0 w) p w x) keeps.units
    ∙ ap (λ r. option_or (option_map Refused r) (line_in (units_asked asked s.units) (beside_by now x).clash (beside_by now x).items (line_asked asked))) (refusal-kept s trace asked keeps p.0 w)

pub turned-kept : (s : State) (trace : Trace) (b : Id) (x : WatchReading s.watch) → Keeps s trace → IsPlayed (trace turns b) →
    WellKept (start_of trace).kept → next (trace turns b) ≡ turned_next s x b
turned-kept s trace b x keeps p w =
    let now = turned_to b s in
    turned-told s.units trace b (beside_by now x) (beside-kept now (trace turns b) (states-turn s trace b keeps p.0 w) p w x) keeps.units

pub turn-kept : (s : State) (trace : Trace) → Keeps s trace → next_turn trace ≡ next_turn_of s
turn-kept s trace keeps = next-turn-told s.units trace keeps.units

pub said-kept : (old new : State) (trace : Trace) (e : Event) (x : WatchReading new.watch) → Keeps old trace → IsPlayed (trace says e) →
    WellKept (start_of trace).kept → After e old new → next (trace says e) ≡ said_next e old new x (flight trace)
said-kept old new trace (Down why) x keeps p w a = refl
said-kept old new trace (Opened boot n) x keeps p w a =
    opened-told new.units (trace says Opened boot n) (states-say old new trace (Opened boot n) keeps p w a).units n (flight trace)
said-kept old new trace e x keeps p w a =
    let after = states-say old new trace e keeps p w a in
    said-told old.units trace e (phase (trace says e)) (beside_by new x) (beside-kept new (trace says e) after p w x) keeps.units p w
    ∙ (λ i. said_in (after.units.phase i) (sym a.units i) (beside_by new x) e (unit_of e old.units (sym a.units i)))

pub flight-kept : (trace : Trace) (e : Event) (now : Option Event) → next (trace says e) ≡ now →
    flight (trace says e) ≡ flight_next e (flight trace) now
flight-kept trace (Down why) now h = refl
flight-kept trace (Opened boot n) now h = ap decision_in h
flight-kept trace e now h = ap decision_in h

-- a point goes on with its trace

pub idle-complete : (p : Point) (trace : Trace) → KeepsPoint p trace → IsIdle p → IsComplete trace
idle-complete p trace k idle = (k.state.units.phase ∙ idle.serves, k.next ∙ idle.next, turn-kept p.state trace k.state ∙ idle.turn)

pub asks-point : (asked : Asked) (old new : Point) (trace : Trace) → KeepsPoint old trace → IsSound trace → Asks asked old new →
    KeepsPoint new (trace asks asked) × IsSound (trace asks asked)
asks-point asked old new trace k sound a =
    let p : IsPlayed (trace asks asked) = (sound.played, idle-complete old trace k a.idle) in
    let n = asked-kept old.state trace asked a.read k.state p sound.well ∙ sym a.next in (
      record {
        state = subst (λ s. Keeps s (trace asks asked)) (sym a.state) (states-ask old.state trace asked k.state sound.played sound.well);
        next = n;
        flight = ap decision_in n ∙ sym a.flight;
      },
      record { played = p; well = sound.well },
    )

pub turns-point : (b : Id) (old new : Point) (trace : Trace) → KeepsPoint old trace → IsSound trace → Turns b old new →
    KeepsPoint new (trace turns b) × IsSound (trace turns b)
turns-point b old new trace k sound a =
    let p : IsPlayed (trace turns b) = (sound.played, k.state.units.phase ∙ a.serves, k.next ∙ a.none, turn-kept old.state trace k.state ∙ a.turn) in
    let n = turned-kept old.state trace b a.read k.state p sound.well ∙ sym a.next in (
      record {
        state = subst (λ s. Keeps s (trace turns b)) (sym a.state) (states-turn old.state trace b k.state sound.played sound.well);
        next = n;
        flight = ap decision_in n ∙ sym a.flight;
      },
      record { played = p; well = sound.well },
    )

pub says-point : (e : Event) (old new : Point) (trace : Trace) → KeepsPoint old trace → IsSound trace → Says e old new → is_of_run e ≡ false →
    KeepsPoint new (trace says e) × IsSound (trace says e)
says-point e old new trace k sound a r =
    let p : IsPlayed (trace says e) = (sound.played, may-stand trace e r (k.next ∙ a.comes)) in
    let n = said-kept old.state new.state trace e a.read k.state p sound.well a.after ∙ ap (said_next e old.state new.state a.read) k.flight ∙ sym a.next in (
      record {
        state = states-say old.state new.state trace e k.state p sound.well a.after;
        next = n;
        flight = flight-kept trace e new.next n ∙ ap (λ f. flight_next e f new.next) k.flight ∙ sym a.flight;
      },
      record { played = p; well = sound.well },
    )

pub moves-point : (m : TraceStep) (old new : Point) (trace : Trace) → KeepsPoint old trace → IsSound trace → Moves m old new →
    KeepsPoint new (stepped trace m) × IsSound (stepped trace m)
moves-point (Ask asked) old new trace k sound a = asks-point asked old new trace k sound a
moves-point (Turn b) old new trace k sound a = turns-point b old new trace k sound a
moves-point (Say e) old new trace k sound a = says-point e old new trace k sound a.0 a.1

pub runs-point : (ms : List TraceStep) (old new : Point) (trace : Trace) → KeepsPoint old trace → IsSound trace → Runs old ms new →
    KeepsPoint new (trace_on trace ms) × IsSound (trace_on trace ms)
runs-point [] old new trace k sound r = (subst (λ p. KeepsPoint p trace) r k, sound)
runs-point (m ∷ ms) old new trace k sound r = let n = moves-point m old r.0 trace k sound r.1 in runs-point ms r.0 new (stepped trace m) n.0 n.1 r.2

-- one move more
pub runs-append : (ms : List TraceStep) (m : TraceStep) (old mid new : Point) → Runs old ms mid → Moves m mid new → Runs old (ms ++ m ∷ []) new
runs-append [] m old mid new r a = (new, subst (λ p. Moves m p new) (sym r) a, refl)
runs-append (n ∷ ms) m old mid new r a = (r.0, r.1, runs-append ms m r.0 mid new r.2 a)

pub told-append : (ms : List TraceStep) (m : TraceStep) → told_by (ms ++ m ∷ []) ≡ told_by ms ++ told_by (m ∷ [])
told-append [] m = refl
told-append (Say e ∷ ms) m = ap (λ es. e ∷ es) (told-append ms m)
told-append (Ask asked ∷ ms) m = told-append ms m
told-append (Turn b ∷ ms) m = told-append ms m

pub append-one : (es fs : List Event) (e : Event) → (es ++ e ∷ []) ++ fs ≡ es ++ e ∷ fs
append-one [] fs e = refl
append-one (x ∷ es) fs e = ap (λ l. x ∷ l) (append-one es fs e)

pub no-more : (es : List Event) → es ++ [] ≡ es
no-more [] = refl
no-more (e ∷ es) = ap (λ l. e ∷ l) (no-more es)

pub story-on : (ms : List TraceStep) (trace : Trace) → story_of (trace_on trace ms) ≡ story_of trace ++ told_by ms
story-on [] trace = sym (no-more (story_of trace))
story-on (Say e ∷ ms) trace = story-on ms (trace says e) ∙ append-one (story_of trace) (told_by ms) e
story-on (Ask asked ∷ ms) trace = story-on ms (trace asks asked)
story-on (Turn b ∷ ms) trace = story-on ms (trace turns b)

pub start-on : (ms : List TraceStep) (trace : Trace) → start_of (trace_on trace ms) ≡ start_of trace
start-on [] trace = refl
start-on (Say e ∷ ms) trace = start-on ms (trace says e)
start-on (Ask asked ∷ ms) trace = start-on ms (trace asks asked)
start-on (Turn b ∷ ms) trace = start-on ms (trace turns b)
