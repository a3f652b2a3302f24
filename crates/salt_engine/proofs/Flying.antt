-- What is in flight while a run is up: the decision that comes next; and what an event keeps.
use Rattle.salt_engine.specs.Flights.{IsInFlight}
use Rattle.salt_engine.specs.Stored.{kept_behind}
use Rattle.salt_engine.specs.declared.flights.InFlight.TheVariants as asked
use Rattle.salt_engine.specs.declared.flights.InFlight.{InFlight}
use Rattle.law_states.specs.Laws.{is_of_run}
use Rattle.law_states.specs.OpenUnits.{UnitState}
use Rattle.law_states.specs.Points.{KeepsPoint, Point}
use Rattle.law_states.specs.Steps.{units_after}
use Rattle.salt_model.specs.Next.{decision_in, flight, next}
use Rattle.salt_model.specs.Phases.{Fallen, phase}
use Rattle.salt_model.specs.Trace.{Trace, from, ◌asks◌, ◌says◌, ◌turns◌}
use Rattle.salt_model.specs.declared.events.End.TheVariants.{Branched, Committed, Cut, Failed, RolledBack, Victim}
use Rattle.salt_model.specs.declared.events.Event.TheVariants.{Down, Ended, Opened}
use Rattle.salt_model.specs.declared.events.Event.{Event}
use Rattle.std.proofs.Common.{ap, subst, sym, ◌∙◌}
use Rattle.std.specs.Prelude.{None, Option, Some, false, refl, ◌≡◌}

flight-comes : (trace : Trace) → (phase trace ≡ Fallen → ⊥) → flight trace ≡ decision_in (next trace)
flight-comes (from k) up = absurd (up refl)
flight-comes (trace asks asked) up = refl
flight-comes (trace turns b) up = refl
flight-comes (trace says Down why) up = absurd (up refl)
flight-comes (trace says Opened boot n) up = refl
flight-comes (trace says e) up = refl

pub flight-next : (p : Point) (trace : Trace) → KeepsPoint p trace → (p.state.units.phase ≡ Fallen → ⊥) → p.flight ≡ decision_in p.next
flight-next p trace keeps up = sym keeps.flight ∙ flight-comes trace (λ h. up (sym keeps.state.units.phase ∙ h)) ∙ ap decision_in keeps.next

pub kept-decided : (e : Event) (s : UnitState) → is_of_run e ≡ false → (units_after e s).kept ≡ kept_behind (decision_in (Some e)) s
kept-decided (Ended u (Committed n)) s h = refl
kept-decided (Ended u (Failed c)) s h = refl
kept-decided (Ended u (Branched n c)) s h = refl
kept-decided (Ended u RolledBack) s h = refl
kept-decided (Ended u Victim) s h = refl
kept-decided (Ended u Cut) s h = refl
kept-decided (Down why) s h = cc
kept-decided (Opened boot n) s h = cc
kept-decided e s h = refl

-- an event that no decision makes keeps what is kept
pub undecided-keeps : (e : Event) (s : UnitState) → is_of_run e ≡ false → decision_in (Some e) ≡ None → (units_after e s).kept ≡ s.kept
undecided-keeps e s plain none = kept-decided e s plain ∙ ap (λ (o : Option Event). kept_behind o s) none

-- NOTHING IS IN FLIGHT where no decision is

pub none-flies : (i : Option InFlight) (d : Option Event) (s : UnitState) → i ≡ None → d ≡ None → IsInFlight i d s
none-flies i d s none undecided = subst (λ (j : Option InFlight). IsInFlight j d s) (sym none) undecided

pub flies-none : (i : Option InFlight) (s : UnitState) → IsInFlight i None s → i ≡ None
flies-none None s h = refl
flies-none (Some (asked.Commit u)) s h = let no = h.2 in cc
flies-none (Some (asked.Branch u b cause)) s h = let no = h.1 in cc
flies-none (Some (asked.Table d text)) s h = let no = h.2 in cc
flies-none (Some (asked.Program p text)) s h = let no = h.2 in cc
