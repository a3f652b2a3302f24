-- An engine that was broken off halts at a point.
use Rattle.salt_books.specs.Books.{AreBooks}
use Rattle.salt_books.specs.declared.books.Books.{Books}
use Rattle.salt_engine.specs.Flights.{IsInFlight, flight_of}
use Rattle.salt_engine.specs.Performing.{BreaksOff, IsHalted, IsLost}
use Rattle.salt_engine.specs.Standing.{KnowUnits, LeavesOnDevices, books_in, left_on_devices}
use Rattle.salt_engine.specs.Stored.{IsLeft, LeavesEither, MayBeOther, kept_behind}
use Rattle.salt_engine.specs.declared.flights.InFlight.TheVariants as asked
use Rattle.salt_engine.specs.declared.flights.InFlight.{InFlight}
use Rattle.salt_engine.specs.declared.stage.Stage.{Stage}
use Rattle.salt_engine.proofs.Broken.{breaks-lost}
use Rattle.salt_engine.proofs.Decided.{named-unit}
use Rattle.law_states.specs.OpenUnits.{UnitState}
use Rattle.law_states.specs.Points.{Point}
use Rattle.salt_model.specs.Ends.{flight_told, raised}
use Rattle.salt_model.specs.Kept.{Kept}
use Rattle.salt_model.specs.Next.{decision_in}
use Rattle.salt_model.specs.Turns.{is_statement_line}
use Rattle.salt_model.specs.declared.events.Event.{Event}
use Rattle.salt_model.specs.declared.events.Flight.TheVariants as flight
use Rattle.salt_driver.specs.Standing.{HaltsAt}
use Rattle.salt_driver.specs.Writing.{IsWrittenBy}
use Rattle.salt_storage.specs.Storing.{IsSoundKept}
use Rattle.salt_storage.specs.declared.found.Numbers.{Numbers}
use Rattle.salt_storage.specs.Writing.{ToWrite}
use Rattle.salt_storage.specs.declared.halt.Halt.TheVariants.{Memory}
use Rattle.salt_storage.specs.declared.halt.Halt.{Halt}
use Rattle.std.proofs.Common.{ap, arith, inl, inr, subst, sym, ◌∙◌}
use Rattle.std.specs.Prelude.{Bool, IsSome, None, Option, Some, refl, ℕ, ◌+◌, ◌≡◌, ◌⊎◌}

plus-none : (n : ℕ) → n ≡ n + 0
plus-none n = omega arith

pub raised-none : (k : Kept) → k ≡ raised 0 k
raised-none k = λ i. record k { boot = plus-none k.boot i }

-- what is left of the devices stands at the point

pub left-here : (doubt : Type 0) (a b k : Kept) → MayBeOther doubt a b k → MayBeOther doubt (raised 0 a) (raised 0 b) k
left-here doubt a b k (inl e) = inl (e ∙ raised-none a)
left-here doubt a b k (inr e) = inr (e.0, e.1 ∙ raised-none b)

pub is-left : (doubt : Type 0) (p : Point) (k : Kept) → MayBeOther doubt p.state.units.kept (kept_behind p.flight p.state.units) k → IsLeft doubt 0 p k
is-left doubt p k e = record { boots = 0; most = omega arith; is = left-here doubt p.state.units.kept (kept_behind p.flight p.state.units) k e }

pub either-left : (leaves : Kept → Kept → Type 0) (doubt : Type 0) (p : Point) → LeavesEither leaves doubt p.state.units.kept (kept_behind p.flight p.state.units) →
    (a b : Kept) × leaves a b × IsLeft doubt 0 p a × IsLeft doubt 0 p b
either-left leaves doubt p e = (e.one, e.other, e.left, is-left doubt p e.one e.is_one, is-left doubt p e.other e.is_other)

-- what is told of the decision in flight

pub flight-told : (i : Option InFlight) (f : Option Event) (s : UnitState) → IsInFlight i f s → flight_of i ≡ flight_told f
flight-told None f s h = sym (ap flight_told h)
flight-told (Some (asked.Commit u)) f s h = sym (ap flight_told h.2 ∙ (λ i. Some (flight.Unit (named-unit u s.units h.0 h.1 i))))
flight-told (Some (asked.Branch u b cause)) f s h = sym (ap flight_told h.1)
flight-told (Some (asked.Table d text)) f s h = sym (ap flight_told h.2)
flight-told (Some (asked.Program p text)) f s h = sym (ap flight_told h.2)

pub know-units : (x : Books) (s : UnitState) → AreBooks x s → KnowUnits x s
know-units x s h = record { units = s.unit_count; bases = s.base_count; goes = s.to_go; are = h; going = inr refl }

module _ {H : Type 0} (books_of : H → Books) (holds : Kept → Type 0) (leaves : Kept → Kept → Type 0) (rests : Kept → Type 0) (fills : ToWrite → ℕ → Type 0) (halt : Halt) (stoppable : Bool)
    (found : Option Numbers) (unfound : found ≡ None) (stage : Stage H) (single : Bool) (in_flight : Option InFlight) (q : Point) (b : BreaksOff leaves fills halt stage in_flight q.next q.state.units) (flight : q.flight ≡ decision_in q.next)
  where
    abbrev Halts : Type 0
    Halts =
        HaltsAt (left_on_devices holds leaves rests fills stoppable found (books_in books_of stage) single in_flight) (flight_of in_flight) halt q

    left : LeavesEither leaves (IsSome in_flight) q.state.units.kept (kept_behind q.flight q.state.units)
    left = subst (λ (f : Option Event). LeavesEither leaves (IsSome in_flight) q.state.units.kept (kept_behind f q.state.units)) (sym flight) b.left

    stays : LeavesOnDevices holds leaves (IsSome in_flight) found 0 q
    stays = subst (λ (f : Option Numbers). LeavesOnDevices holds leaves (IsSome in_flight) f 0 q) (sym unfound) (either-left leaves (IsSome in_flight) q left)

    told : IsInFlight in_flight (decision_in q.next) q.state.units → flight_of in_flight ≡ flight_told q.flight
    told flies = flight-told in_flight q.flight q.state.units (subst (λ (f : Option Event). IsInFlight in_flight f q.state.units) (sym flight) flies)

    pub lost : halt ≡ Memory → IsLost stage in_flight q.next q.state.units → Halts
    lost memory l = record {
      reason = inl memory;
      flies = by l.flies;
      full = λ dev h. cc;
      again = λ other. absurd (other memory);
      stays = (stays, tt);
    }
      where
        by : (in_flight ≡ None) ⊎ IsInFlight in_flight (decision_in q.next) q.state.units → ((halt ≡ Memory) × (flight_of in_flight ≡ None)) ⊎ (flight_of in_flight ≡ flight_told q.flight)
        by (inl none) = inl (memory, ap flight_of none)
        by (inr flies) = inr (told flies)

    down : q.state.can_stop ≡ stoppable → single ≡ is_statement_line q.state.units.line → IsSoundKept q.state.units.kept →
        IsHalted fills halt stage in_flight q.next q.state.units → Halts
    down stops line kept h =
        let flies : IsInFlight in_flight q.flight q.state.units = subst (λ (f : Option Event). IsInFlight in_flight f q.state.units) (sym flight) h.flies in
        record {
          reason = inr (h.event, h.is, h.devices);
          flies = inr (told h.flies);
          full = λ dev is. let w = h.full dev is in (w.0, subst (λ (m : Option Event). IsWrittenBy q.state.units m w.0) (sym h.is) w.1, w.2);
          again = λ other. record {
            left = stays;
            knows = (h.books, ap (books_in books_of) h.there, know-units h.books q.state.units h.are);
            sound = kept;
            can_stop = stops;
            line = line;
            flies = flies;
          };
          stays = (stays, tt);
        }

    pub halts : q.state.can_stop ≡ stoppable → single ≡ is_statement_line q.state.units.line → IsSoundKept q.state.units.kept → Halts
    halts stops line kept = by b.how
      where
        by : ((halt ≡ Memory) × IsLost stage in_flight q.next q.state.units) ⊎ IsHalted fills halt stage in_flight q.next q.state.units → Halts
        by (inl l) = lost l.0 l.1
        by (inr h) = down stops line kept h

-- memory ran out here, where this is left
pub memory-at : {H : Type 0} (books_of : H → Books) (holds : Kept → Type 0) (leaves : Kept → Kept → Type 0) (rests : Kept → Type 0) (fills : ToWrite → ℕ → Type 0) (stoppable : Bool)
    (found : Option Numbers) → found ≡ None → (stage : Stage H) (single : Bool) (in_flight : Option InFlight) (p : Point) (k : Kept) → p.flight ≡ decision_in p.next → leaves k k →
    MayBeOther (IsSome in_flight) p.state.units.kept (kept_behind (decision_in p.next) p.state.units) k → IsLost stage in_flight p.next p.state.units →
    HaltsAt (left_on_devices holds leaves rests fills stoppable found (books_in books_of stage) single in_flight) (flight_of in_flight) Memory p
memory-at books_of holds leaves rests fills stoppable found unfound stage single in_flight p k flight left is l =
    lost books_of holds leaves rests fills Memory stoppable found unfound stage single in_flight p (breaks-lost leaves fills stage in_flight p.next p.state.units k left is l) flight refl l

-- as the halt is passed on
pub memory-as : {H : Type 0} (books_of : H → Books) (holds : Kept → Type 0) (leaves : Kept → Kept → Type 0) (rests : Kept → Type 0) (fills : ToWrite → ℕ → Type 0) (stoppable : Bool)
    (stage : Stage H) (single : Bool) (in_flight : Option InFlight) (halt : Halt) (p : Point) (k : Kept) → halt ≡ Memory → p.flight ≡ decision_in p.next → leaves k k →
    MayBeOther (IsSome in_flight) p.state.units.kept (kept_behind (decision_in p.next) p.state.units) k → IsLost stage in_flight p.next p.state.units →
    HaltsAt (left_on_devices holds leaves rests fills stoppable None (books_in books_of stage) single in_flight) (flight_of in_flight) halt p
memory-as books_of holds leaves rests fills stoppable stage single in_flight halt p k memory flight left is l =
    subst (λ (h : Halt). HaltsAt (left_on_devices holds leaves rests fills stoppable None (books_in books_of stage) single in_flight) (flight_of in_flight) h p)
    (sym memory) (memory-at books_of holds leaves rests fills stoppable None refl stage single in_flight p k flight left is l)
