-- A boot begins over what was found: the books and the decision in flight are those of the state behind its Opened.
use Rattle.salt_books.specs.Books.{AreBooks}
use Rattle.salt_books.specs.declared.books.Books.{Books}
use Rattle.salt_database.proofs.Draining.{can-drain}
use Rattle.salt_database.proofs.Falling.{IsCounted, counts}
use Rattle.salt_database.proofs.Resting.{is_resting, rests-only}
use Rattle.salt_database.specs.Finding.{BeginsOpening, Flies, IsOpenedBy, RestsOrFlies, first_in}
use Rattle.salt_engine.specs.Deciding.{branches_in}
use Rattle.salt_engine.specs.Flights.{IsInFlight}
use Rattle.salt_engine.specs.Standing.{KnowUnits}
use Rattle.salt_engine.specs.declared.flights.InFlight.{InFlight}
use Rattle.salt_engine.specs.declared.flights.InFlight.TheVariants as asked
use Rattle.law_states.specs.Follows.{opened_in}
use Rattle.law_states.specs.Keeps.{KeepsUnits}
use Rattle.law_states.specs.Laws.{IsSound}
use Rattle.law_states.specs.OpenUnits.{UnitState}
use Rattle.law_states.specs.States.{State}
use Rattle.law_states.specs.Steps.{units_after}
use Rattle.law_states.specs.Told.{commits_in, next_decision_number}
use Rattle.salt_model.specs.Next.{decision_in}
use Rattle.salt_model.specs.Phases.{Opening}
use Rattle.salt_model.specs.Trace.{Trace, ◌says◌}
use Rattle.salt_model.specs.Turns.{is_statement_line}
use Rattle.salt_model.specs.declared.events.End.TheVariants.{Cut}
use Rattle.salt_model.specs.declared.events.Event.{Event}
use Rattle.salt_model.specs.declared.events.Event.TheVariants.{Began, Defined, Early, Ended, Opened, Ready, Released}
use Rattle.law_openings.proofs.Moving.{units-stand}
use Rattle.law_openings.proofs.Resting.{opening-comes}
use Rattle.salt_drain.proofs.Chosen.{gives-same}
use Rattle.salt_drain.specs.Follows.{rest_in}
use Rattle.salt_drain.specs.Recovering.{AnswersWith, StandsForState}
use Rattle.salt_drain.specs.declared.recovery.Recovery.{Recovery}
use Rattle.law_decisions.proofs.Starting.{kept-later}
use Rattle.salt_storage.specs.Storing.{IsSoundKept}
use Rattle.salt_values.specs.declared.id.Id.{Id}
use Rattle.std.proofs.Common.{ap, arith, inl, inr, subst, sym, ◌∙◌}
use Rattle.std.proofs.lemmas.Bool.Decides.{nat_tests}
use Rattle.std.specs.Bool.{then_some}
use Rattle.std.specs.Option.{option_or}
use Rattle.std.specs.Prelude.{Bool, IsSome, List, None, Option, Some, [], false, if◌then◌else◌, nat_lt, refl, true, ℕ, ◌+◌, ◌<◌, ◌==◌, ◌≡◌, ◌⊎◌, ◌≤◌}

goes-as : (s : UnitState) (goes : List Id) → (goes ≡ []) ⊎ (goes ≡ s.to_go) → s.to_go ≡ [] → goes ≡ s.to_go
goes-as s goes (inl e) none = e ∙ sym none
goes-as s goes (inr e) none = e

pub books-opened : (x y : Books) (boot n : ℕ) (s : UnitState) → (k : KnowUnits x s) → s.to_go ≡ [] →
    ((t : UnitState) (m : ℕ) → AreBooks x t → AreBooks y (units_after (Opened boot m) t)) → AreBooks y (units_after (Opened boot n) s)
books-opened x y boot n s k none opens =
    let h = opens (record s { unit_count = k.units; base_count = k.bases; to_go = k.goes }) n k.are in
    record {
      known = h.known;
      units = h.units;
      unit_count = h.unit_count;
      base_count = h.base_count;
      to_go = h.to_go ∙ goes-as s k.goes k.going none;
      early = h.early;
      named = h.named;
      owes = h.owes;
    }

pub flies-opened : (i : Option InFlight) (f : Option Event) (boot n : ℕ) (s : UnitState) → IsInFlight i f s → IsInFlight i f (units_after (Opened boot n) s)
flies-opened None f boot n s h = h
flies-opened (Some (asked.Commit u)) f boot n s h = h
flies-opened (Some (asked.Branch u b cause)) f boot n s h = (record { unit = h.0.unit; part = h.0.part; named = h.0.named; kind = h.0.kind }, h.1)
flies-opened (Some (asked.Table d text)) f boot n s h = (record { line = h.0.line; allowed = h.0.allowed }, h.1, h.2)
flies-opened (Some (asked.Program p text)) f boot n s h = (record { line = h.0.line; allowed = h.0.allowed; few = h.0.few }, h.1, h.2)

-- behind an Opened something comes, whether a decision was in flight or not
rest-comes : (s : UnitState) (trace : Trace) (boot n : ℕ) → KeepsUnits s (trace says Opened boot n) → IsSound (trace says Opened boot n) →
    s.phase ≡ Opening → IsSoundKept s.kept → IsSome (rest_in s)
rest-comes s trace boot n keeps sound opening kept =
    opening-comes s s (Released []) refl (units-stand s trace (Opened boot n) keeps sound opening) (can-drain s.kept kept)

pub rests-or-flies : (x y : Books) (single : Bool) (in_flight : Option InFlight) (f : Option Event) (boot n : ℕ) (old new : State) (r : Recovery) →
    (o : IsOpenedBy x single in_flight f boot n old new) → ((s : State) → AreBooks y s.units → s.units.phase ≡ Opening → single ≡ is_statement_line s.units.line → StandsForState r s) →
    ((t : UnitState) (m : ℕ) → AreBooks x t → AreBooks y (units_after (Opened boot m) t)) → RestsOrFlies r in_flight f new
rests-or-flies x y single in_flight f boot n old new r o stands opens =
    let same = o.after.units in
    let books = books-opened x y boot n old.units o.knows o.going opens in
    let phase : new.units.phase ≡ Opening = ap (λ (s : UnitState). s.phase) same in
    let kept : IsSoundKept new.units.kept = subst (λ (s : UnitState). IsSoundKept s.kept) (sym same) (kept-later old.units.kept boot (let above = o.above in omega arith) o.may_be_kept) in
    record {
      rests = record {
        stands = stands new (subst (AreBooks y) (sym same) books) phase (o.line ∙ sym (ap (λ (s : UnitState). is_statement_line s.line) same));
        recovers = record { sound = record { trace = o.trace says Opened boot n; keeps = o.keeps; sound = o.sound }; phase = phase };
        sound = kept;
        comes = rest-comes new.units o.trace boot n o.keeps.units o.sound phase kept;
      };
      flies = subst (IsInFlight in_flight f) (sym same) (flies-opened in_flight f boot n old.units o.flies);
    }

-- what comes first is told by the decision number

pub is-number : (n m : ℕ) → n ≡ m → (n == m) ≡ true
is-number n m h = grind (arith, nat_tests)

pub no-number : (n m : ℕ) → n < m → (n == m) ≡ false
no-number n m h = grind (arith, nat_tests)

pub first-is : (later : Bool) (n : ℕ) (f : Option Event) (s : UnitState) → (later ≡ true → n ≡ next_decision_number s) → (later ≡ false → n < next_decision_number s) →
    first_in later f s ≡ opened_in s n f
first-is later n None s a b = by later
  where
    by : (later : Bool) → first_in later None s ≡ rest_in s
    by true = refl
    by false = refl
first-is true n (Some e) s a b = sym (ap (λ t. option_or (then_some t e) (rest_in s)) (is-number n (next_decision_number s) (a refl)))
first-is false n (Some e) s a b = sym (ap (λ t. option_or (then_some t e) (rest_in s)) (no-number n (next_decision_number s) (b refl)))

below : (m n : ℕ) → nat_lt m n ≡ true → m < n
below m n h = grind (arith, nat_tests)

not-below : (m n : ℕ) → nat_lt m n ≡ false → n ≤ m
not-below m n h = grind (arith, nat_tests)

later-number : (m n : ℕ) (flight : Option Event) → (n ≡ m) ⊎ (IsSome flight × (n ≡ m + 1)) → nat_lt m n ≡ true → n ≡ m + 1
later-number m n flight (inl e) t = let more = below m n t in absurd (omega arith)
later-number m n flight (inr e) t = e.1

no-later-number : (m n : ℕ) → nat_lt m n ≡ false → n < m + 1
no-later-number m n t = let less = not-below m n t in omega arith

pub first-told : (x : Books) (single : Bool) (in_flight : Option InFlight) (f : Option Event) (boot n : ℕ) (old new : State) (later : Bool) →
    IsOpenedBy x single in_flight f boot n old new → later ≡ nat_lt x.known.decisions n → first_in later f new.units ≡ opened_in new.units n f
first-told x single in_flight f boot n old new later o is =
    let now : next_decision_number new.units ≡ old.units.kept.decisions + 1 = ap next_decision_number o.after.units in
    let test : later ≡ nat_lt old.units.kept.decisions n = is ∙ ap (λ m. nat_lt m n) o.knows.are.known.decisions in
    first-is later n f new.units
    (λ t. later-number old.units.kept.decisions n f o.stands_for (sym test ∙ t) ∙ sym now)
    (λ t. subst (λ m. n < m) (sym now) (no-later-number old.units.kept.decisions n (sym test ∙ t)))

-- so what is given first is what is told behind the Opened
pub begins : (x : Books) (single : Bool) (in_flight : Option InFlight) (f : Option Event) (boot n : ℕ) (old new : State) (later : Bool) (r : Recovery) (first : Event) →
    IsOpenedBy x single in_flight f boot n old new → later ≡ nat_lt x.known.decisions n → AnswersWith new (first_in later f new.units) r (Some first) → BeginsOpening f n new r first
begins x single in_flight f boot n old new later r first o is given =
    gives-same new (first_in later f new.units) (opened_in new.units n f) (Some first) r (first-told x single in_flight f boot n old new later o is) given

-- THE FIRST EVENT, by what is in flight

flies-event : (i : InFlight) (f : Option Event) (s : UnitState) → IsInFlight (Some i) f s → (e : Event) × (f ≡ Some e)
flies-event (asked.Commit u) f s h = (commits_in s h.0, h.2)
flies-event (asked.Branch u b cause) f s h = (branches_in s u cause, h.1)
flies-event (asked.Table d text) f s h = (Defined (next_decision_number s) text, h.2)
flies-event (asked.Program p text) f s h = (Defined (next_decision_number s) text, h.2)

pub flies-some : (x : Recovery) (in_flight : Option InFlight) (i : InFlight) (f : Option Event) (s : State) → in_flight ≡ Some i → RestsOrFlies x in_flight f s →
    (e : Event) × (f ≡ Some e) × Flies x i e s
flies-some x in_flight i f s is h =
    let flies : IsInFlight (Some i) f s.units = subst (λ (j : Option InFlight). IsInFlight j f s.units) is h.flies in
    let it = flies-event i f s.units flies in
    (it.0, it.1, record { rests = h.rests; flies = subst (λ (o : Option Event). IsInFlight (Some i) o s.units) it.1 flies })

pub first-flies : (later : Bool) (f : Option Event) (e : Event) (s : UnitState) → later ≡ true → f ≡ Some e → Some e ≡ first_in later f s
first-flies later f e s told is = λ i. first_in (sym told i) (sym is i) s

pub first-untold : (later : Bool) (f : Option Event) (s : UnitState) → later ≡ false → rest_in s ≡ first_in later f s
first-untold later f s told = by f ∙ ap (λ b. first_in b f s) (sym told)
  where
    by : (f : Option Event) → rest_in s ≡ first_in false f s
    by None = refl
    by (Some e) = refl

pub first-rests : (x : Recovery) (later : Bool) (in_flight : Option InFlight) (f : Option Event) (s : State) → in_flight ≡ None → RestsOrFlies x in_flight f s →
    rest_in s.units ≡ first_in later f s.units
first-rests x later in_flight f s none h =
    let is : f ≡ None = subst (λ (j : Option InFlight). IsInFlight j f s.units) none h.flies in
    by later ∙ ap (λ o. first_in later o s.units) (sym is)
  where
    by : (later : Bool) → rest_in s.units ≡ first_in later None s.units
    by true = refl
    by false = refl

-- WHAT IS STILL IN FLIGHT: the decision that was, where it is told first

resting-undecided : (e : Event) → is_resting e ≡ true → decision_in (Some e) ≡ None
resting-undecided (Ended u Cut) h = refl
resting-undecided (Began u kind) h = refl
resting-undecided Ready h = refl
resting-undecided (Early bs) h = refl
resting-undecided e h = cc

rests-undecided : (s : UnitState) (e : Event) → Some e ≡ rest_in s → IsInFlight None (decision_in (Some e)) s
rests-undecided s e told = resting-undecided e (rests-only s e told)

pub first-still : (later : Bool) (i : Option InFlight) (f : Option Event) (s : UnitState) (e : Event) → IsInFlight i f s → Some e ≡ first_in later f s →
    IsInFlight (if later then i else None) (decision_in (Some e)) s
first-still false i f s e flies told = rests-undecided s e (told ∙ sym (first-untold false f s refl))
first-still true None f s e flies told = rests-undecided s e (told ∙ ap (λ (o : Option Event). first_in true o s) flies)
first-still true (Some i) f s e flies told = by (counts (Some i) f s flies)
  where
    by : (f ≡ None) ⊎ ((d : Event) × (f ≡ Some d) × IsCounted s d) → IsInFlight (Some i) (decision_in (Some e)) s
    by (inl none) = let no = sym (flies-event i f s flies).1 ∙ none in cc
    by (inr c) =
        let is : Some e ≡ Some c.0 = told ∙ ap (λ (o : Option Event). first_in true o s) c.1 in
        let decision : f ≡ decision_in (Some e) = c.1 ∙ ap (λ t. then_some t c.0) (sym c.2.decides) ∙ ap decision_in (sym is) in
        subst (λ (o : Option Event). IsInFlight (Some i) o s) decision flies

pub still-flies : (x : Books) (single : Bool) (in_flight still : Option InFlight) (f : Option Event) (boot n : ℕ) (old new : State) (later : Bool) (r : Recovery) (e : Event) →
    IsOpenedBy x single in_flight f boot n old new → later ≡ nat_lt x.known.decisions n → BeginsOpening f n new r e → still ≡ (if later then in_flight else None) →
    IsInFlight still (decision_in (Some e)) new.units
still-flies x single in_flight still f boot n old new later r e o is begins same =
    subst (λ (i : Option InFlight). IsInFlight i (decision_in (Some e)) new.units) (sym same)
    (first-still later in_flight f new.units e (subst (IsInFlight in_flight f) (sym o.after.units) (flies-opened in_flight f boot n old.units o.flies))
    (begins.told ∙ sym (first-told x single in_flight f boot n old new later o is)))
