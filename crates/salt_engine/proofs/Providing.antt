-- What a storage gives for what is to come, or leaves undone.
use Rattle.salt_books.specs.Asking.{IsAskedBy}
use Rattle.salt_books.specs.Books.{AreBooks, AreLoaded}
use Rattle.salt_books.specs.Coming.{IsLaterUnit, event_meant}
use Rattle.salt_books.specs.declared.asking.Asking.{Asking}
use Rattle.salt_books.specs.declared.books.Books.{Books}
use Rattle.salt_books.specs.declared.coming.Coming.TheVariants as coming
use Rattle.salt_books.specs.declared.coming.Coming.{Coming}
use Rattle.salt_engine.specs.declared.deciding.Decided.{Decided}
use Rattle.salt_engine.proofs.Broken.{breaks, breaks-lost, noted}
use Rattle.salt_engine.proofs.Decided.{named-unit}
use Rattle.salt_engine.proofs.Flying.{kept-decided, none-flies}
use Rattle.salt_engine.proofs.Judging.{keys-left}
use Rattle.salt_engine.proofs.Performed.{acts-meant, commits-meant, is-before, stored-plain, unit-there}
use Rattle.salt_engine.specs.Deciding.{IsBefore, IsBranched, IsCommitted, LeavesEventUndone, branches_in}
use Rattle.salt_engine.specs.Flights.{IsInFlight}
use Rattle.salt_engine.specs.Giving.{AsksFor, FitsUnits, IsGiven, IsUndone, coming_of, units_behind}
use Rattle.salt_engine.specs.Performing.{BreaksOff, WasBroken}
use Rattle.salt_engine.specs.Stored.{Stored, kept_behind}
use Rattle.salt_engine.specs.declared.flights.InFlight.TheVariants as asked
use Rattle.salt_engine.specs.declared.flights.InFlight.{InFlight}
use Rattle.salt_engine.specs.declared.given.Given.TheVariants as given
use Rattle.salt_engine.specs.declared.given.Given.{Given}
use Rattle.salt_engine.specs.declared.stage.Stage.TheVariants as at
use Rattle.salt_engine.specs.declared.stage.Stage.{Stage}
use Rattle.salt_eval.specs.Scans.{IsKeyed}
use Rattle.law_states.specs.OpenUnits.{OpenUnit, UnitState, unit_named}
use Rattle.law_states.specs.States.{State}
use Rattle.law_states.specs.Steps.{units_after}
use Rattle.law_states.specs.Told.{commits_in, does_in}
use Rattle.salt_model.specs.Tables.{Tables}
use Rattle.salt_model.specs.Kept.{Kept}
use Rattle.salt_model.specs.Next.{decision_in}
use Rattle.salt_model.specs.declared.events.Cause.{Cause}
use Rattle.salt_model.specs.declared.events.Event.{Event}
use Rattle.salt_storage.specs.Writing.{ToWrite}
use Rattle.salt_storage.specs.declared.halt.Halt.TheVariants.{Memory}
use Rattle.salt_storage.specs.declared.halt.Halt.{Halt}
use Rattle.salt_values.specs.declared.id.Id.{Id}
use Rattle.std.proofs.Common.{inr, subst, sym}
use Rattle.std.specs.Prelude.{None, Option, Some, refl, ℕ, ◌≡◌}

-- WHAT IS TO COME in other words

pub asks-as : (holds : Kept → Type 0) (is_new : Id → Type 0) (x : Books) (c d : Coming) (s : State) → c ≡ d → AsksFor holds is_new x c s → AsksFor holds is_new x d s
asks-as holds is_new x c d s is h = subst (λ (k : Coming). AsksFor holds is_new x k s) is h

pub given-as : (holds now : Kept → Type 0) (is_new new_now : Id → Type 0) (in_flight : Option InFlight) (x : Books) (c d : Coming) (g : Given) (s : State) → c ≡ d →
    (AsksFor holds is_new x d s → IsGiven now new_now in_flight d g s) → AsksFor holds is_new x c s → IsGiven now new_now in_flight c g s
given-as holds now is_new new_now in_flight x c d g s is gives h =
    subst (λ (k : Coming). IsGiven now new_now in_flight k g s) (sym is) (gives (asks-as holds is_new x c d s is h))

pub undone-as : (holds : Kept → Type 0) (is_new : Id → Type 0) (leaves : Kept → Kept → Type 0) (fills : ToWrite → ℕ → Type 0) (halt : Halt) (in_flight : Option InFlight) (x : Books)
    (c d : Coming) (s : State) → c ≡ d → (AsksFor holds is_new x d s → IsUndone leaves fills halt x in_flight (event_meant s.units d) s.units) → AsksFor holds is_new x c s →
    IsUndone leaves fills halt x in_flight (event_meant s.units c) s.units
undone-as holds is_new leaves fills halt in_flight x c d s is breaks h =
    subst (λ (k : Coming). IsUndone leaves fills halt x in_flight (event_meant s.units k) s.units) (sym is) (breaks (asks-as holds is_new x c d s is h))

-- by the event that comes next
given-by : (now : Kept → Type 0) (new_now : Id → Type 0) (in_flight : Option InFlight) (c : Coming) (g : Given) (e : Event) (s : State) → event_meant s.units c ≡ Some e → coming_of g ≡ c →
    FitsUnits g s.units → Stored now new_now (units_after e s.units) → (units_after e s.units).kept ≡ kept_behind (decision_in (Some e)) s.units →
    IsInFlight in_flight (decision_in (Some e)) s.units → IsGiven now new_now in_flight c g s
given-by now new_now in_flight c g e s is same fits stored kept flies = record {
  same = same;
  fits = fits;
  stored = subst (λ (m : Option Event). Stored now new_now (units_behind m s.units)) (sym is) stored;
  kept = subst (λ (m : Option Event). (units_behind m s.units).kept ≡ kept_behind (decision_in m) s.units) (sym is) kept;
  flies = subst (λ (m : Option Event). IsInFlight in_flight (decision_in m) s.units) (sym is) flies;
}

-- NOTHING, and what is done already

pub nothing-given : (holds : Kept → Type 0) (is_new : Id → Type 0) (in_flight : Option InFlight) (x : Books) (s : State) → in_flight ≡ None →
    AsksFor holds is_new x coming.Nothing s → IsGiven holds is_new in_flight coming.Nothing given.Nothing s
nothing-given holds is_new in_flight x s none h = record { same = refl; fits = tt; stored = h.stored; kept = refl; flies = none-flies in_flight None s.units none refl }

pub told-given : (holds : Kept → Type 0) (is_new : Id → Type 0) (in_flight : Option InFlight) (x : Books) (e : Event) (s : State) → in_flight ≡ None →
    AsksFor holds is_new x (coming.Told e) s → IsGiven holds is_new in_flight (coming.Told e) (given.Told e) s
told-given holds is_new in_flight x e s none h =
    given-by holds is_new in_flight (coming.Told e) (given.Told e) e s refl refl tt h.stored (kept-decided e s.units h.can.0) (none-flies in_flight (decision_in (Some e)) s.units none h.can.1)

-- A STATEMENT

module _ (holds : Kept → Type 0) (is_new : Id → Type 0) (x : Books) (a : Asking) (s : State) (h : AsksFor holds is_new x (coming.Act a) s) where
  abbrev pub act-unit : OpenUnit
  act-unit = h.can.1.0

  pub act-asked : IsAskedBy a s.units act-unit
  act-asked = h.can.1.1

  abbrev pub act-event : Event
  act-event = does_in s.units act-unit a.statement

  pub act-meant : event_meant s.units (coming.Act a) ≡ Some act-event
  act-meant = acts-meant s.units a act-unit act-asked

  pub act-before : IsBefore holds is_new x act-event s.units
  act-before = is-before holds is_new x act-event (event_meant s.units (coming.Act a)) s h.can.0 h.stored h.played act-meant

  pub act-given : (now : Kept → Type 0) (new_now : Id → Type 0) (in_flight : Option InFlight) (rows : Tables) → in_flight ≡ None → Stored now new_now s.units →
      AreLoaded a.reach rows s.units.kept.tables → IsKeyed rows → IsGiven now new_now in_flight (coming.Act a) (given.Rows a rows) s
  act-given now new_now in_flight rows none stored loaded keyed =
      given-by now new_now in_flight (coming.Act a) (given.Rows a rows) act-event s act-meant refl
      (record { loaded = loaded; keyed = keyed; leaves = keys-left s.units act-unit a.statement a.unit act-before.comes act-asked.named })
      (stored-plain now new_now act-event (event_meant s.units (coming.Act a)) s h.played act-meant refl refl stored)
      (kept-decided act-event s.units refl) (none-flies in_flight None s.units none refl)

  pub act-undone : (leaves : Kept → Kept → Type 0) (fills : ToWrite → ℕ → Type 0) (halt : Halt) (in_flight : Option InFlight) → in_flight ≡ None →
      LeavesEventUndone leaves fills halt s.units act-event → IsUndone leaves fills halt x in_flight (event_meant s.units (coming.Act a)) s.units
  act-undone leaves fills halt in_flight none undone = record {
    event = act-event;
    is = act-meant;
    undone = undone;
    kept = kept-decided act-event s.units refl;
    flies = none-flies in_flight None s.units none refl;
    books = h.can.0;
  }

-- A COMMIT

module _ (holds : Kept → Type 0) (is_new : Id → Type 0) (x : Books) (u : Id) (s : State) (h : AsksFor holds is_new x (coming.Commit u) s) where
  pub commit-open : (o : OpenUnit) × (unit_named u s.units.units ≡ Some o)
  commit-open = unit-there s.units u h.can.1

  abbrev pub commit-unit : OpenUnit
  commit-unit = commit-open.0

  pub commit-named : unit_named u s.units.units ≡ Some commit-unit
  commit-named = commit-open.1

  abbrev pub commit-event : Event
  commit-event = commits_in s.units commit-unit

  pub commit-meant : event_meant s.units (coming.Commit u) ≡ Some commit-event
  commit-meant = commits-meant s.units u commit-unit commit-named

  pub commit-before : IsBefore holds is_new x commit-event s.units
  commit-before = is-before holds is_new x commit-event (event_meant s.units (coming.Commit u)) s h.can.0 h.stored h.played commit-meant

  commit-flies : IsInFlight (Some (asked.Commit u)) (decision_in (Some commit-event)) s.units
  commit-flies = (commit-unit, commit-named, refl)

  pub commit-given : (now : Kept → Type 0) (new_now : Id → Type 0) (d : Decided) → IsCommitted now new_now d s.units commit-unit →
      IsGiven now new_now (Some (asked.Commit u)) (coming.Commit u) (given.Committed u d.made d.number) s
  commit-given now new_now d done =
      given-by now new_now (Some (asked.Commit u)) (coming.Commit u) (given.Committed u d.made d.number) commit-event s commit-meant refl
      (commit-unit, commit-named, done.moves, done.number) done.stored (kept-decided commit-event s.units refl) commit-flies

  pub commit-undone : (leaves : Kept → Kept → Type 0) (fills : ToWrite → ℕ → Type 0) (halt : Halt) → LeavesEventUndone leaves fills halt s.units commit-event →
      IsUndone leaves fills halt x (Some (asked.Commit u)) (event_meant s.units (coming.Commit u)) s.units
  commit-undone leaves fills halt undone = record {
    event = commit-event;
    is = commit-meant;
    undone = undone;
    kept = kept-decided commit-event s.units refl;
    flies = commit-flies;
    books = h.can.0;
  }

-- A BRANCH

module _ (holds : Kept → Type 0) (is_new : Id → Type 0) (x : Books) (u base : Id) (cause : Cause) (s : State) (h : AsksFor holds is_new x (coming.Branch u base cause) s) where
  pub branch-unit : IsLaterUnit s.units u base
  branch-unit = h.can.1

  abbrev pub branch-event : Event
  branch-event = branches_in s.units u cause

  pub branch-before : IsBefore holds is_new x branch-event s.units
  branch-before = is-before holds is_new x branch-event (event_meant s.units (coming.Branch u base cause)) s h.can.0 h.stored h.played refl

  branch-flies : IsInFlight (Some (asked.Branch u base cause)) (decision_in (Some branch-event)) s.units
  branch-flies = (branch-unit, refl)

  pub branch-given : (now : Kept → Type 0) (new_now : Id → Type 0) (d : Decided) → IsBranched now new_now d s.units branch-unit.unit cause →
      IsGiven now new_now (Some (asked.Branch u base cause)) (coming.Branch u base cause) (given.Branched u base cause d.made d.number) s
  branch-given now new_now d done =
      given-by now new_now (Some (asked.Branch u base cause)) (coming.Branch u base cause) (given.Branched u base cause d.made d.number) branch-event s refl refl (branch-unit, done.moves, done.number)
      (subst (λ v. Stored now new_now (units_after (branches_in s.units v cause) s.units)) (named-unit u s.units.units branch-unit.unit branch-unit.named) done.stored)
      (kept-decided branch-event s.units refl) branch-flies

  pub branch-undone : (leaves : Kept → Kept → Type 0) (fills : ToWrite → ℕ → Type 0) (halt : Halt) → LeavesEventUndone leaves fills halt s.units branch-event →
      IsUndone leaves fills halt x (Some (asked.Branch u base cause)) (event_meant s.units (coming.Branch u base cause)) s.units
  branch-undone leaves fills halt undone = record {
    event = branch-event;
    is = refl;
    undone = undone;
    kept = kept-decided branch-event s.units refl;
    flies = branch-flies;
    books = h.can.0;
  }

-- WHERE THE HALF in memory is broken off

module _ {H : Type 0} (leaves : Kept → Kept → Type 0) (fills : ToWrite → ℕ → Type 0) (stage : Stage H) (in_flight : Option InFlight) where
  -- what was asked for is undone
  pub breaks-undone : (halt : Halt) (meant : Option Event) (s : UnitState) (x y : Books) → x ≡ y → IsUndone leaves fills halt x in_flight meant s → WasBroken halt y stage →
      BreaksOff leaves fills halt stage in_flight meant s
  breaks-undone halt meant s x y same u broken =
      breaks leaves fills stage in_flight meant s u.event u.is u.kept u.flies halt y u.undone broken (subst (λ (z : Books). AreBooks z s) same u.books)

  -- it is given, and memory ran out before it was done
  pub breaks-given : (now : Kept → Type 0) (new_now : Id → Type 0) (c : Coming) (g : Given) (s : State) → IsGiven now new_now in_flight c g s → ((k : Kept) → now k → leaves k k) →
      stage ≡ at.Lost → BreaksOff leaves fills Memory stage in_flight (event_meant s.units c) s.units
  breaks-given now new_now c g s p stays there =
      let k = (units_behind (event_meant s.units c) s.units).kept in
      breaks-lost leaves fills stage in_flight (event_meant s.units c) s.units k (stays k p.stored.holding)
      (noted in_flight (decision_in (event_meant s.units c)) s.units k p.flies (inr (tt, p.kept))) (record { there = there; flies = inr p.flies })
