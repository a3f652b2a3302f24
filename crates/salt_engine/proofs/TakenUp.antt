-- What a scheduler does with what was given for what is to come.
use Rattle.salt_ast.specs.declared.trees.TableDef.{TableDef}
use Rattle.salt_books.proofs.Shown.{have-unit}
use Rattle.salt_books.specs.Asking.{IsAskedBy}
use Rattle.salt_books.specs.Books.{AreBooks, HaveUnit, tables_in}
use Rattle.salt_books.specs.Coming.{IsLaterUnit, event_meant}
use Rattle.salt_books.specs.Sound.{IsSoundState}
use Rattle.salt_books.specs.declared.asking.Asking.{Asking}
use Rattle.salt_books.specs.declared.books.Books.{Books}
use Rattle.salt_books.specs.declared.coming.Coming.TheVariants as coming
use Rattle.salt_books.specs.declared.coming.Coming.{Coming}
use Rattle.salt_cont.specs.Move.{Move}
use Rattle.salt_engine.proofs.Performed.{acts-meant, commits-meant}
use Rattle.salt_engine.specs.Flights.{IsInFlight}
use Rattle.salt_engine.specs.Giving.{AsksFor, CanBeAsked, CanTakeUp, IsGiven, coming_of, units_behind}
use Rattle.salt_engine.specs.Performing.{IsPlayedBefore, IsToServe, PerformsEvent}
use Rattle.salt_engine.specs.Standing.{StandsAtEventIn}
use Rattle.salt_engine.specs.Stored.{Stored}
use Rattle.salt_engine.specs.declared.flights.InFlight.{InFlight}
use Rattle.salt_engine.specs.declared.given.Given.TheVariants as given
use Rattle.salt_engine.specs.declared.given.Given.{Given}
use Rattle.salt_engine.specs.declared.stage.Stage.TheVariants as at
use Rattle.salt_engine.specs.declared.stage.Stage.{Stage}
use Rattle.law_states.specs.OpenUnits.{OpenUnit, unit_named}
use Rattle.law_states.specs.States.{State}
use Rattle.law_states.specs.Told.{commits_in, does_in}
use Rattle.salt_model.specs.Tables.{Tables}
use Rattle.salt_model.specs.Kept.{Kept}
use Rattle.salt_model.specs.Next.{decision_in}
use Rattle.salt_model.specs.Phases.{Serving}
use Rattle.salt_model.specs.declared.events.Cause.{Cause}
use Rattle.salt_model.specs.declared.events.Event.{Event}
use Rattle.salt_scheduler.proofs.Following.{not-of-run}
use Rattle.salt_scheduler.specs.Standing.{AnswersWith, IsReady, StandsAtEvent, StandsForState, books_of}
use Rattle.salt_scheduler.specs.declared.scheduler.Scheduler.{Scheduler}
use Rattle.salt_units.specs.Acting.{leaves_keys}
use Rattle.salt_values.specs.declared.id.Id.{Id}
use Rattle.std.proofs.Common.{subst, sym, ◌∙◌}
use Rattle.std.specs.Prelude.{List, None, Option, Some, refl, true, ℕ, ◌≡◌}

-- of what was given in other words
pub can-take : (x : Scheduler) (g h : Given) (s : State) → g ≡ h → CanTakeUp x g s → CanTakeUp x h s
can-take x g h s is can = subst (λ (j : Given). CanTakeUp x j s) is can

pub taken-as : (x y : Scheduler) (g h : Given) (next : Option Event) (s : State) → g ≡ h → (CanTakeUp x h s → AnswersWith s (event_meant s.units (coming_of h)) y next) →
    CanTakeUp x g s → AnswersWith s (event_meant s.units (coming_of g)) y next
taken-as x y g h next s is done can = subst (λ (j : Given). AnswersWith s (event_meant s.units (coming_of j)) y next) (sym is) (done (can-take x g h s is can))

answers-as : (s : State) (other want given : Option Event) (x : Scheduler) → other ≡ want → AnswersWith s other x given → AnswersWith s want x given
answers-as s other want given x same a = record { told = a.told ∙ same; done = a.done }

-- NOTHING, and what is done already

pub nothing-taken : (x : Scheduler) (s : State) → CanTakeUp x given.Nothing s → AnswersWith s (event_meant s.units (coming_of given.Nothing)) x None
nothing-taken x s can = record { told = refl; done = can.ready.0 }

pub told-taken : (x : Scheduler) (e : Event) (s : State) → CanTakeUp x (given.Told e) s → AnswersWith s (event_meant s.units (coming_of (given.Told e))) x (Some e)
told-taken x e s can = record { told = refl; done = can.ready.0 }

-- A STATEMENT

module _ (x : Scheduler) (a : Asking) (rows : Tables) (s : State) (can : CanTakeUp x (given.Rows a rows) s) where
  pub act-stands : StandsForState x s
  act-stands = can.ready.0

  abbrev pub act-unit : OpenUnit
  act-unit = can.ready.1.0

  pub act-asked : IsAskedBy a s.units act-unit
  act-asked = can.ready.1.1

  pub act-there : HaveUnit (books_of x) a.unit
  act-there = have-unit (books_of x) s.units a.unit act-unit act-stands.books act-asked.named

  pub act-keys : leaves_keys (tables_in (books_of x)) a.statement ≡ true
  act-keys = subst (λ (schema : List TableDef). leaves_keys schema a.statement ≡ true) (sym act-stands.books.known.schema) can.fits.leaves

  pub act-taken : (y : Scheduler) (next : Option Event) → AnswersWith s (Some (does_in s.units act-unit a.statement)) y next →
      AnswersWith s (event_meant s.units (coming.Act a)) y next
  act-taken y next = answers-as s (Some (does_in s.units act-unit a.statement)) (event_meant s.units (coming.Act a)) next y (sym (acts-meant s.units a act-unit act-asked))

-- A COMMIT

module _ (x : Scheduler) (u : Id) (m : Move) (n : ℕ) (s : State) (can : CanTakeUp x (given.Committed u m n) s) where
  pub commit-stands : StandsForState x s
  commit-stands = can.ready.0

  abbrev pub commit-unit : OpenUnit
  commit-unit = can.fits.0

  pub commit-named : unit_named u s.units.units ≡ Some commit-unit
  commit-named = can.fits.1

  pub commit-there : HaveUnit (books_of x) u
  commit-there = have-unit (books_of x) s.units u commit-unit commit-stands.books commit-named

  pub commit-taken : (y : Scheduler) (next : Option Event) → AnswersWith s (Some (commits_in s.units commit-unit)) y next → AnswersWith s (event_meant s.units (coming.Commit u)) y next
  commit-taken y next = answers-as s (Some (commits_in s.units commit-unit)) (event_meant s.units (coming.Commit u)) next y (sym (commits-meant s.units u commit-unit commit-named))

-- A BRANCH

module _ (x : Scheduler) (u base : Id) (cause : Cause) (m : Move) (n : ℕ) (s : State) (can : CanTakeUp x (given.Branched u base cause m n) s) where
  pub branch-stands : StandsForState x s
  branch-stands = can.ready.0

  abbrev pub branch-unit : IsLaterUnit s.units u base
  branch-unit = can.fits.0

  pub branch-there : HaveUnit (books_of x) u
  branch-there = have-unit (books_of x) s.units u branch-unit.unit branch-stands.books branch-unit.named

-- OVER A STORAGE

pub sound-state : (meant : Option Event) (s : State) → IsPlayedBefore meant s → IsSoundState s
sound-state meant s p = record { trace = p.trace; keeps = p.keeps; sound = p.sound }

module _ (holds : Kept → Type 0) (is_new : Id → Type 0) (x : Scheduler) (c : Coming) (s : State) (h : IsToServe holds is_new x c s) where
  -- by its books
  pub serves-asks : (y : Books) → y ≡ books_of x → AsksFor holds is_new y c s
  serves-asks y same = record { played = h.played; plain = h.plain; stored = h.stored; can = by c h.ready }
    where
      books : StandsForState x s → AreBooks y s.units
      books stands = subst (λ (z : Books). AreBooks z s.units) (sym same) stands.books

      by : (d : Coming) → IsReady x s d → CanBeAsked y d s
      by coming.Nothing r = tt
      by (coming.Told e) r = (not-of-run e r.0.1.served, r.1)
      by (coming.Act a) r = (books r.0, r.1)
      by (coming.Commit u) r = (books r.0, r.1)
      by (coming.Branch u base cause) r = (books r.0, r.1)

  pub serves-takes : (now : Kept → Type 0) (new_now : Id → Type 0) (in_flight : Option InFlight) (g : Given) → IsGiven now new_now in_flight c g s → CanTakeUp x g s
  serves-takes now new_now in_flight g p =
      record { ready = subst (λ (d : Coming). IsReady x s d) (sym p.same) h.ready; fits = p.fits; sound = sound-state (event_meant s.units c) s h.played }

-- it is performed
pub taken-performs : (now : Kept → Type 0) (new_now : Id → Type 0) (stage : Stage Scheduler) (in_flight : Option InFlight) (c : Coming) (g : Given) (s : State) (y : Scheduler)
    (next : Option Event) → stage ≡ at.Going y → IsGiven now new_now in_flight c g s → s.units.phase ≡ Serving → AnswersWith s (event_meant s.units (coming_of g)) y next →
    PerformsEvent (StandsAtEventIn now new_now stage) in_flight (event_meant s.units c) next s
taken-performs now new_now stage in_flight c g s y next there p serves taken = record {
  told = told;
  sees = subst (λ (q : Stage Scheduler). StandsAtEventIn now new_now q next s) (sym there)
      (by next taken.done (subst (λ (o : Option Event). Stored now new_now (units_behind o s.units)) (sym told) p.stored));
  flies = subst (λ (o : Option Event). IsInFlight in_flight (decision_in o) s.units) (sym told) p.flies;
}
  where
    told : next ≡ event_meant s.units c
    told = subst (λ (d : Coming). next ≡ event_meant s.units d) p.same taken.told

    by : (o : Option Event) → StandsAtEvent y o s → Stored now new_now (units_behind o s.units) → StandsAtEventIn now new_now (at.Going y) o s
    by None done stored = (done, stored)
    by (Some e) done stored = (done.0, done.1, subst (Stored now new_now) (sym done.1.after.units) stored, serves)
