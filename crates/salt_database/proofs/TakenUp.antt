-- What a recovery does with what was given for what is to come.
use Rattle.salt_books.specs.Asking.{IsAskedBy}
use Rattle.salt_books.specs.Books.{AreBooks}
use Rattle.salt_books.specs.Coming.{IsLaterUnit, event_meant}
use Rattle.salt_books.specs.declared.asking.Asking.{Asking}
use Rattle.salt_books.specs.declared.books.Books.{Books}
use Rattle.salt_books.specs.declared.coming.Coming.{Coming}
use Rattle.salt_books.specs.declared.coming.Coming.TheVariants as coming
use Rattle.salt_cont.specs.Move.{Move}
use Rattle.salt_database.proofs.Stages.{opens-by}
use Rattle.salt_database.specs.Performing.{CanTakeUp, IsToOpen, MayStep}
use Rattle.salt_database.specs.Standing.{OpensIn}
use Rattle.salt_drain.proofs.Chosen.{gives-same}
use Rattle.salt_drain.specs.Recovering as recovering
use Rattle.salt_drain.specs.Recovering.{books_of}
use Rattle.salt_drain.specs.declared.recovery.Recovery.{Recovery}
use Rattle.salt_engine.proofs.Performed.{acts-meant, commits-meant}
use Rattle.salt_engine.specs.Flights.{IsInFlight}
use Rattle.salt_engine.specs.Giving.{AsksFor, CanBeAsked, IsGiven, coming_of, units_behind}
use Rattle.salt_engine.specs.Performing.{PerformsEvent}
use Rattle.salt_engine.specs.Stored.{Stored}
use Rattle.salt_engine.specs.declared.flights.InFlight.{InFlight}
use Rattle.salt_engine.specs.declared.given.Given.{Given}
use Rattle.salt_engine.specs.declared.given.Given.TheVariants as given
use Rattle.salt_engine.specs.declared.stage.Stage.{Stage}
use Rattle.salt_engine.specs.declared.stage.Stage.TheVariants as at
use Rattle.law_openings.specs.Draining.{statements_at}
use Rattle.law_states.specs.OpenUnits.{OpenUnit, unit_named}
use Rattle.law_states.specs.States.{State}
use Rattle.law_states.specs.Told.{commits_in, does_in}
use Rattle.salt_model.specs.Kept.{Kept}
use Rattle.salt_model.specs.Next.{decision_in}
use Rattle.salt_model.specs.Tables.{Tables}
use Rattle.salt_model.specs.declared.events.Cause.{Cause}
use Rattle.salt_model.specs.declared.events.Event.{Event}
use Rattle.salt_values.specs.declared.id.Id.{Id}
use Rattle.std.proofs.Common.{ap, subst, sym, ◌∙◌}
use Rattle.std.specs.Prelude.{IsSome, None, Option, Some, refl, ℕ, ◌+◌, ◌≡◌}

-- of what was given in other words
pub can-take : (x : Recovery) (g h : Given) (s : State) → g ≡ h → CanTakeUp x g s → CanTakeUp x h s
can-take x g h s is can = subst (λ (j : Given). CanTakeUp x j s) is can

pub taken-as : (x y : Recovery) (g h : Given) (next : Option Event) (s : State) → g ≡ h →
    (CanTakeUp x h s → recovering.AnswersWith s (event_meant s.units (coming_of h)) y next) → CanTakeUp x g s → recovering.AnswersWith s (event_meant s.units (coming_of g)) y next
taken-as x y g h next s is done can =
    subst (λ (j : Given). recovering.AnswersWith s (event_meant s.units (coming_of j)) y next) (sym is) (done (can-take x g h s is can))

pub steps-as : (x : Recovery) (g h : Given) (s : State) (old new : ℕ) → g ≡ h → (CanTakeUp x h s → MayStep (event_meant s.units (coming_of h)) old new) →
    CanTakeUp x g s → MayStep (event_meant s.units (coming_of g)) old new
steps-as x g h s old new is steps can = subst (λ (j : Given). MayStep (event_meant s.units (coming_of j)) old new) (sym is) (steps (can-take x g h s is can))

-- NOTHING is never given, and what is done already is told

none-some : (o : Option Event) → o ≡ None → IsSome o → ⊥
none-some None is h = cc
none-some (Some e) is h = cc

pub never-some : (o n : Option Event) → o ≡ n → ((e : Event) → o ≡ Some e → ⊥) → IsSome n → ⊥
never-some None None same never some = cc
never-some None (Some e) same never some = cc
never-some (Some e) n same never some = never e refl

pub never-nothing : (x : Recovery) (g : Given) (s : State) → g ≡ given.Nothing → CanTakeUp x g s → ⊥
never-nothing x g s is can = none-some (event_meant s.units coming.Nothing) refl (can-take x g given.Nothing s is can).comes

pub told-taken : (x : Recovery) (e : Event) (s : State) → CanTakeUp x (given.Told e) s → recovering.AnswersWith s (event_meant s.units (coming_of (given.Told e))) x (Some e)
told-taken x e s can = record { told = refl; done = can.ready.0 }

pub told-steps : (x : Recovery) (e : Event) (s : State) → CanTakeUp x (given.Told e) s → statements_at (Some e) ≡ 0
told-steps x e s can = can.ready.1.1

-- A STATEMENT

module _ (x : Recovery) (a : Asking) (rows : Tables) (s : State) (can : CanTakeUp x (given.Rows a rows) s) where
  pub act-stands : recovering.StandsForState x s
  act-stands = can.ready.0

  abbrev pub act-unit : OpenUnit
  act-unit = can.ready.1.0

  pub act-asked : IsAskedBy a s.units act-unit
  act-asked = can.ready.1.1

  pub act-part : recovering.IsOfPart act-unit
  act-part = can.ready.1.2

  act-meant : event_meant s.units (coming.Act a) ≡ Some (does_in s.units act-unit a.statement)
  act-meant = acts-meant s.units a act-unit act-asked

  -- it is one step
  pub act-step : statements_at (event_meant s.units (coming.Act a)) ≡ 1
  act-step = ap statements_at act-meant

  pub act-taken : (y : Recovery) (next : Option Event) → recovering.AnswersWith s (Some (does_in s.units act-unit a.statement)) y next →
      recovering.AnswersWith s (event_meant s.units (coming.Act a)) y next
  act-taken y next = gives-same s (Some (does_in s.units act-unit a.statement)) (event_meant s.units (coming.Act a)) next y (sym act-meant)

-- A COMMIT

module _ (x : Recovery) (u : Id) (m : Move) (n : ℕ) (s : State) (can : CanTakeUp x (given.Committed u m n) s) where
  pub commit-stands : recovering.StandsForState x s
  commit-stands = can.ready.0

  abbrev pub commit-unit : OpenUnit
  commit-unit = can.fits.0

  pub commit-named : unit_named u s.units.units ≡ Some commit-unit
  commit-named = can.fits.1

  pub commit-taken : (y : Recovery) (next : Option Event) → recovering.AnswersWith s (Some (commits_in s.units commit-unit)) y next →
      recovering.AnswersWith s (event_meant s.units (coming.Commit u)) y next
  commit-taken y next =
      gives-same s (Some (commits_in s.units commit-unit)) (event_meant s.units (coming.Commit u)) next y (sym (commits-meant s.units u commit-unit commit-named))

-- A BRANCH

module _ (x : Recovery) (u base : Id) (cause : Cause) (m : Move) (n : ℕ) (s : State) (can : CanTakeUp x (given.Branched u base cause m n) s) where
  pub branch-stands : recovering.StandsForState x s
  branch-stands = can.ready.0

  abbrev pub branch-unit : IsLaterUnit s.units u base
  branch-unit = can.fits.0

-- the steps of what was given, by the event that was told
pub ticks-as : (given meant : Option Event) (n old new : ℕ) → given ≡ meant → statements_at meant ≡ n → new ≡ old + n → new ≡ old + statements_at given
ticks-as given meant n old new told is ticks = ticks ∙ ap (λ k. old + k) (sym is ∙ ap statements_at (sym told))

-- OVER A STORAGE

module _ (holds : Kept → Type 0) (is_new : Id → Type 0) (x : Recovery) (c : Coming) (s : State) (h : IsToOpen holds is_new x c s) where
  -- by its books
  pub opens-asks : (y : Books) → y ≡ books_of x → AsksFor holds is_new y c s
  opens-asks y same = record { played = h.played; plain = h.plain; stored = h.stored; can = by c h.ready }
    where
      books : recovering.StandsForState x s → AreBooks y s.units
      books stands = subst (λ (z : Books). AreBooks z s.units) (sym same) stands.books

      by : (d : Coming) → recovering.IsReady x s d → CanBeAsked y d s
      by coming.Nothing r = tt
      by (coming.Told e) r = (r.0.1.plain, r.1.0)
      by (coming.Act a) r = (books r.0, (r.1.0, r.1.1))
      by (coming.Commit u) r = (books r.0, r.1)
      by (coming.Branch u base cause) r = (books r.0, r.1)

  pub opens-takes : (now : Kept → Type 0) (new_now : Id → Type 0) (in_flight : Option InFlight) (g : Given) → IsGiven now new_now in_flight c g s → CanTakeUp x g s
  opens-takes now new_now in_flight g p = record {
    ready = subst (λ (d : Coming). recovering.IsReady x s d) (sym p.same) h.ready;
    comes = subst (λ (d : Coming). IsSome (event_meant s.units d)) (sym p.same) h.comes;
    fits = p.fits;
    recovers = record { sound = record { trace = h.played.trace; keeps = h.played.keeps; sound = h.played.sound }; phase = h.opens };
  }

  -- it is performed
  pub taken-opens : (now : Kept → Type 0) (new_now : Id → Type 0) (stage : Stage Recovery) (in_flight : Option InFlight) (g : Given) (y : Recovery) (e : Event) → stage ≡ at.Going y →
      IsGiven now new_now in_flight c g s → recovering.AnswersWith s (event_meant s.units (coming_of g)) y (Some e) →
      PerformsEvent (OpensIn now new_now stage) in_flight (event_meant s.units c) (Some e) s
  taken-opens now new_now stage in_flight g y e there p taken =
      opens-by now new_now stage in_flight (event_meant s.units c) s y e e (subst (λ (o : Option Event). IsInFlight in_flight (decision_in o) s.units) meant p.flies) there meant
      (record { told = refl; done = taken.done }) h.opens (subst (λ (o : Option Event). Stored now new_now (units_behind o s.units)) meant p.stored)
    where
      meant : event_meant s.units c ≡ Some e
      meant = sym (subst (λ (d : Coming). Some e ≡ event_meant s.units d) p.same taken.told)

  -- what was given is something
  pub taken-some : (now : Kept → Type 0) (new_now : Id → Type 0) (in_flight : Option InFlight) (g : Given) (y : Recovery) (next : Option Event) →
      IsGiven now new_now in_flight c g s → recovering.AnswersWith s (event_meant s.units (coming_of g)) y next → IsSome next
  taken-some now new_now in_flight g y next p taken =
      subst (λ (o : Option Event). IsSome o) (sym taken.told) (subst (λ (d : Coming). IsSome (event_meant s.units d)) (sym p.same) h.comes)

  -- the steps for it
  pub taken-steps : (now : Kept → Type 0) (new_now : Id → Type 0) (in_flight : Option InFlight) (g : Given) (old new : ℕ) → IsGiven now new_now in_flight c g s →
      (CanTakeUp x g s → MayStep (event_meant s.units (coming_of g)) old new) → MayStep (event_meant s.units c) old new
  taken-steps now new_now in_flight g old new p steps =
      subst (λ (d : Coming). MayStep (event_meant s.units d) old new) p.same (steps (opens-takes now new_now in_flight g p))
