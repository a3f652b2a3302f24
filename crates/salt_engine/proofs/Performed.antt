-- What is to come is performed by a call of the half that has chosen it.
use Rattle.salt_books.specs.Asking.{IsAskedBy}
use Rattle.salt_books.specs.Books.{AreBooks}
use Rattle.salt_books.specs.declared.asking.Asking.{Asking}
use Rattle.salt_books.specs.declared.books.Books.{Books}
use Rattle.salt_books.specs.Coming.{event_meant}
use Rattle.salt_books.specs.declared.coming.Coming.TheVariants as coming
use Rattle.salt_engine.proofs.Decided.{stored-behind}
use Rattle.salt_engine.proofs.Flying.{undecided-keeps}
use Rattle.salt_engine.specs.Deciding.{ComesNext, IsBefore}
use Rattle.salt_engine.specs.Flights.{IsInFlight}
use Rattle.salt_engine.specs.Performing.{IsPlayedBefore, PerformsEvent}
use Rattle.salt_engine.specs.Standing.{StandsAtEventIn}
use Rattle.salt_engine.specs.Stored.{Stored}
use Rattle.salt_engine.specs.declared.flights.InFlight.{InFlight}
use Rattle.salt_engine.specs.declared.stage.Stage.TheVariants as at
use Rattle.salt_engine.specs.declared.stage.Stage.{Stage}
use Rattle.law_states.proofs.NextTold.{may-stand}
use Rattle.law_states.specs.Laws.{IsSound, is_of_run}
use Rattle.law_states.specs.OpenUnits.{OpenUnit, UnitState, unit_named}
use Rattle.law_states.specs.States.{State}
use Rattle.law_states.specs.Steps.{units_after}
use Rattle.law_states.specs.Told.{commits_in, does_in}
use Rattle.salt_model.specs.Kept.{Kept}
use Rattle.salt_model.specs.Next.{decision_in}
use Rattle.salt_model.specs.Phases.{Serving}
use Rattle.salt_model.specs.Trace.{◌says◌}
use Rattle.salt_model.specs.declared.events.Event.{Event}
use Rattle.salt_scheduler.specs.Standing as scheduling
use Rattle.salt_scheduler.specs.declared.scheduler.Scheduler.{Scheduler}
use Rattle.salt_values.specs.declared.id.Id.{Id}
use Rattle.std.proofs.Common.{ap, subst, sym, ◌∙◌}
use Rattle.std.specs.Prelude.{IsSome, None, Option, Some, false, option_map, refl, ◌≡◌}

same-some : {A : Type 0} (x y : A) → Some x ≡ Some y → x ≡ y
same-some x y h = cc

-- the units where it comes next
pub comes-next : (e : Event) (meant : Option Event) (s : State) → IsPlayedBefore meant s → meant ≡ Some e → ComesNext e s.units
comes-next e meant s p is =
    record { trace = p.trace; keeps = p.keeps.units; sound = p.sound; typed = p.typed; keyed = p.keyed; next = p.next ∙ is; late = p.late }

pub is-before : (holds : Kept → Type 0) (is_new : Id → Type 0) (x : Books) (e : Event) (meant : Option Event) (s : State) → AreBooks x s.units → Stored holds is_new s.units →
    IsPlayedBefore meant s → meant ≡ Some e → IsBefore holds is_new x e s.units
is-before holds is_new x e meant s books stored played is = record { books = books; stored = stored; comes = comes-next e meant s played is }

-- what is meant

pub acts-meant : (s : UnitState) (a : Asking) (o : OpenUnit) → IsAskedBy a s o → event_meant s (coming.Act a) ≡ Some (does_in s o a.statement)
acts-meant s a o h = ap (option_map (λ (p : OpenUnit). does_in s p a.statement)) h.named

pub commits-meant : (s : UnitState) (u : Id) (o : OpenUnit) → unit_named u s.units ≡ Some o → event_meant s (coming.Commit u) ≡ Some (commits_in s o)
commits-meant s u o h = ap (option_map (commits_in s)) h

-- the open unit of a name
pub unit-there : (s : UnitState) (u : Id) → IsSome (unit_named u s.units) → (o : OpenUnit) × (unit_named u s.units ≡ Some o)
unit-there s u h = by (unit_named u s.units) h refl
  where
    by : (q : Option OpenUnit) → IsSome q → unit_named u s.units ≡ q → (o : OpenUnit) × (unit_named u s.units ≡ Some o)
    by None h e = cc
    by (Some o) h e = (o, e)

-- by a scheduler
pub serves-by : (holds : Kept → Type 0) (is_new : Id → Type 0) (stage : Stage Scheduler) (in_flight : Option InFlight) (meant : Option Event) (s : State) (x : Scheduler) (e given : Event) →
    IsInFlight in_flight (decision_in (Some e)) s.units → stage ≡ at.Going x → meant ≡ Some e → scheduling.AnswersWith s (Some e) x (Some given) → s.units.phase ≡ Serving → Stored holds is_new (units_after e s.units) →
    PerformsEvent (StandsAtEventIn holds is_new stage) in_flight meant (Some given) s
serves-by holds is_new stage in_flight meant s x e given flies there is g serves stored =
    let t = g.done.0 in
    let d = g.done.1 in
    let told = same-some given e g.told in
    let same : t.units ≡ units_after e s.units = d.after.units ∙ ap (λ (f : Event). units_after f s.units) told in
    record {
      told = g.told ∙ sym is;
      sees = subst (λ (q : Stage Scheduler). StandsAtEventIn holds is_new q (Some given) s) (sym there) (t, d, subst (Stored holds is_new) (sym same) stored, serves);
      flies = subst (λ (f : Event). IsInFlight in_flight (decision_in (Some f)) s.units) (sym told) flies;
    }

-- an event that no decision makes leaves what a storage holds
pub stored-plain : (holds : Kept → Type 0) (is_new : Id → Type 0) (e : Event) (meant : Option Event) (s : State) → IsPlayedBefore meant s → meant ≡ Some e → is_of_run e ≡ false →
    decision_in (Some e) ≡ None → Stored holds is_new s.units → Stored holds is_new (units_after e s.units)
stored-plain holds is_new e meant s p is plain undecided stored =
    let sound : IsSound (p.trace says e) = record { played = (p.sound.played, may-stand p.trace e plain (p.next ∙ is)); well = p.sound.well } in
    stored-behind holds holds is_new is_new s.units p.trace e p.keeps.units sound plain stored (subst holds (sym (undecided-keeps e s.units plain undecided)) stored.holding) (λ u h n. n)
