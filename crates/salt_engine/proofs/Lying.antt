-- Between lines an engine can be opened at its point.
use Rattle.salt_engine.proofs.Flying.{flight-next}
use Rattle.salt_engine.proofs.Halting.{is-left, know-units}
use Rattle.salt_engine.specs.Flights.{IsInFlight}
use Rattle.salt_engine.specs.Standing.{KnowsUnits, CanReopenAt, AgreesWithState, StandsAtEventIn, serving_books}
use Rattle.salt_engine.specs.declared.flights.InFlight.{InFlight}
use Rattle.salt_engine.specs.declared.stage.Stage.TheVariants as at
use Rattle.salt_engine.specs.declared.stage.Stage.{Stage}
use Rattle.law_states.specs.Points.{IsIdle, Point}
use Rattle.law_states.specs.States.{State}
use Rattle.salt_model.specs.Kept.{Kept}
use Rattle.salt_model.specs.Next.{decision_in}
use Rattle.salt_model.specs.Phases.{Fallen, Serving}
use Rattle.salt_model.specs.declared.events.Event.{Event}
use Rattle.salt_scheduler.specs.Standing.{books_of}
use Rattle.salt_scheduler.specs.declared.scheduler.Scheduler.{Scheduler}
use Rattle.salt_driver.specs.Standing.{IsSoundPoint}
use Rattle.salt_storage.specs.Storing.{IsSoundKept}
use Rattle.salt_values.specs.declared.id.Id.{Id}
use Rattle.std.proofs.Common.{ap, inl, subst, sym, ◌∙◌}
use Rattle.std.specs.Prelude.{Bool, IsSome, None, Option, refl, ◌≡◌}

idle-knows : (holds : Kept → Type 0) (is_new : Id → Type 0) (stage : Stage Scheduler) (s : State) → StandsAtEventIn holds is_new stage None s →
    KnowsUnits (serving_books stage) s.units × holds s.units.kept
idle-knows holds is_new (at.Going x) s h = ((books_of x, refl, know-units (books_of x) s.units h.0.books), h.1.holding)
idle-knows holds is_new (at.Down books) s h = absurd h
idle-knows holds is_new at.Lost s h = absurd h

up : (p : Point) → p.state.units.phase ≡ Serving → p.state.units.phase ≡ Fallen → ⊥
up p serves fallen = let no = sym serves ∙ fallen in cc

pub idle-lies : (holds : Kept → Type 0) (is_new : Id → Type 0) (leaves : Kept → Kept → Type 0) (stoppable : Bool) (stage : Stage Scheduler) (single : Bool) (in_flight : Option InFlight) (p : Point) →
    IsSoundPoint p → AgreesWithState (StandsAtEventIn holds is_new stage) stoppable single in_flight None p.state → IsIdle p → ((k : Kept) → holds k → leaves k k) → ((k : Kept) → holds k → IsSoundKept k) →
    CanReopenAt holds leaves stoppable None (serving_books stage) single in_flight 0 p
idle-lies holds is_new leaves stoppable stage single in_flight p sound sees idle stays may =
    let k = p.state.units.kept in
    let knows = idle-knows holds is_new stage p.state sees.seen in
    record {
      left = (k, k, stays k knows.1, is-left (IsSome in_flight) p k (inl refl), is-left (IsSome in_flight) p k (inl refl));
      knows = knows.0;
      sound = may k knows.1;
      can_stop = sees.can_stop;
      line = sees.line;
      flies =
          subst (λ (f : Option Event). IsInFlight in_flight f p.state.units) (sym (flight-next p sound.trace sound.keeps (up p idle.serves) ∙ ap decision_in idle.next))
          sees.flies;
    }
