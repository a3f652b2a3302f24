-- At which stage an opening is, by what it sees; and an event of it that is performed by its recovery.
use Rattle.salt_database.specs.Standing.{OpensIn}
use Rattle.salt_engine.specs.Flights.{IsInFlight}
use Rattle.salt_engine.specs.Performing.{PerformsEvent}
use Rattle.salt_engine.specs.Standing.{IsGoingStage}
use Rattle.salt_engine.specs.Stored.{Stored}
use Rattle.salt_engine.specs.declared.flights.InFlight.{InFlight}
use Rattle.salt_engine.specs.declared.stage.Stage.{Stage}
use Rattle.salt_engine.specs.declared.stage.Stage.TheVariants as at
use Rattle.law_states.specs.States.{State}
use Rattle.law_states.specs.Steps.{units_after}
use Rattle.salt_model.specs.Kept.{Kept}
use Rattle.salt_model.specs.Next.{decision_in}
use Rattle.salt_model.specs.Phases.{Opening}
use Rattle.salt_model.specs.declared.events.Event.{Event}
use Rattle.salt_drain.specs.Recovering as recovering
use Rattle.salt_drain.specs.declared.recovery.Recovery.{Recovery}
use Rattle.salt_values.specs.declared.id.Id.{Id}
use Rattle.std.proofs.Common.{ap, refl, subst, sym, ◌∙◌}
use Rattle.std.specs.Prelude.{Option, Some, ◌≡◌}

pub opens-now : (holds : Kept → Type 0) (is_new : Id → Type 0) (stage : Stage Recovery) (given : Option Event) (s : State) → OpensIn holds is_new stage given s → IsGoingStage stage
opens-now holds is_new (at.Going x) given s h = tt
opens-now holds is_new (at.Down books) given s h = absurd h
opens-now holds is_new at.Lost given s h = absurd h

pub never-going : (stage : Stage Recovery) → ((x : Recovery) → stage ≡ at.Going x → ⊥) → IsGoingStage stage → ⊥
never-going (at.Going x) never h = never x refl
never-going (at.Down books) never h = h
never-going at.Lost never h = h

-- by the stage that was taken out
pub opened-at : (holds : Kept → Type 0) (is_new : Id → Type 0) (stage now : Stage Recovery) (given : Option Event) (s : State) → stage ≡ now → OpensIn holds is_new stage given s →
    OpensIn holds is_new now given s
opened-at holds is_new stage now given s same h = subst (λ (q : Stage Recovery). OpensIn holds is_new q given s) same h

same-some : {A : Type 0} (x y : A) → Some x ≡ Some y → x ≡ y
same-some x y h = cc

-- by a recovery
pub opens-by : (holds : Kept → Type 0) (is_new : Id → Type 0) (stage : Stage Recovery) (in_flight : Option InFlight) (meant : Option Event) (s : State) (x : Recovery) (e given : Event) →
    IsInFlight in_flight (decision_in (Some e)) s.units → stage ≡ at.Going x → meant ≡ Some e → recovering.AnswersWith s (Some e) x (Some given) → s.units.phase ≡ Opening → Stored holds is_new (units_after e s.units) →
    PerformsEvent (OpensIn holds is_new stage) in_flight meant (Some given) s
opens-by holds is_new stage in_flight meant s x e given flies there is g opens stored =
    let t = g.done.0 in
    let d = g.done.1 in
    let told = same-some given e g.told in
    let same : t.units ≡ units_after e s.units = d.after.units ∙ ap (λ (f : Event). units_after f s.units) told in
    record {
      told = g.told ∙ sym is;
      sees = subst (λ (q : Stage Recovery). OpensIn holds is_new q (Some given) s) (sym there) (t, d, subst (Stored holds is_new) (sym same) stored, opens);
      flies = subst (λ (f : Event). IsInFlight in_flight (decision_in (Some f)) s.units) (sym told) flies;
    }
