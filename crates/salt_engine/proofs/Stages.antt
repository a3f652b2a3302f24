-- At which stage an engine is, by the phase of the state that it sees; and what it has at hand there.
use Rattle.salt_engine.proofs.Going.{says-keeps}
use Rattle.salt_engine.proofs.Waiting.{left-now, no-more-turns, turns-of}
use Rattle.salt_engine.specs.Standing.{IsGoingStage, StandsAtEventIn, turns_by, turns_in, waits_in}
use Rattle.salt_engine.specs.Stored.{Stored}
use Rattle.salt_engine.specs.declared.stage.Stage.TheVariants as at
use Rattle.salt_engine.specs.declared.stage.Stage.{Stage}
use Rattle.law_states.specs.OpenUnits.{UnitState}
use Rattle.law_states.specs.Points.{Point}
use Rattle.law_states.specs.Settling.{to_come, waiters}
use Rattle.law_states.specs.States.{State}
use Rattle.law_states.specs.Steps.{units_after}
use Rattle.salt_model.specs.Kept.{Kept}
use Rattle.salt_model.specs.declared.events.Event.{Event}
use Rattle.salt_scheduler.proofs.Following.{not-of-run}
use Rattle.salt_scheduler.specs.Standing.{HasDoneEvent, books_of}
use Rattle.salt_scheduler.specs.declared.scheduler.Scheduler.{Scheduler}
use Rattle.salt_driver.specs.Standing.{IsSoundPoint, left_to_come}
use Rattle.salt_values.specs.declared.id.Id.{Id}
use Rattle.std.proofs.Common.{ap, arith, subst, ◌∙◌}
use Rattle.std.specs.Prelude.{None, Option, Some, refl, ◌≡◌, ◌≤◌}

pub serves-now : (holds : Kept → Type 0) (is_new : Id → Type 0) (stage : Stage Scheduler) (given : Option Event) (s : State) → StandsAtEventIn holds is_new stage given s → IsGoingStage stage
serves-now holds is_new (at.Going x) given s h = tt
serves-now holds is_new (at.Down books) given s h = absurd h
serves-now holds is_new at.Lost given s h = absurd h

-- what the storage holds between events
pub held-now : (holds : Kept → Type 0) (is_new : Id → Type 0) (stage : Stage Scheduler) (s : State) → StandsAtEventIn holds is_new stage None s → holds s.units.kept
held-now holds is_new (at.Going x) s h = h.1.holding
held-now holds is_new (at.Down books) s h = absurd h
held-now holds is_new at.Lost s h = absurd h

-- with whatever is at hand
pub held-at : (holds : Kept → Type 0) (is_new : Id → Type 0) (stage : Stage Scheduler) (next : Option Event) (s : State) → StandsAtEventIn holds is_new stage next s → (k : Kept) × holds k
held-at holds is_new (at.Going x) None s h = (_, h.1.holding)
held-at holds is_new (at.Going x) (Some e) s h = (_, h.2.holding)
held-at holds is_new (at.Down books) next s h = absurd h
held-at holds is_new at.Lost next s h = absurd h

-- by the scheduler that stands in the stage
pub seen-at : (holds : Kept → Type 0) (is_new : Id → Type 0) (stage now : Stage Scheduler) (given : Option Event) (s : State) → stage ≡ now → StandsAtEventIn holds is_new stage given s →
    StandsAtEventIn holds is_new now given s
seen-at holds is_new stage now given s same h = subst (λ (q : Stage Scheduler). StandsAtEventIn holds is_new q given s) same h

-- how many turns may still come, between events and with one at hand; and what is still to come

pub turns-here : (holds : Kept → Type 0) (is_new : Id → Type 0) (stage : Stage Scheduler) (s : State) → StandsAtEventIn holds is_new stage None s →
    turns_in stage ≡ turns_by s.units.to_go s.units.owes
turns-here holds is_new (at.Going x) s h = turns-of (books_of x) s.units h.0.books
turns-here holds is_new (at.Down books) s h = absurd h
turns-here holds is_new at.Lost s h = absurd h

-- the event at hand is done already
pub turns-done : (stage : Stage Scheduler) (x : Scheduler) (e : Event) (s t : State) → stage ≡ at.Going x → HasDoneEvent x e s t → turns_in stage ≡ turns_by t.units.to_go t.units.owes
turns-done stage x e s t there d = ap turns_in there ∙ turns-of (books_of x) t.units d.behind.books

pub turns-now : (holds : Kept → Type 0) (is_new : Id → Type 0) (stage : Stage Scheduler) (given : Option Event) (s : State) → StandsAtEventIn holds is_new stage given s →
    turns_in stage ≤ turns_by s.units.to_go s.units.owes
turns-now holds is_new (at.Going x) None s h = let same = turns-of (books_of x) s.units h.0.books in omega arith
turns-now holds is_new (at.Going x) (Some e) s h =
    let t = h.0 in
    let d = h.1 in
    let same = turns-of (books_of x) t.units d.behind.books in
    let there : turns_by t.units.to_go t.units.owes ≡ turns_by (units_after e s.units).to_go (units_after e s.units).owes = ap (λ (u : UnitState). turns_by u.to_go u.owes) d.after.units in
    let less = no-more-turns e s.units (not-of-run e d.served) in
    omega arith
turns-now holds is_new (at.Down books) given s h = absurd h
turns-now holds is_new at.Lost given s h = absurd h

left-seen : (holds : Kept → Type 0) (is_new : Id → Type 0) (x : Scheduler) (given : Option Event) (p : Point) → IsSoundPoint p → p.next ≡ given → StandsAtEventIn holds is_new (at.Going x) given p.state →
    left_to_come (waits_in (at.Going x)) given ≡ to_come (waiters p.state) given
left-seen holds is_new x None p sound comes h = refl
left-seen holds is_new x (Some e) p sound comes h =
    let d = h.1 in
    left-now x e p.state h.0 sound.trace sound.keeps.state (says-keeps p sound e h.0 (not-of-run e d.served) comes d.after) d.behind

pub left-at : (holds : Kept → Type 0) (is_new : Id → Type 0) (stage : Stage Scheduler) (given : Option Event) (p : Point) → IsSoundPoint p → p.next ≡ given → StandsAtEventIn holds is_new stage given p.state →
    IsGoingStage stage → left_to_come (waits_in stage) given ≡ to_come (waiters p.state) given
left-at holds is_new (at.Going x) given p sound comes h serves = left-seen holds is_new x given p sound comes h
left-at holds is_new (at.Down books) given p sound comes h serves = absurd serves
left-at holds is_new at.Lost given p sound comes h serves = absurd serves

pub serving-of : (stage : Stage Scheduler) → IsGoingStage stage → (x : Scheduler) × (stage ≡ at.Going x)
serving-of (at.Going x) serves = (x, refl)
serving-of (at.Down books) serves = absurd serves
serving-of at.Lost serves = absurd serves

-- with an event at hand, which its scheduler has done
pub record HasDoneIn (holds : Kept → Type 0) (is_new : Id → Type 0) (stage : Stage Scheduler) (e : Event) (s : State) : Type 0 where
  pub scheduler : Scheduler
  pub there : stage ≡ at.Going scheduler
  pub behind : State
  pub done : HasDoneEvent scheduler e s behind
  pub stored : Stored holds is_new behind.units

pub done-in : (holds : Kept → Type 0) (is_new : Id → Type 0) (stage : Stage Scheduler) (e : Event) (s : State) → StandsAtEventIn holds is_new stage (Some e) s → HasDoneIn holds is_new stage e s
done-in holds is_new (at.Going x) e s h = record { scheduler = x; there = refl; behind = h.0; done = h.1; stored = h.2 }
done-in holds is_new (at.Down books) e s h = absurd h
done-in holds is_new at.Lost e s h = absurd h
