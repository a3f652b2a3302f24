-- Units that wait for each other in no circle: behind most events they do not either, and where they may a victim is sought.
use Rattle.law_states.proofs.Circles.{found-none, none-found}
use Rattle.law_states.proofs.CirclesAfter.{circles-stay-away}
use Rattle.law_states.specs.Circles.{BringsNoWait, NoneOnCircle}
use Rattle.law_states.specs.Readings.{WatchReading, beside_by}
use Rattle.law_states.specs.States.{State}
use Rattle.law_states.specs.UnitFacts.{UnitFacts, facts_in}
use Rattle.law_states.specs.WatchSteps.{WatchBy}
use Rattle.law_states.specs.Watches.{Watch}
use Rattle.law_story.proofs.Ids.{and_left, and_right}
use Rattle.salt_books.specs.Ends.{IsUndecided}
use Rattle.salt_books.specs.Sound.{IsSoundState}
use Rattle.salt_conflicts.specs.Waiters.{has_program}
use Rattle.salt_model.specs.declared.events.End.{End}
use Rattle.salt_model.specs.declared.events.End.TheVariants.{Branched, Committed}
use Rattle.salt_model.specs.declared.events.Event.{Event}
use Rattle.salt_model.specs.declared.events.Event.TheVariants.{Ended}
use Rattle.salt_scheduler.proofs.SoundFacts.{never-true, waits-apart}
use Rattle.salt_scheduler.specs.Calm.{is_calm_behind}
use Rattle.salt_values.specs.declared.id.Id.{Id}
use Rattle.std.proofs.Common.{ap, sym, ◌∙◌}
use Rattle.std.specs.Prelude.{Bool, IsTrue, None, Option, Some, false, is_some, not, refl, true, ◌&&◌, ◌||◌, ◌≡◌}

-- WHICH EVENTS bring no wait

pub undecided-brings-none : (f : UnitFacts) (u : Id) (end : End) (w : Watch) → IsUndecided end → BringsNoWait f (Ended u end) w
undecided-brings-none f u (Committed n) w h = absurd h
undecided-brings-none f u (Branched n c) w h = absurd h
undecided-brings-none f u end w h = tt

-- SO IT STAYS

-- behind an event that brings no wait
pub calm-stays : (e : Event) (s : State) (w : Watch) (x new : Bool) → (IsTrue x → NoneOnCircle s.watch) → WatchBy (facts_in s.units e) e s.watch w →
    BringsNoWait (facts_in s.units e) e s.watch → new ≡ x → IsTrue new → NoneOnCircle w
calm-stays e s w x new calm by_event quiet same is = circles-stay-away (facts_in s.units e) e s.watch w by_event quiet (calm (sym same ∙ is))

-- behind one that brings none where it is quiet, and where it is not, if no unit of a program waits
pub calm-behind : (e : Event) (s : State) (w : Watch) (x quiet new : Bool) → (IsTrue x → NoneOnCircle s.watch) → WatchBy (facts_in s.units e) e s.watch w →
    (quiet ≡ true → BringsNoWait (facts_in s.units e) e s.watch) → (has_program w.waits ≡ false → NoneOnCircle s.watch → NoneOnCircle w) →
    new ≡ is_calm_behind x quiet w.waits → IsTrue new → NoneOnCircle w
calm-behind e s w x quiet new calm by_event brings apart same is = by quiet refl (has_program w.waits) refl (and_right x (quiet || not (has_program w.waits)) whole)
  where
    whole : (x && (quiet || not (has_program w.waits))) ≡ true
    whole = sym same ∙ is

    before : NoneOnCircle s.watch
    before = calm (and_left x (quiet || not (has_program w.waits)) whole)

    by : (q : Bool) → quiet ≡ q → (p : Bool) → has_program w.waits ≡ p → (q || not p) ≡ true → NoneOnCircle w
    by true e1 p e2 h = circles-stay-away (facts_in s.units e) e s.watch w by_event (brings e1) before
    by false e1 true e2 h = absurd (never-true h)
    by false e1 false e2 h = apart e2 before

pub never-calm : (w : Watch) (new : Bool) → new ≡ false → IsTrue new → NoneOnCircle w
never-calm w new same is = absurd (never-true (sym same ∙ is))

-- THE VICTIM: there is none where it is calm, and where none is found it is

pub calm-spares : (s : State) (r : WatchReading s.watch) → IsSoundState s → NoneOnCircle s.watch → None ≡ (beside_by s r).victim
calm-spares s r sound none = sym (none-found s.watch r.sources r.closes (waits-apart s sound) none)

pub sought-calm : (s : State) (r : WatchReading s.watch) → IsSoundState s → (victim : Option Id) → victim ≡ (beside_by s r).victim → victim ≡ None → NoneOnCircle s.watch
sought-calm s r sound victim told none = found-none s.watch r.sources r.closes (waits-apart s sound) (sym told ∙ none)

pub none-told : {A : Type 0} (o : Option A) (t : Bool) → is_some o ≡ not t → IsTrue t → o ≡ None
none-told None t told is = refl
none-told (Some x) t told is = absurd (never-true (sym (told ∙ ap not is)))
