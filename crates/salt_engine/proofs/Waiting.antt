-- The units that wait are those of the engine's point, and no event of a run brings a turn behind its line.
use Rattle.salt_books.specs.Books.{AreBooks}
use Rattle.salt_books.specs.declared.books.Books.{Books}
use Rattle.salt_engine.specs.Standing.{turns_by, waits_in}
use Rattle.salt_engine.specs.declared.stage.Stage.TheVariants.{Going}
use Rattle.law_states.specs.KeptWaits.{Asker, asker}
use Rattle.law_states.specs.Laws.{is_of_run}
use Rattle.law_states.specs.OpenUnits.{UnitState}
use Rattle.law_states.specs.Settling.{stage, to_come, waiters, waiters_after}
use Rattle.law_states.specs.States.{Keeps, State}
use Rattle.law_states.specs.Steps.{units_after}
use Rattle.law_states.specs.Watches.{Watch}
use Rattle.salt_model.specs.Trace.{Trace, ◌says◌}
use Rattle.salt_model.specs.Units.{wait_list}
use Rattle.salt_model.specs.declared.events.Event.TheVariants.{Began, Defined, Did, Down, Early, Ended, Opened, Ready, Refused, Waits}
use Rattle.salt_model.specs.declared.events.Event.{Event}
use Rattle.salt_scheduler.specs.Standing.{StandsBehindEvent, follow_of, watch_of, watched_by}
use Rattle.salt_scheduler.specs.declared.follow.Follow.TheVariants.{Release}
use Rattle.salt_scheduler.specs.declared.follow.Follow.{Follow}
use Rattle.salt_scheduler.specs.declared.scheduler.Scheduler.{Scheduler}
use Rattle.salt_driver.specs.Standing.{left_to_come}
use Rattle.salt_values.specs.declared.id.Id.{Id}
use Rattle.salt_conflicts.specs.Waiters.{waiter_of}
use Rattle.salt_conflicts.specs.declared.waiters.Waiter.{Waiter}
use Rattle.salt_conflicts.specs.Watched.{waiters_of}
use Rattle.salt_conflicts.specs.declared.watching.Watching.{Watching}
use Rattle.std.proofs.Common.{ap, arith, sym, ◌∙◌}
use Rattle.std.specs.Prelude.{Bool, List, Some, [], false, length, map, refl, true, ◌*◌, ◌+◌, ◌∷◌, ◌≡◌, ◌≤◌}

-- an event of a run brings no turn behind the line: `go all` has still to turn to the same programs, and what is owed stays, or is no more

less-owed : (bases : List Id) (owes : Bool) → turns_by bases false ≤ turns_by bases owes
less-owed bases false = omega arith
less-owed bases true = omega arith

same-turns : (bases : List Id) (owes : Bool) → turns_by bases owes ≤ turns_by bases owes
same-turns bases owes = omega arith

pub no-more-turns : (e : Event) (s : UnitState) → is_of_run e ≡ false → turns_by (units_after e s).to_go (units_after e s).owes ≤ turns_by s.to_go s.owes
no-more-turns (Down why) s h = cc
no-more-turns (Opened boot n) s h = cc
no-more-turns (Refused r) s h = less-owed s.to_go s.owes
no-more-turns (Began u kind) s h = same-turns s.to_go s.owes
no-more-turns (Did u st answer) s h = same-turns s.to_go s.owes
no-more-turns (Waits u owners) s h = same-turns s.to_go s.owes
no-more-turns (Ended u end) s h = same-turns s.to_go s.owes
no-more-turns (Defined n text) s h = same-turns s.to_go s.owes
no-more-turns Ready s h = same-turns s.to_go s.owes
no-more-turns (Early bs) s h = same-turns s.to_go s.owes
no-more-turns e s h = same-turns s.to_go s.owes

-- by the books
pub turns-of : (x : Books) (s : UnitState) → AreBooks x s → turns_by x.to_go x.owes ≡ turns_by s.to_go s.owes
turns-of x s h = λ i. turns_by (h.to_go i) (h.owes i)

-- THE WAITING UNITS of a trace

named : (trace : Trace) (us : List Id) → us ≡ map (λ (a : Asker). a.unit) (map (asker trace) us)
named trace [] = refl
named trace (u ∷ us) = ap (λ l. u ∷ l) (named trace us)

waiters-of : (s : State) (trace : Trace) → Keeps s trace → waiters s ≡ wait_list trace
waiters-of s trace k = sym (named trace (wait_list trace) ∙ ap (map (λ (a : Asker). a.unit)) k.watch.waits)

waiters-say : (trace : Trace) (e : Event) → wait_list (trace says e) ≡ waiters_after e (wait_list trace)
waiters-say trace (Waits u owners) = refl
waiters-say trace (Did u st answer) = refl
waiters-say trace (Ended u end) = refl
waiters-say trace e = refl

waiters-told : (askers : List Asker) → map (λ (w : Waiter). w.unit) (map waiter_of askers) ≡ map (λ (a : Asker). a.unit) askers
waiters-told [] = refl
waiters-told (a ∷ askers) = ap (λ l. a.unit ∷ l) (waiters-told askers)

watched-waits : (f : Follow) (x : Watching) (w : Watch) → watched_by f x w → map waiter_of w.waits ≡ waiters_of x
watched-waits (Release b) x w h = h.waits
watched-waits f x w h = h.waits

waits-behind : (x : Scheduler) (s : State) → StandsBehindEvent x s → waits_in (Going x) ≡ waiters s
waits-behind x s h = sym (ap (map (λ (w : Waiter). w.unit)) (watched-waits (follow_of x) (watch_of x) s.watch h.watch)) ∙ waiters-told s.watch.waits

-- as the event of a trace leaves them
pub waits-after : (x : Scheduler) (e : Event) (s t : State) (trace : Trace) → Keeps s trace → Keeps t (trace says e) → StandsBehindEvent x t →
    waits_in (Going x) ≡ waiters_after e (waiters s)
waits-after x e s t trace k kept h = waits-behind x t h ∙ waiters-of t (trace says e) kept ∙ waiters-say trace e ∙ ap (waiters_after e) (sym (waiters-of s trace k))

-- what is still to come, as a number
pub left-now : (x : Scheduler) (e : Event) (s t : State) (trace : Trace) → Keeps s trace → Keeps t (trace says e) → StandsBehindEvent x t →
    left_to_come (waits_in (Going x)) (Some e) ≡ to_come (waiters s) (Some e)
left-now x e s t trace k kept h = ap (λ (us : List Id). 6 * length us + stage e) (waits-after x e s t trace k kept h)
