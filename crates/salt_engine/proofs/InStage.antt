-- The scheduler that stands in a stage; and how a stage is broken off.
use Rattle.salt_books.specs.declared.books.Books.{Books}
use Rattle.salt_engine.specs.Performing.{BreaksOff, WasBroken, broken_by, stage_behind}
use Rattle.salt_engine.specs.Standing.{GoesWith, follow_in, serving_books}
use Rattle.salt_engine.specs.declared.flights.InFlight.{InFlight}
use Rattle.salt_engine.specs.declared.stage.Stage.TheVariants as at
use Rattle.salt_engine.specs.declared.stage.Stage.{Stage}
use Rattle.law_states.specs.OpenUnits.{UnitState}
use Rattle.law_states.specs.Readings.{WatchReading}
use Rattle.law_states.specs.States.{State}
use Rattle.salt_model.specs.Kept.{Kept}
use Rattle.salt_model.specs.declared.events.Event.{Event}
use Rattle.salt_scheduler.specs.Standing.{behind_in, books_of, follow_of}
use Rattle.salt_scheduler.specs.declared.scheduler.Scheduler.{Scheduler}
use Rattle.salt_storage.specs.Writing.{ToWrite}
use Rattle.salt_storage.specs.declared.halt.Halt.TheVariants.{Memory}
use Rattle.salt_storage.specs.declared.halt.Halt.{Halt}
use Rattle.std.proofs.Common.{ap, inl, inr, subst, sym, ◌∙◌}
use Rattle.std.specs.Prelude.{Err, None, Ok, Option, Result, Some, refl, ℕ, ◌≡◌}
use Rattle.std.specs.Result.{IsErrAnd}

-- what holds of the scheduler in a stage, which is this one
pub stands-there : (P : Scheduler → Type 0) (stage : Stage Scheduler) (x : Scheduler) → stage ≡ at.Going x → GoesWith P stage → P x
stands-there P stage x is h = subst (λ (q : Stage Scheduler). GoesWith P q) is h

-- there is one
pub never-else : (P : Scheduler → Type 0) (stage : Stage Scheduler) → ((x : Scheduler) → stage ≡ at.Going x → ⊥) → GoesWith P stage → ⊥
never-else P (at.Going x) never h = never x refl
never-else P (at.Down books) never h = h
never-else P at.Lost never h = h

-- what follows on it
pub followed : (s : State) (r : WatchReading s.watch) (stage : Stage Scheduler) (x : Scheduler) → stage ≡ at.Going x → behind_in s r (follow_of x) ≡ behind_in s r (follow_in stage)
followed s r stage x is = ap (λ (q : Stage Scheduler). behind_in s r (follow_in q)) (sym is)

-- BROKEN OFF

was-broken : (halt : Halt) (x : Scheduler) → WasBroken halt (books_of x) (broken_by halt (at.Going x))
was-broken Memory x = inl (refl, refl)
was-broken halt x = inr (λ h. cc, refl)

-- its scheduler had these books
pub broken-there : (halt : Halt) (stage : Stage Scheduler) (x : Scheduler) → stage ≡ at.Going x → WasBroken halt (books_of x) (broken_by halt stage)
broken-there halt stage x is = subst (λ (q : Stage Scheduler). WasBroken halt (books_of x) (broken_by halt q)) (sym is) (was-broken halt x)

pub behind-broken : {T : Type 0} (result : Result T Halt) (halt : Halt) (stage : Stage Scheduler) (x : Scheduler) → stage ≡ at.Going x → IsErrAnd result (λ told. told ≡ halt) →
    WasBroken halt (books_of x) (stage_behind result stage)
behind-broken (Ok y) halt stage x is never = absurd never
behind-broken (Err told) halt stage x is same = subst (λ (h : Halt). WasBroken h (books_of x) (broken_by told stage)) same (broken-there told stage x is)

-- memory ran out
pub behind-lost : {T : Type 0} (result : Result T Halt) (stage : Stage Scheduler) → IsErrAnd result (λ told. told ≡ Memory) → stage_behind result stage ≡ at.Lost
behind-lost (Ok y) stage never = absurd never
behind-lost (Err told) stage same = ap (λ (h : Halt). broken_by h stage) same

-- as a move has it that was broken off
pub broken-out : (leaves : Kept → Kept → Type 0) (fills : ToWrite → ℕ → Type 0) (halt told : Halt) (stage now : Stage Scheduler) (in_flight : Option InFlight) (meant : Option Event)
    (s : UnitState) → told ≡ halt → now ≡ broken_by halt stage → BreaksOff leaves fills halt (broken_by halt stage) in_flight meant s → BreaksOff leaves fills told now in_flight meant s
broken-out leaves fills halt told stage now in_flight meant s same there broken =
    subst (λ (q : Stage Scheduler). BreaksOff leaves fills told q in_flight meant s) (sym there)
    (subst (λ (h : Halt). BreaksOff leaves fills h (broken_by halt stage) in_flight meant s) (sym same) broken)

-- BY ITS BOOKS

some-books : (x y : Books) → Some x ≡ Some y → x ≡ y
some-books x y h = cc

stays-down : (halt : Halt) (stage : Stage Scheduler) (books : Books) → (halt ≡ Memory → ⊥) → serving_books stage ≡ Some books → broken_by halt stage ≡ at.Down books
stays-down Memory stage books other is = absurd (other refl)
stays-down halt (at.Going x) books other is = ap (λ (b : Books). at.Down b) (some-books (books_of x) books is)
stays-down halt (at.Down x) books other is = ap (λ (b : Books). at.Down b) (some-books x books is)
stays-down halt at.Lost books other is = cc

pub broken-off : (halt : Halt) (stage now : Stage Scheduler) (books : Books) → serving_books stage ≡ Some books → WasBroken halt books now → now ≡ broken_by halt stage
broken-off halt stage now books is (inl lost) = lost.1 ∙ sym (ap (λ (h : Halt). broken_by h stage) lost.0)
broken-off halt stage now books is (inr down) = down.1 ∙ sym (stays-down halt stage books down.0 is)

pub lost-already : (halt : Halt) (stage : Stage Scheduler) → serving_books stage ≡ None → broken_by halt stage ≡ at.Lost
lost-already halt (at.Going x) is = cc
lost-already halt (at.Down books) is = cc
lost-already Memory at.Lost is = refl
lost-already halt at.Lost is = refl
