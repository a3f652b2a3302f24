-- What an opening goes on with: something always comes, and no preparation.
use Rattle.salt_ast.specs.declared.lines.Line.TheVariants.{Nothing}
use Rattle.salt_books.specs.Coming.{event_meant}
use Rattle.salt_books.specs.declared.coming.Coming.{Coming}
use Rattle.salt_books.specs.declared.coming.Coming.TheVariants as coming
use Rattle.salt_database.proofs.Draining.{can-drain}
use Rattle.salt_database.proofs.Resting.{opening-plain}
use Rattle.salt_database.specs.Performing.{ComesInOpening, GoesOnOpening, IsToOpen}
use Rattle.salt_database.specs.Standing.{OpensIn}
use Rattle.salt_engine.proofs.Performed.{stored-plain}
use Rattle.salt_engine.specs.Performing.{IsPlayedBefore, StoredAt, is_prepared}
use Rattle.salt_engine.specs.declared.stage.Stage.{Stage}
use Rattle.salt_engine.specs.declared.stage.Stage.TheVariants as at
use Rattle.law_states.specs.Laws.{is_of_run}
use Rattle.law_states.specs.States.{State}
use Rattle.salt_model.specs.Kept.{Kept}
use Rattle.salt_model.specs.Next.{flight}
use Rattle.salt_model.specs.declared.events.Event.{Event}
use Rattle.salt_model.specs.declared.events.Why.{Why}
use Rattle.salt_model.specs.declared.events.Event.TheVariants.{Armed, Down, Opened}
use Rattle.law_openings.proofs.Resting.{never-rests}
use Rattle.salt_drain.specs.Follows.{comes_behind}
use Rattle.salt_drain.specs.Recovering as recovering
use Rattle.salt_drain.specs.Recovering.{behind_of}
use Rattle.salt_drain.specs.declared.recovery.Recovery.{Recovery}
use Rattle.salt_driver.specs.Counting.{stops_armed}
use Rattle.salt_storage.specs.Storing.{IsSoundKept}
use Rattle.salt_values.specs.declared.id.Id.{Id}
use Rattle.std.proofs.Common.{ap, subst, sym, ◌∙◌}
use Rattle.std.specs.Prelude.{Err, IsSome, List, Ok, OnErr, Option, Result, Some, [], false, refl, ℕ, ◌≡◌}

-- what holds whatever the error is
pub on-err : {A H P : Type 0} (r : Result A H) → P → OnErr r P
on-err (Ok x) h = tt
on-err (Err e) h = h

-- SOMETHING ALWAYS COMES in an opening, and no preparation.

opening-goes : (holds : Kept → Type 0) (is_new : Id → Type 0) (x : Recovery) (s : State) → GoesOnOpening holds is_new x s → IsSoundKept s.units.kept → IsSome (comes_behind (behind_of x) s.units)
opening-goes holds is_new x s h may =
    let p = h.played in
    never-rests (record { state = s; next = comes_behind (behind_of x) s.units; flight = flight p.trace }) p.trace (record { state = p.keeps; next = p.next; flight = refl }) p.sound h.stands.opening
    (can-drain s.units.kept may)

pub goes-recovers : (holds : Kept → Type 0) (is_new : Id → Type 0) (x : Recovery) (s : State) → GoesOnOpening holds is_new x s → recovering.IsRecovering s
goes-recovers holds is_new x s h = record { sound = record { trace = h.played.trace; keeps = h.played.keeps; sound = h.played.sound }; phase = h.stands.opening }

pub goes-to-open : (holds : Kept → Type 0) (is_new : Id → Type 0) (x y : Recovery) (c : Coming) (s : State) → (h : GoesOnOpening holds is_new x s) → IsSoundKept s.units.kept →
    recovering.AnswersWithComing s (comes_behind (behind_of x) s.units) y c → IsToOpen holds is_new y c s
goes-to-open holds is_new x y c s h may b = record {
  played = subst (λ (o : Option Event). IsPlayedBefore o s) (sym b.meant) h.played;
  opens = h.stands.opening;
  comes = subst (λ (o : Option Event). IsSome o) (sym b.meant) (opening-goes holds is_new x s h may);
  plain = ap is_prepared b.meant ∙ opening-plain (behind_of x) s.units;
  ready = b.ready;
  stored = by c b.meant b.ready;
}
  where
    by : (c : Coming) → event_meant s.units c ≡ comes_behind (behind_of x) s.units → recovering.IsReady y s c → StoredAt holds is_new c s
    by (coming.Told e) meant r = stored-plain holds is_new e (comes_behind (behind_of x) s.units) s h.played (sym meant) r.0.1.plain r.1.0 h.stored
    by coming.Nothing meant r = h.stored
    by (coming.Act a) meant r = h.stored
    by (coming.Commit u) meant r = h.stored
    by (coming.Branch u base cause) meant r = h.stored

-- what was given arms no stop
plain-unarmed : (e : Event) → is_prepared (Some e) ≡ false → stops_armed Nothing e ≡ []
plain-unarmed (Armed pairs) h = cc
plain-unarmed e h = refl

pub meant-unarmed : (e : Event) (meant : Option Event) → Some e ≡ meant → is_prepared meant ≡ false → stops_armed Nothing e ≡ []
meant-unarmed e meant told plain = plain-unarmed e (ap is_prepared told ∙ plain)

-- whatever the disks tell

pub comes-else : (e : Event) → ((pairs : List (ℕ × ℕ)) → e ≡ Armed pairs → ⊥) → ((why : Why) → e ≡ Down why → ⊥) → ((boot n : ℕ) → e ≡ Opened boot n → ⊥) → ComesInOpening e
comes-else (Armed pairs) armed down opened = absurd (armed pairs refl)
comes-else (Down why) armed down opened = absurd (down why refl)
comes-else (Opened boot n) armed down opened = absurd (opened boot n refl)
comes-else e armed down opened = (refl, refl)

-- what was performed of what was no preparation
pub done-comes : (e : Event) (meant : Option Event) → Some e ≡ meant → is_prepared meant ≡ false → is_of_run e ≡ false → ComesInOpening e
done-comes e meant told plain run = (run, meant-unarmed e meant told plain)

pub opens-run : (holds : Kept → Type 0) (is_new : Id → Type 0) (stage : Stage Recovery) (e : Event) (s : State) → OpensIn holds is_new stage (Some e) s → is_of_run e ≡ false
opens-run holds is_new (at.Going x) e s h = h.1.plain
opens-run holds is_new (at.Down books) e s h = absurd h
opens-run holds is_new at.Lost e s h = absurd h
