-- What holds over disks that tell by the state, and over others by what was looked at.
use Rattle.salt_ast.specs.declared.lines.Line.{Line}
use Rattle.law_states.specs.Laws.{is_of_run}
use Rattle.law_states.specs.States.{State}
use Rattle.salt_books.specs.declared.coming.Coming.TheVariants as coming
use Rattle.salt_books.specs.declared.coming.Coming.{Coming}
use Rattle.salt_driver.specs.Counting.{armed_at, stops_armed}
use Rattle.salt_driver.specs.Standing.{IsOfSegment}
use Rattle.salt_engine.specs.Performing.{StoredAt, comes_plain, is_prepared}
use Rattle.salt_engine.specs.Standing.{StandsAtEventIn}
use Rattle.salt_engine.specs.declared.stage.Stage.TheVariants as at
use Rattle.salt_engine.specs.declared.stage.Stage.{Stage}
use Rattle.salt_model.specs.Arming.{stops_asked}
use Rattle.salt_model.specs.Kept.{Kept}
use Rattle.salt_model.specs.declared.events.Event.TheVariants.{Armed, Defined, Down, Opened, Refused}
use Rattle.salt_model.specs.declared.events.Event.{Event}
use Rattle.salt_model.specs.declared.events.Refusal.{Refusal}
use Rattle.salt_model.specs.declared.events.Why.{Why}
use Rattle.salt_scheduler.proofs.Following.{not-of-run}
use Rattle.salt_scheduler.specs.declared.scheduler.Scheduler.{Scheduler}
use Rattle.salt_values.specs.declared.id.Id.{Id}
use Rattle.std.proofs.Common.{ap, subst, sym, ◌∙◌}
use Rattle.std.specs.Prelude.{Bool, IsTrue, List, None, Option, Some, [], false, refl, true, ℕ, ◌≡◌}

pub untold-by : (told : Bool) → (IsTrue told → ⊥) → told ≡ false
untold-by true never = absurd (never refl)
untold-by false never = refl

pub either-way : (P : Type 0) (told : Bool) → (IsTrue told → P) → (told ≡ false → P) → P
either-way P true by_state by_test = by_state refl
either-way P false by_state by_test = by_test refl

-- what holds nothing where it is not told
pub held-untold : {told : Bool} (holds : Kept → Type 0) → told ≡ false → ((k : Kept) → holds k → IsTrue told) → (k : Kept) → holds k → ⊥
held-untold holds untold law k held = let no : false ≡ true = sym untold ∙ law k held in cc

pub stored-held : (holds : Kept → Type 0) (is_new : Id → Type 0) (c : Coming) (s : State) → StoredAt holds is_new c s → (k : Kept) × holds k
stored-held holds is_new (coming.Told e) s h = (_, h.holding)
stored-held holds is_new coming.Nothing s h = (_, h.holding)
stored-held holds is_new (coming.Act a) s h = (_, h.holding)
stored-held holds is_new (coming.Commit u) s h = (_, h.holding)
stored-held holds is_new (coming.Branch u b cause) s h = (_, h.holding)

-- AN EVENT that is plain

pub plain-unarmed-next : (line : Line) (next : Option Event) → comes_plain next ≡ true → armed_at line next ≡ []
plain-unarmed-next line None h = refl
plain-unarmed-next line (Some (Armed pairs)) h = cc
plain-unarmed-next line (Some e) h = refl

pub plain-of-segment : (next : Option Event) → comes_plain next ≡ true → IsOfSegment next
plain-of-segment None h = tt
plain-of-segment (Some (Down why)) h = cc
plain-of-segment (Some (Opened boot n)) h = cc
plain-of-segment (Some e) h = refl

pub plain-unrefused : (next : Option Event) (r : Refusal) → comes_plain next ≡ true → next ≡ Some (Refused r) → ⊥
plain-unrefused next r h is = let no : comes_plain (Some (Refused r)) ≡ true = subst (λ (o : Option Event). comes_plain o ≡ true) is h in cc

-- no other is
pub plain-else : (e : Event) → ((r : Refusal) → e ≡ Refused r → ⊥) → ((pairs : List (ℕ × ℕ)) → e ≡ Armed pairs → ⊥) → ((n : ℕ) (text : List ℕ) → e ≡ Defined n text → ⊥) →
    ((why : Why) → e ≡ Down why → ⊥) → ((boot n : ℕ) → e ≡ Opened boot n → ⊥) → true ≡ comes_plain (Some e)
plain-else (Refused r) refused armed defined down opened = absurd (refused r refl)
plain-else (Armed pairs) refused armed defined down opened = absurd (armed pairs refl)
plain-else (Defined n text) refused armed defined down opened = absurd (defined n text refl)
plain-else (Down why) refused armed defined down opened = absurd (down why refl)
plain-else (Opened boot n) refused armed defined down opened = absurd (opened boot n refl)
plain-else e refused armed defined down opened = refl

-- what the half in memory has done of what was no preparation
both-plain : (e : Event) → is_of_run e ≡ false → is_prepared (Some e) ≡ false → comes_plain (Some e) ≡ true
both-plain (Refused r) g h = cc
both-plain (Armed pairs) g h = cc
both-plain (Defined n text) g h = cc
both-plain (Down why) g h = cc
both-plain (Opened boot n) g h = cc
both-plain e g h = refl

pub seen-plain : (holds : Kept → Type 0) (is_new : Id → Type 0) (stage : Stage Scheduler) (given meant : Option Event) (s : State) → given ≡ meant → is_prepared meant ≡ false →
    StandsAtEventIn holds is_new stage given s → comes_plain given ≡ true
seen-plain holds is_new stage None meant s same plain seen = refl
seen-plain holds is_new (at.Going x) (Some e) meant s same plain seen =
    both-plain e (not-of-run e seen.1.served) (subst (λ (o : Option Event). is_prepared o ≡ false) (sym same) plain)
seen-plain holds is_new (at.Down x) (Some e) meant s same plain seen = absurd seen
seen-plain holds is_new at.Lost (Some e) meant s same plain seen = absurd seen

-- AN EVENT that was told by its own words

pub event-arms : (line : Line) (pairs told : List (ℕ × ℕ)) (e : Event) → e ≡ Armed told → told ≡ pairs → armed_at line (Some e) ≡ stops_asked line pairs
event-arms line pairs told e is same = ap (λ (f : Event). armed_at line (Some f)) is ∙ ap (stops_asked line) same

pub event-unarmed : (line : Line) (e f : Event) → e ≡ f → stops_armed line f ≡ [] → armed_at line (Some e) ≡ []
event-unarmed line e f is none = ap (λ (x : Event). armed_at line (Some x)) is ∙ none

pub event-plain : (e f : Event) → e ≡ f → is_of_run f ≡ false → is_of_run e ≡ false
event-plain e f is plain = ap is_of_run is ∙ plain
