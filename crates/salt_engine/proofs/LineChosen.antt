-- What a scheduler brings in a line is performed, and that is what was to come.
use Rattle.salt_books.specs.declared.coming.Coming.TheVariants as coming
use Rattle.salt_books.specs.declared.coming.Coming.{Coming}
use Rattle.salt_engine.proofs.Performed.{acts-meant, commits-meant, stored-plain, unit-there}
use Rattle.salt_engine.specs.Performing.{IsPlayedBefore, IsToServe, StoredAt, is_prepared}
use Rattle.salt_engine.specs.Stored.{Stored}
use Rattle.law_states.specs.States.{State}
use Rattle.salt_model.specs.Kept.{Kept}
use Rattle.salt_model.specs.Phases.{Serving}
use Rattle.salt_model.specs.declared.events.Event.{Event}
use Rattle.salt_scheduler.proofs.Following.{not-of-run}
use Rattle.salt_scheduler.specs.Standing as scheduling
use Rattle.salt_scheduler.specs.declared.scheduler.Scheduler.{Scheduler}
use Rattle.salt_values.specs.declared.id.Id.{Id}
use Rattle.std.proofs.Common.{ap, subst, sym, ◌∙◌}
use Rattle.std.specs.Prelude.{None, Option, Some, false, refl, ◌≡◌}

stored-at : (holds : Kept → Type 0) (is_new : Id → Type 0) (x : Scheduler) (c : Coming) (meant : Option Event) (s : State) → IsPlayedBefore meant s →
    scheduling.AnswersWithComing s meant x c → Stored holds is_new s.units → StoredAt holds is_new c s
stored-at holds is_new x (coming.Told e) meant s played b stored =
    stored-plain holds is_new e meant s played (sym b.meant) (not-of-run e b.ready.0.1.served) b.ready.1 stored
stored-at holds is_new x coming.Nothing meant s played b stored = stored
stored-at holds is_new x (coming.Act a) meant s played b stored = stored
stored-at holds is_new x (coming.Commit u) meant s played b stored = stored
stored-at holds is_new x (coming.Branch u base cause) meant s played b stored = stored

pub to-serve : (holds : Kept → Type 0) (is_new : Id → Type 0) (x : Scheduler) (c : Coming) (meant : Option Event) (s : State) → IsPlayedBefore meant s →
    s.units.phase ≡ Serving → is_prepared meant ≡ false → scheduling.AnswersWithComing s meant x c → Stored holds is_new s.units → IsToServe holds is_new x c s
to-serve holds is_new x c meant s played serves plain b stored = record {
  played = subst (λ (m : Option Event). IsPlayedBefore m s) (sym b.meant) played;
  serves = serves;
  plain = ap is_prepared b.meant ∙ plain;
  ready = b.ready;
  stored = stored-at holds is_new x c meant s played b stored;
}

-- where nothing is meant, nothing is to come
pub nothing-comes : (s : State) (x : Scheduler) (c : Coming) (meant : Option Event) → scheduling.AnswersWithComing s meant x c → meant ≡ None → c ≡ coming.Nothing
nothing-comes s x coming.Nothing meant b none = refl
nothing-comes s x (coming.Told e) meant b none = let no : Some e ≡ None = b.meant ∙ none in cc
nothing-comes s x (coming.Act a) meant b none = let no = sym (acts-meant s.units a b.ready.1.0 b.ready.1.1) ∙ b.meant ∙ none in cc
nothing-comes s x (coming.Commit u) meant b none =
    let there = unit-there s.units u b.ready.1 in let no = sym (commits-meant s.units u there.0 there.1) ∙ b.meant ∙ none in cc
nothing-comes s x (coming.Branch u base cause) meant b none = let no = b.meant ∙ none in cc
