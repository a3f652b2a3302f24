-- What settles, and what comes behind an event.
use Rattle.salt_books.proofs.Meant.{meant-first}
use Rattle.salt_books.specs.Books.{AreBooks}
use Rattle.salt_books.specs.Called.{name_told}
use Rattle.salt_books.specs.Coming.{CanCome, event_meant}
use Rattle.salt_conflicts.specs.Watched.{IsWatch}
use Rattle.law_states.specs.Members.{In}
use Rattle.salt_scheduler.specs.Follows.{event_of}
use Rattle.salt_scheduler.specs.Standing.{AnswersWithComing, IsReady, StandsForState, StandsBehindEvent, StandsWith, bases_called, behind_in, watched_by}
use Rattle.salt_books.specs.declared.coming.Coming.TheVariants as coming
use Rattle.salt_books.specs.declared.coming.Coming.{Coming}
use Rattle.salt_scheduler.specs.declared.scheduler.Scheduler.{Scheduler}
use Rattle.salt_scheduler.specs.declared.follow.Follow.{Follow}
use Rattle.law_states.specs.Follows.{settles_in}
use Rattle.law_states.specs.OpenUnits.{OpenUnit, UnitState, unit_named}
use Rattle.law_states.specs.Readings.{WatchReading, beside_by}
use Rattle.law_states.specs.States.{State}
use Rattle.law_states.specs.Told.{Beside, serve_in, settle_in}
use Rattle.salt_model.specs.declared.events.End.TheVariants.{Victim}
use Rattle.salt_model.specs.declared.events.Event.TheVariants.{Ended}
use Rattle.salt_model.specs.declared.events.Event.{Event}
use Rattle.salt_values.specs.declared.id.Id.{Id}
use Rattle.std.proofs.Common.{ap, subst, sym, ◌∙◌}
use Rattle.std.specs.Option.{option_or}
use Rattle.std.specs.Prelude.{None, Option, Some, option_and_then, refl, ◌≡◌}

abbrev unit_served : UnitState → Option Id → Option OpenUnit
unit_served s served = option_and_then (λ u. unit_named u s.units) served

pub settles-victim : (s : UnitState) (x : Beside) (u : Id) → x.victim ≡ Some u → settles_in s x ≡ Some (Ended u Victim)
settles-victim s x u victim = ap (λ v. settle_in s v (unit_served s x.served)) victim

settled-by : (s : UnitState) (o : Option OpenUnit) → settle_in s None o ≡ option_and_then (serve_in s) o
settled-by s None = refl
settled-by s (Some o) = refl

pub settles-serves : (s : UnitState) (x : Beside) (u : Id) → x.victim ≡ None → x.served ≡ Some u →
    settles_in s x ≡ option_and_then (serve_in s) (unit_named u s.units)
settles-serves s x u victim served =
    ap (λ v. settle_in s v (unit_served s x.served)) victim ∙ ap (λ w. settle_in s None (unit_served s w)) served ∙ settled-by s (unit_named u s.units)

pub settles-nothing : (s : UnitState) (x : Beside) → x.victim ≡ None → x.served ≡ None → settles_in s x ≡ None
settles-nothing s x victim served =
    ap (λ v. settle_in s v (unit_served s x.served)) victim ∙ ap (λ w. settle_in s None (unit_served s w)) served

-- what is watched is what it was, and all else is the same
pub watched-anew : (x y : Scheduler) (s : State) → y.books ≡ x.books → y.called ≡ x.called → y.follow ≡ x.follow → y.calm ≡ x.calm → IsWatch y.watch s.watch →
    StandsForState x s → StandsForState y s
watched-anew x y s books called follow calm watch stands = record {
  books = subst (λ b. AreBooks b s.units) (sym books) stands.books;
  watch = watch;
  called = λ b i. ap (λ n. name_told n b) called ∙ stands.called b (subst (λ f. In b (bases_called f s)) follow i);
  turns = stands.turns;
  calm = λ is. stands.calm (sym calm ∙ is);
}

-- behind an event

pub behind-at : (f : Follow) (x : Scheduler) (s : State) → x.follow ≡ f → StandsBehindEvent x s → StandsWith (watched_by f) x s
behind-at f x s is behind = subst (λ g. StandsWith (watched_by g) x s) is behind

pub none-of : {A : Type 0} (o : Option A) → ((x : A) → o ≡ Some x → ⊥) → o ≡ None
none-of None h = refl
none-of (Some x) h = absurd (h x refl)

may-come : (s : State) (x : Scheduler) (c : Coming) → IsReady x s c → CanCome c s.units
may-come s x (coming.Told e) ready = tt
may-come s x c ready = ready.1

pub follows-first : (s : State) (r : WatchReading s.watch) (f : Follow) (new : Scheduler) (c : Coming) → (c ≡ coming.Nothing → ⊥) →
    AnswersWithComing s (event_of f s.units (beside_by s r)) new c → AnswersWithComing s (behind_in s r f) new c
follows-first s r f new c some h = record {
  meant = sym (meant-first s.units c (settles_in s.units (beside_by s r)) (may-come s new c h.ready) some) ∙ ap (λ o. option_or o (settles_in s.units (beside_by s r))) h.meant;
  ready = h.ready;
}

pub settles-then : (s : State) (r : WatchReading s.watch) (f : Follow) (new : Scheduler) (c : Coming) → c ≡ coming.Nothing →
    AnswersWithComing s (event_of f s.units (beside_by s r)) new c → behind_in s r f ≡ settles_in s.units (beside_by s r)
settles-then s r f new c none h = ap (λ o. option_or o (settles_in s.units (beside_by s r))) (sym h.meant ∙ ap (event_meant s.units) none)

pub stands-on : (s : State) (want : Option Event) (new : Scheduler) (c : Coming) → c ≡ coming.Nothing → AnswersWithComing s want new c → StandsForState new s
stands-on s want new c none h = let ready = subst (IsReady new s) none h.ready in ready.0
