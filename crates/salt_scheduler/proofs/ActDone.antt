-- A unit has done a statement, or waits for those that hold what it would reach.
use Rattle.salt_model.specs.declared.locks.Reach.{Reach}
use Rattle.salt_model.specs.declared.events.Owner.TheVariants.{Unit}
use Rattle.salt_ast.specs.declared.trees.Statement.{Statement}
use Rattle.salt_books.specs.Books.{AreBooks}
use Rattle.salt_scheduler.proofs.Beginning.{first-same}
use Rattle.salt_scheduler.proofs.ApartCircles.{reads-close-none}
use Rattle.salt_scheduler.proofs.Calm.{calm-behind, never-calm}
use Rattle.salt_scheduler.proofs.Done.{at-follow, called-stays, gives, gives-same, state_by, sub-called}
use Rattle.salt_scheduler.proofs.Facts.{facts-did, facts-waits}
use Rattle.salt_scheduler.proofs.InTurn.{did}
use Rattle.salt_books.proofs.Named.{named-unit}
use Rattle.salt_books.specs.Asking.{IsAsked, IsAskedBy}
use Rattle.salt_scheduler.specs.Calm.{is_calm_behind}
use Rattle.salt_scheduler.specs.Standing.{AnswersWithComing, AnswersWith, StandsForState}
use Rattle.salt_books.specs.declared.coming.Coming.TheVariants as coming
use Rattle.salt_books.specs.declared.asking.Asking.{Asking}
use Rattle.salt_scheduler.specs.declared.scheduler.Scheduler.{Scheduler}
use Rattle.salt_scheduler.specs.declared.follow.Follow.TheVariants.{Done, Nothing}
use Rattle.law_states.specs.Circles.{BringsNoWait}
use Rattle.law_states.specs.KeptLocks.{clash_in}
use Rattle.law_states.specs.Members.{In}
use Rattle.law_states.specs.OpenUnits.{OpenUnit, UnitState, asks_next, unit_named}
use Rattle.law_states.specs.Readings.{clash_by, locks_in}
use Rattle.law_states.specs.States.{State}
use Rattle.law_states.specs.Steps.{doing_one, outcome_under, units_after, waiting_by}
use Rattle.law_states.specs.Told.{Clashes, asks_in, does_in, serve_in, turn_of_in}
use Rattle.law_states.specs.UnitFacts.{UnitFacts, asker_in, facts_in, reach_under}
use Rattle.law_states.specs.WatchSteps.{base_by}
use Rattle.law_states.specs.Watches.{Watch}
use Rattle.salt_model.specs.Honest.{cause_in}
use Rattle.salt_model.specs.Locks.{family_of, owners_of}
use Rattle.salt_model.specs.declared.events.Answer.{Answer}
use Rattle.salt_model.specs.declared.events.Event.TheVariants.{Did, Waits}
use Rattle.salt_model.specs.declared.events.Event.{Event}
use Rattle.salt_model.specs.declared.events.Owner.{Owner}
use Rattle.salt_values.specs.declared.id.Id.{Id}
use Rattle.salt_conflicts.specs.Waiters.{waiter_of}
use Rattle.salt_conflicts.specs.Watched.{GoesBy, IsWatch}
use Rattle.std.proofs.Common.{ap, subst, sym, ◌∙◌}
use Rattle.std.specs.Prelude.{Bool, List, Option, Some, [], false, option_and_then, option_map, refl, true, ◌∷◌, ◌≡◌}

-- the facts that a call of the watch asks for
pub did-base : (s : UnitState) (a : Asking) (answer : Answer) (o : OpenUnit) → IsAskedBy a s o →
    base_by (facts_in s (Did a.unit a.statement answer)) ≡ a.base
did-base s a answer o h = ap base_by (facts-did s a.unit a.statement answer o h.named) ∙ sym h.base

pub did-family : (s : UnitState) (a : Asking) (answer : Answer) (o : OpenUnit) → IsAskedBy a s o →
    family_of (facts_in s (Did a.unit a.statement answer)).kind ≡ a.family
did-family s a answer o h = ap (λ (f : UnitFacts). family_of f.kind) (facts-did s a.unit a.statement answer o h.named) ∙ sym h.family

pub did-reach : (s : UnitState) (a : Asking) (answer : Answer) (o : OpenUnit) → IsAskedBy a s o →
    (facts_in s (Did a.unit a.statement answer)).reach ≡ a.reach
did-reach s a answer o h = ap (λ (f : UnitFacts). f.reach) (facts-did s a.unit a.statement answer o h.named) ∙ sym h.reach

pub waits-asks : (s : UnitState) (a : Asking) (owners : List Owner) (o : OpenUnit) → IsAskedBy a s o →
    (facts_in s (Waits a.unit owners)).asks ≡ asker_in s o ∷ []
waits-asks s a owners o h = ap (λ (f : UnitFacts). f.asks) (facts-waits s a.unit owners o h.named)

pub waits-waiter : (s : UnitState) (a : Asking) (o : OpenUnit) → IsAskedBy a s o →
    waiter_of (asker_in s o) ≡ record { unit = a.unit; base = a.base; family = a.family; reach = a.reach }
waits-waiter s a o h = λ i. record {
  unit = named-unit a.unit s.units o h.named i;
  base = sym h.base i;
  family = sym h.family i;
  reach = (ap (option_and_then (reach_under s.kept o)) h.asks ∙ sym h.reach) i;
}

pub act-gives : (x new : Scheduler) (a : Asking) (answer : Answer) (quiet : Bool) (s : State) (o : OpenUnit) (given : Option Event) → StandsForState x s →
    IsAskedBy a s.units o → given ≡ Some (Did a.unit a.statement answer) → answer ≡ (outcome_under s.units.kept o a.statement).answer →
    AreBooks new.books (units_after (Did a.unit a.statement answer) s.units) →
    GoesBy (facts_in s.units (Did a.unit a.statement answer)) (Did a.unit a.statement answer) s.watch new.watch → new.called ≡ x.called →
    new.follow ≡ Done a.unit (cause_in answer) → (quiet ≡ true → BringsNoWait (facts_in s.units (Did a.unit a.statement answer)) (Did a.unit a.statement answer) s.watch) →
    ((w : Watch) → IsWatch new.watch w → new.calm ≡ is_calm_behind x.calm quiet w.waits) → AnswersWith s (Some (does_in s.units o a.statement)) new given
act-gives x new a answer quiet s o given stands asked told answers books watch same follow brings calm =
    gives-same s (Some (does_in s.units o a.statement)) (Some (Did a.unit a.statement answer)) given new
    (λ i. Some (Did (named-unit a.unit s.units.units o asked.named i) a.statement (sym answers i)))
    (gives IsWatch (Did a.unit a.statement answer) s watch.0 x new given stands told
    (at-follow (Done a.unit (cause_in answer)) (Did a.unit a.statement answer) s watch.0 new follow (record {
      served = refl;
      follows = did a.unit a.statement answer s.units (units_after (Did a.unit a.statement answer) s.units);
      watch = watch.1;
      watched = watch.2;
      books = books;
      called = called-stays IsWatch (Done a.unit (cause_in answer)) s (state_by (Did a.unit a.statement answer) s watch.0) x new stands same (λ b. refl)
          (sub-called (Done a.unit (cause_in answer)) x.follow s (state_by (Did a.unit a.statement answer) s watch.0) refl
          (λ b i. subst (In b) watch.1.programs i)
          (λ b i. subst (In b) (first-same a.unit (doing_one s.units.kept a.statement) s.units.units (λ o. refl)) i));
      calm = calm-behind (Did a.unit a.statement answer) s watch.0 x.calm quiet new.calm stands.calm watch.1 brings
          (reads-close-none (facts_in s.units (Did a.unit a.statement answer)) a.unit a.statement answer s.watch watch.0 watch.1) (calm watch.0 watch.2);
    })))

pub wait-gives : (x new : Scheduler) (a : Asking) (owners : List Owner) (s : State) (o : OpenUnit) (given : Option Event) → StandsForState x s →
    IsAskedBy a s.units o → given ≡ Some (Waits a.unit owners) → AreBooks new.books (units_after (Waits a.unit owners) s.units) →
    GoesBy (facts_in s.units (Waits a.unit owners)) (Waits a.unit owners) s.watch new.watch → new.called ≡ x.called → new.follow ≡ Nothing → new.calm ≡ false →
    AnswersWith s (Some (Waits a.unit owners)) new given
wait-gives x new a owners s o given stands asked told books watch same follow calm =
    gives IsWatch (Waits a.unit owners) s watch.0 x new given stands told
    (at-follow Nothing (Waits a.unit owners) s watch.0 new follow (record {
      served = refl;
      follows = λ beside. refl;
      watch = watch.1;
      watched = watch.2;
      books = books;
      called = called-stays IsWatch Nothing s (state_by (Waits a.unit owners) s watch.0) x new stands same (λ b. refl)
          (sub-called Nothing x.follow s (state_by (Waits a.unit owners) s watch.0) refl
          (λ b i. subst (In b) watch.1.programs i)
          (λ b i. subst (In b) (first-same a.unit (waiting_by s.units.line) s.units.units (λ o. refl)) i));
      calm = never-calm watch.0 new.calm calm;
    }))

-- what a turn brings of a unit that asks

pub turn-asked : (s : UnitState) (clash : Clashes) (u : Id) (o : OpenUnit) (st : Statement) (owners : List Owner) → unit_named u s.units ≡ Some o →
    asks_next s o ≡ Some st → owners ≡ clash o st → turn_of_in s clash (unit_named u s.units) ≡ Some (asks_in s o st owners)
turn-asked s clash u o st owners named asks clashes =
    ap (turn_of_in s clash) named ∙ ap (option_map (λ st. asks_in s o st (clash o st))) asks ∙ ap (λ os. Some (asks_in s o st os)) (sym clashes)

pub serve-asked : (s : UnitState) (u : Id) (o : OpenUnit) (st : Statement) → unit_named u s.units ≡ Some o → asks_next s o ≡ Some st →
    option_and_then (serve_in s) (unit_named u s.units) ≡ Some (does_in s o st)
serve-asked s u o st named asks = ap (option_and_then (serve_in s)) named ∙ ap (option_map (does_in s o)) asks

-- what is asked is to be done

pub asked-at : (s : UnitState) (u : Id) (found : Option Asking) (a : Asking) → found ≡ Some a → IsAsked s u found → IsAsked s u (Some a)
asked-at s u found a is h = subst (λ (f : Option Asking). IsAsked s u f) is h

pub asked-name : (s : UnitState) (u : Id) (a : Asking) → (asked : IsAsked s u (Some a)) → unit_named u s.units ≡ Some asked.1.0
asked-name s u a asked = subst (λ v. unit_named v s.units ≡ Some asked.1.0) asked.0 asked.1.1.named

pub act-brings : (x : Scheduler) (s : State) (a : Asking) (o : OpenUnit) (want : Option Event) → StandsForState x s → IsAskedBy a s.units o →
    want ≡ Some (does_in s.units o a.statement) → AnswersWithComing s want x (coming.Act a)
act-brings x s a o want stands asked wanted = record {
  meant = ap (option_map (λ (o : OpenUnit). does_in s.units o a.statement)) asked.named ∙ sym wanted;
  ready = (stands, (o, asked));
}

-- whom it clashes with
pub clashes-told : (s : State) (u : Id) (a : Asking) (o : OpenUnit) (owners : List Owner) (r : Option Reach) → unit_named u s.units.units ≡ Some o →
    IsAskedBy a s.units o → r ≡ a.reach → owners ≡ owners_of (clash_in (Unit u) a.family r (locks_in s.watch)) → owners ≡ clash_by s o a.statement
clashes-told s u a o owners r named asked same told =
    told ∙ (λ i. owners_of (clash_in (Unit (sym (named-unit u s.units.units o named) i)) (asked.family i) ((same ∙ asked.reach) i) (locks_in s.watch)))

pub asks-does : (s : UnitState) (o : OpenUnit) (st : Statement) (owners : List Owner) → owners ≡ [] → asks_in s o st owners ≡ does_in s o st
asks-does s o st owners none = ap (asks_in s o st) none

pub asks-waits : (s : UnitState) (u : Id) (o : OpenUnit) (st : Statement) (owners : List Owner) → unit_named u s.units ≡ Some o → (owners ≡ [] → ⊥) →
    asks_in s o st owners ≡ Waits u owners
asks-waits s u o st [] named some = absurd (some refl)
asks-waits s u o st (owner ∷ owners) named some = ap (λ v. Waits v (owner ∷ owners)) (named-unit u s.units o named)
