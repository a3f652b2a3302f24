-- What is shown is what a state tells, and nothing else is done.
use Rattle.salt_books.specs.Called.{name_told}
use Rattle.salt_scheduler.proofs.Done.{called-stays, gives, into-first, into-programs, state_by, sub-called}
use Rattle.salt_scheduler.specs.Standing.{AnswersWith, StandsForState, bases_called}
use Rattle.salt_scheduler.specs.declared.scheduler.Scheduler.{Scheduler}
use Rattle.salt_scheduler.specs.declared.follow.Follow.{Follow}
use Rattle.salt_scheduler.specs.declared.follow.Follow.TheVariants.{Nothing}
use Rattle.law_states.specs.Members.{In}
use Rattle.law_states.specs.Readings.{base_at_by, base_item_by, first_parts, under_way_by}
use Rattle.law_states.specs.States.{State}
use Rattle.law_states.specs.UnitFacts.{facts_in}
use Rattle.law_story.proofs.Lists.{in-cases, in-order}
use Rattle.salt_model.specs.Words.{Every}
use Rattle.salt_model.specs.declared.events.Event.TheVariants.{Shown}
use Rattle.salt_model.specs.declared.shown.BaseAt.{BaseAt}
use Rattle.salt_model.specs.declared.shown.Item.{Item}
use Rattle.salt_values.specs.declared.id.Id.{Id}
use Rattle.salt_conflicts.proofs.Others.{others}
use Rattle.salt_conflicts.specs.Watched.{IsWatch}
use Rattle.std.proofs.Common.{ap, arith, get_or, inl, inr, refl, ◌∙◌}
use Rattle.std.specs.Prelude.{List, None, Some, [], length, suc, zero, ℕ, ◌++◌, ◌<◌, ◌∷◌, ◌≡◌, ◌⊎◌}

pub shown : (s : State) (x : Scheduler) (items wanted : List Item) → StandsForState x s → items ≡ wanted →
    AnswersWith s (Some (Shown wanted)) (record x { follow = Nothing }) (Some (Shown items))
shown s x items wanted stands same =
    let new : Scheduler = record x { follow = Nothing } in
    gives IsWatch (Shown wanted) s s.watch x new (Some (Shown items)) stands (ap (λ i. Some (Shown i)) same) (record {
      served = refl;
      follows = λ beside. refl;
      watch = others s.watch (facts_in s.units (Shown wanted)) (Shown wanted) tt;
      watched = stands.watch;
      books = stands.books;
      called = called-stays IsWatch Nothing s (state_by (Shown wanted) s s.watch) x new stands refl (λ b. refl)
          (sub-called Nothing x.follow s (state_by (Shown wanted) s s.watch) refl (λ b i. i) (λ b i. i));
      calm = stands.calm;
    })

-- a program under way has the name by which it was called
pub is-called : (f : Follow) (s : State) (b : Id) → In b (under_way_by s) → In b (bases_called f s)
is-called f s b i = by (in-cases b s.watch.programs (first_parts s.units.units) (in-order b (s.watch.programs ++ first_parts s.units.units) i))
  where
    by : In b s.watch.programs ⊎ In b (first_parts s.units.units) → In b (bases_called f s)
    by (inl j) = into-programs f s b j
    by (inr j) = into-first f s b j

-- each element is in its list
pub every-in : {A : Type 0} (xs : List A) → Every (λ x. In x xs) xs
every-in {A = A} xs = go xs (λ x i. i)
  where
    go : (ys : List A) → ((y : A) → In y ys → In y xs) → Every (λ x. In x xs) ys
    go [] h = tt
    go (y ∷ ys) h = (h y (inl refl), go ys (λ z i. h z (inr i)))

pub every-at : {A : Type 0} (P : A → Type 0) (xs : List A) (i : ℕ) (d : A) → i < length xs → Every P xs → P (get_or xs i d)
every-at P [] i d h e = absurd (omega arith)
every-at P (x ∷ xs) zero d h e = e.0
every-at P (x ∷ xs) (suc i) d h e = every-at P xs i d (omega arith) e.1

-- a program under way was called by some name
pub none-called : (x : Scheduler) (s : State) (b : Id) → StandsForState x s → In b (under_way_by s) → name_told x.called b ≡ None → ⊥
none-called x s b stands i none = let some = stands.called b (is-called x.follow s b i) in cc

-- a program under way as it is shown
pub item-of : (x : Scheduler) (s : State) (b : Id) (name program : List ℕ) (at : BaseAt) → StandsForState x s → In b (under_way_by s) →
    name_told x.called b ≡ Some name → program ≡ name → at ≡ base_at_by s b → Item.Base b program at ≡ base_item_by s b
item-of x s b name program at stands i told same is =
    let some = stands.called b (is-called x.follow s b i) in
    let both : name ≡ s.names b = cc in
    λ j. Item.Base b ((same ∙ both) j) (is j)
