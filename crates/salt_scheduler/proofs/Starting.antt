-- A scheduler over books without a unit, which watches nothing, or what an early opening leaves.
use Rattle.salt_books.specs.Books.{AreBooks}
use Rattle.salt_books.specs.Called.{name_told}
use Rattle.law_states.proofs.Circles.{none-waiting}
use Rattle.law_states.specs.Circles.{NoneOnCircle}
use Rattle.law_states.specs.Members.{In}
use Rattle.law_states.specs.OpenUnits.{OpenUnit}
use Rattle.law_states.specs.Readings.{first_parts}
use Rattle.law_states.specs.States.{State}
use Rattle.law_states.specs.Watches.{Watch, empty_watch}
use Rattle.salt_scheduler.specs.Standing.{IsTurning, StandsForState, bases_called}
use Rattle.salt_scheduler.specs.declared.follow.Follow.TheVariants as follow
use Rattle.salt_scheduler.specs.declared.follow.Follow.{Follow}
use Rattle.salt_scheduler.specs.declared.scheduler.Scheduler.{Scheduler}
use Rattle.salt_values.specs.declared.id.Id.{Id}
use Rattle.salt_conflicts.specs.Watched.{IsWatch}
use Rattle.std.proofs.Common.{append-nil, refl, subst, sym}
use Rattle.std.specs.Prelude.{List, Some, [], ◌++◌, ◌≡◌}

-- no program is called where there is no unit, and nothing is watched
none-called : (s : State) (f : Follow) (b : Id) → f ≡ follow.Nothing → s.units.units ≡ [] → s.watch ≡ empty_watch 0 → In b (bases_called f s) → ⊥
none-called s f b nothing none watch i =
    subst (λ (g : Follow). In b (bases_called g s) → ⊥) (sym nothing)
    (subst (λ (w : Watch). In b (w.programs ++ (first_parts s.units.units ++ [])) → ⊥) (sym watch)
    (subst (λ (os : List OpenUnit). In b (first_parts os ++ []) → ⊥) (sym none) (λ j. j))) i

pub opens : (x : Scheduler) (programs : List Id) (s : State) → x.follow ≡ follow.Nothing → programs ≡ [] → AreBooks x.books s.units → s.units.units ≡ [] →
    s.watch ≡ empty_watch 0 → IsTurning s.units → IsWatch x.watch (record (empty_watch 0) { programs = programs }) → StandsForState x s
opens x programs s nothing no_programs books none watch turns watched = record {
  books = books;
  watch = subst (IsWatch x.watch) (sym watch) (subst (λ (bs : List Id). IsWatch x.watch (record (empty_watch 0) { programs = bs })) no_programs watched);
  called = λ b i. absurd (none-called s x.follow b nothing none watch i);
  turns = turns;
  calm = λ is. subst NoneOnCircle (sym watch) (none-waiting (empty_watch 0) refl);
}

-- where there is no unit and nothing follows, names are kept of the programs that are watched
called-watched : (s : State) (f : Follow) (b : Id) → f ≡ follow.Nothing → s.units.units ≡ [] → In b (bases_called f s) → In b s.watch.programs
called-watched s f b nothing none i =
    subst (λ (bs : List Id). In b bs) (append-nil s.watch.programs)
    (subst (λ (os : List OpenUnit). In b (s.watch.programs ++ (first_parts os ++ []))) none
    (subst (λ (g : Follow). In b (bases_called g s)) nothing i))

pub resumes : (x : Scheduler) (s : State) → x.follow ≡ follow.Nothing → AreBooks x.books s.units → s.units.units ≡ [] → IsTurning s.units → IsWatch x.watch s.watch →
    s.watch.waits ≡ [] → ((b : Id) → In b s.watch.programs → name_told x.called b ≡ Some (s.names b)) → StandsForState x s
resumes x s nothing books none turns watched waits names = record {
  books = books;
  watch = watched;
  called = λ b i. names b (called-watched s x.follow b nothing none i);
  turns = turns;
  calm = λ is. none-waiting s.watch waits;
}
