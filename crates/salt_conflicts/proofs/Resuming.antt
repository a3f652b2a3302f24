-- What an early opening leaves: the cover, the programs that it names, and their group.
use Rattle.salt_deps.specs.Kept.{dependencies}
use Rattle.law_states.specs.DependencyCalls.{AreSame}
use Rattle.law_states.specs.KeptCover.{group_of}
use Rattle.law_states.specs.KeptLocks.{Numbered, numbered_from, on_lock}
use Rattle.law_states.specs.KeptSources.{Dependencies}
use Rattle.law_states.specs.Members.{SameMembers}
use Rattle.law_states.specs.UnitFacts.{UnitFacts}
use Rattle.law_states.specs.WatchSteps.{DependenciesBy}
use Rattle.law_states.specs.Watches.{Watch}
use Rattle.law_story.proofs.Ids.{and_left, and_right}
use Rattle.salt_model.specs.declared.events.Event.TheVariants.{Early}
use Rattle.salt_values.specs.Id.{has_id, is_same_id}
use Rattle.salt_values.specs.declared.id.Id.{Id}
use Rattle.salt_conflicts.proofs.Same.{itself, same-dependencies, watch_beside}
use Rattle.salt_conflicts.specs.Watched.{GoesBy}
use Rattle.salt_conflicts.specs.declared.watching.Watching.{Watching}
use Rattle.std.proofs.Common.{arith, refl, subst, sym}
use Rattle.std.specs.List.{filter_map}
use Rattle.std.specs.Prelude.{Bool, List, None, [], false, length, not, true, ◌&&◌, ◌++◌, ◌∷◌, ◌≡◌}

none-left : (table : List Numbered) → filter_map (on_lock (λ l. None)) table ≡ []
none-left [] = refl
none-left (n ∷ ns) = none-left ns

un-not : (t : Bool) → not t ≡ true → t ≡ false
un-not true h = cc
un-not false h = refl

three : (a b c : Bool) → a ≡ true → b ≡ true → c ≡ false → (a && b && not c) ≡ true
three true true false e f g = refl
three false b c e f g = cc
three true false c e f g = cc
three true true true e f g = cc

grouped : (f : UnitFacts) (bs : List Id) (old : Dependencies) → DependenciesBy f (Early bs) old (group_of bs)
grouped f bs old = record {
  writer = λ p. refl;
  reads = λ x y. (
    (λ t.
        let both = and_left (has_id x bs && has_id y bs) _ t in
        (and_left (has_id x bs) _ both, and_right (has_id x bs) _ both, un-not (is_same_id y x) (and_right (has_id x bs && has_id y bs) _ t))),
    (λ m. three (has_id x bs) (has_id y bs) (is_same_id y x) m.0 m.1 m.2),
  );
  finished = λ b. ((λ t. cc), (λ n. absurd n));
}

pub resumes : (x : Watching) (w : Watch) (f : UnitFacts) → x.waits ≡ [] → SameMembers x.locks (numbered_from 0 f.cover) → x.taken ≡ length f.cover →
    AreSame (group_of x.programs) (dependencies x.deps) → GoesBy f (Early x.programs) w x
resumes x w f waits locks taken group = (
  watch_beside (dependencies x.deps) x [],
  record {
    locks = subst (λ ns. SameMembers x.locks (ns ++ numbered_from 0 f.cover)) (sym (none-left w.table)) locks;
    taken = omega (arith, taken);
    waits = refl;
    programs = refl;
    dependencies = subst (DependenciesBy f (Early x.programs) w.dependencies)
        (sym (same-dependencies (group_of x.programs) (dependencies x.deps) group)) (grouped f x.programs w.dependencies);
  },
  record { table = refl; taken = refl; waits = sym waits; programs = refl; dependencies = itself (dependencies x.deps) },
)
