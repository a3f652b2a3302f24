-- A program comes to its end: what is due then is told, and released.
use Rattle.salt_deps.specs.Kept.{dependencies}
use Rattle.law_states.proofs.Ascending.{Older, order-of-ascending}
use Rattle.law_states.proofs.CallsFit.{finish-leaves}
use Rattle.law_states.specs.DependencyCalls.{AreSame, HasFinished, marked}
use Rattle.law_states.specs.KeptLocks.{is_base_among}
use Rattle.law_states.specs.KeptSources.{Dependencies, IsDue, unless_among}
use Rattle.law_states.specs.Members.{Ascends}
use Rattle.law_states.specs.Readings.{WatchReading}
use Rattle.law_states.specs.Rising.{Rising}
use Rattle.law_states.specs.UnitFacts.{UnitFacts}
use Rattle.law_states.specs.WatchSteps.{DependenciesBy}
use Rattle.law_states.specs.Watches.{Watch}
use Rattle.salt_values.specs.Id.{in_order, without}
use Rattle.salt_model.specs.declared.events.Event.TheVariants.{Released}
use Rattle.salt_model.specs.declared.events.Owner.{Owner}
use Rattle.salt_model.specs.declared.events.Owner.TheVariants.{Base, Unit}
use Rattle.salt_values.specs.declared.id.Id.{Id}
use Rattle.salt_conflicts.proofs.Same.{same-dependencies}
use Rattle.salt_conflicts.proofs.Told.{filter-all}
use Rattle.salt_conflicts.specs.Calls.{is_unreleased}
use Rattle.salt_conflicts.specs.Watched.{IsFinishing, IsWatch}
use Rattle.salt_conflicts.specs.declared.watching.Watching.{Watching}
use Rattle.std.proofs.Common.{refl, subst, sym, ◌∙◌}
use Rattle.std.specs.List.{filter}
use Rattle.std.specs.Prelude.{List, None, Option, Some, [], not, true, ◌∷◌, ◌≡◌}

ascending : (us : List Id) → Rising us → Ascends Older us
ascending [] r = tt
ascending (u ∷ us) r = (r.0, ascending us r.1)

pub in-order-already : (us : List Id) → Rising us → us ≡ in_order us
in-order-already us r = order-of-ascending us us (ascending us r) (λ b i. i) (λ b i. i)

pub due-told : (b : Id) (old new : Watching) (w : Watch) (r : WatchReading w) (due : List Id) → IsFinishing b old w → Rising due →
    HasFinished b due (dependencies old.deps) (dependencies new.deps) → due ≡ in_order r.due
due-told b old new w r due s rising h =
    let e = same-dependencies (marked b (dependencies old.deps)) w.dependencies s.dependencies in
    order-of-ascending due r.due (ascending due rising)
    (λ c i. (r.are_due c).1 (subst (λ d. IsDue d c) (sym e) ((h.due c).0 i)))
    (λ c i. (h.due c).1 (subst (λ d. IsDue d c) e ((r.are_due c).0 i)))

pub leaves : (f : UnitFacts) (b : Id) (due : List Id) (old new : Dependencies) → Rising due → HasFinished b due old new →
    DependenciesBy f (Released due) (marked b old) new
leaves f b due old new rising h = subst (λ bs. DependenciesBy f (Released bs) (marked b old) new) (sym (in-order-already due rising)) (finish-leaves f b due old new h)

pub no-owner : (o : Owner) → not (is_base_among [] o) ≡ true
no-owner (Unit u) = refl
no-owner (Base b) = refl

-- where none is due, only the mark is set
pub none-due : (b : Id) (old new : Watching) (w : Watch) (due : List Id) → due ≡ [] → IsFinishing b old w → HasFinished b due (dependencies old.deps) (dependencies new.deps) →
    new.locks ≡ filter (is_unreleased due) old.locks → new.taken ≡ old.taken → new.waits ≡ old.waits →
    new.programs ≡ without due old.programs → IsWatch new w
none-due b old new w due none s h locks taken waits programs = record {
  table = s.table ∙ sym (subst (λ bs. new.locks ≡ filter (is_unreleased bs) old.locks) none locks ∙ filter-all (is_unreleased []) old.locks (λ n i. no-owner n.lock.owner));
  taken = s.taken ∙ sym taken;
  waits = s.waits ∙ sym waits;
  programs = s.programs ∙ sym (subst (λ bs. new.programs ≡ without bs old.programs) none programs ∙ filter-all (λ (u : Id). true) old.programs (λ n i. refl));
  dependencies = subst (AreSame (dependencies new.deps)) (sym (same-dependencies (marked b (dependencies old.deps)) w.dependencies s.dependencies)) (same (subst (λ bs. HasFinished b bs (dependencies old.deps) (dependencies new.deps)) none h));
}
  where
    unless-none : (o : Option Id) → unless_among [] o ≡ o
    unless-none None = refl
    unless-none (Some c) = refl

    same : HasFinished b [] (dependencies old.deps) (dependencies new.deps) → AreSame (dependencies new.deps) (marked b (dependencies old.deps))
    same h = record {
      writer = λ q. sym (h.writer q ∙ unless-none _);
      reads = λ x y. ((λ t. (h.reads x y).1 (t, refl, refl)), (λ t. ((h.reads x y).0 t).0));
      finished = λ c. ((λ t. (h.finished c).1 (t, refl)), (λ t. ((h.finished c).0 t).0));
    }
