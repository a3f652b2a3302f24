-- Events that are no call.
use Rattle.salt_deps.specs.Kept.{dependencies}
use Rattle.law_states.proofs.CallsFit.{finish-marks}
use Rattle.law_states.specs.DependencyCalls.{AreSame, marked}
use Rattle.law_states.specs.KeptSources.{Dependencies}
use Rattle.law_states.specs.UnitFacts.{UnitFacts}
use Rattle.law_states.specs.WatchSteps.{WatchBy}
use Rattle.law_states.specs.Watches.{Watch}
use Rattle.salt_model.specs.declared.events.Event.{Event}
use Rattle.salt_model.specs.declared.events.Event.TheVariants.{Accepted, Did, Early, Ended, Finished, Ready, Released, Waits}
use Rattle.salt_values.specs.declared.id.Id.{Id}
use Rattle.salt_conflicts.proofs.Goes.{kept}
use Rattle.salt_conflicts.proofs.Same.{itself, same-dependencies}
use Rattle.salt_conflicts.specs.Watched.{IsFinishing, IsOfNoWatch, IsWatch}
use Rattle.salt_conflicts.specs.declared.watching.Watching.{Watching}
use Rattle.std.proofs.Common.{arith, refl, subst, sym}

pub others : (w : Watch) (f : UnitFacts) (e : Event) → IsOfNoWatch e → WatchBy f e w w
others w f (Did u st a) h = absurd h
others w f (Waits u os) h = absurd h
others w f (Ended u end) h = absurd h
others w f (Accepted b) h = absurd h
others w f (Finished b) h = absurd h
others w f (Released bs) h = absurd h
others w f Ready h = absurd h
others w f (Early bs) h = absurd h
others w f e h = record {
  locks = kept w.table;
  taken = omega arith;
  waits = refl;
  programs = refl;
  dependencies = record { writer = λ q. refl; reads = λ x y. ((λ t. t), (λ t. t)); finished = λ b. ((λ t. t), (λ t. t)) };
}

pub marks : (x : Watching) (w : Watch) (f : UnitFacts) (b : Id) → IsWatch x w → (new : Watch) × WatchBy f (Finished b) w new × IsFinishing b x new
marks x w f b s = (
  record w { dependencies = marked b w.dependencies },
  record { locks = kept w.table; taken = omega arith; waits = refl; programs = refl; dependencies = finish-marks f b w.dependencies },
  record {
    table = s.table;
    taken = s.taken;
    waits = s.waits;
    programs = s.programs;
    dependencies = subst (λ (d : Dependencies). AreSame (marked b (dependencies x.deps)) (marked b d)) (sym (same-dependencies (dependencies x.deps) w.dependencies s.dependencies)) (itself (marked b (dependencies x.deps)));
  },
)
