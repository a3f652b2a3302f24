-- An event leaves a state behind it: what is watched is that of a played trace, so it is seen by lists, and these compute.
use Rattle.law_states.proofs.EachTrace.{each-kept}
use Rattle.law_states.proofs.PlainGoesOn.{plain-says}
use Rattle.law_states.specs.KeptSources.{Dependencies, KeepsDependencies}
use Rattle.law_states.specs.Laws.{IsSound}
use Rattle.law_states.specs.OpenUnits.{UnitState}
use Rattle.law_states.specs.PlainStates.{PlainState, as_state, state_after, state_of}
use Rattle.law_states.specs.States.{Keeps, State}
use Rattle.law_states.specs.UnitFacts.{facts_in}
use Rattle.law_states.specs.WatchSteps.{DependenciesBy, counted_by, table_by, waits_by}
use Rattle.law_states.specs.KeptPrograms.{unreleased_after}
use Rattle.salt_model.specs.Trace.{Trace}
use Rattle.salt_model.specs.declared.events.Event.{Event}
use Rattle.law_openings.proofs.OneState.{one-state}
use Rattle.law_openings.specs.Openings.{Leaves}
use Rattle.std.proofs.Common.{subst, sym, ◌∙◌}
use Rattle.std.specs.Prelude.{Bool, IsTrue, false, refl, true, ◌↔◌, ◌≡◌}

same-test : (a b : Bool) → IsTrue a ↔ IsTrue b → a ≡ b
same-test true b h = sym (h.0 refl)
same-test false true h = h.1 refl
same-test false false h = refl

-- what is kept of writers, readers and finished programs is one for each trace
one-kept : (trace : Trace) (c d : Dependencies) → KeepsDependencies c trace → KeepsDependencies d trace → c ≡ d
one-kept trace c d k l i = record {
  writer = λ p. (k.writer p ∙ sym (l.writer p)) i;
  reads = λ x y. same-test (c.reads x y) (d.reads x y) ((λ h. (l.reads x y).1 ((k.reads x y).0 h)), (λ h. (k.reads x y).1 ((l.reads x y).0 h))) i;
  finished = λ b. same-test (c.finished b) (d.finished b) ((λ h. (l.finished b).1 ((k.finished b).0 h)), (λ h. (k.finished b).1 ((l.finished b).0 h))) i;
}

pub leaves : (s : State) (trace : Trace) (e : Event) → Keeps s trace → IsSound trace → Leaves e s
leaves s trace e keeps sound = record {
  watch = record {
    table = table_by (facts_in s.units e) s.watch.taken e s.watch.table;
    taken = counted_by (facts_in s.units e) e s.watch.taken;
    waits = waits_by (facts_in s.units e) e s.watch.waits;
    programs = unreleased_after e s.watch.programs;
    dependencies = after;
  };
  after = record {
    units = refl;
    watch = record { locks = λ n. ((λ i. i), (λ i. i)); taken = refl; waits = refl; programs = refl; dependencies = goes };
    names = λ b. refl;
    can_stop = refl;
    over_net = refl;
    net = λ shape. refl;
  };
}
  where
    plain : PlainState
    plain = state_of trace

    its : Keeps (as_state plain) trace
    its = each-kept trace sound.played sound.well

    after : Dependencies
    after = (as_state (state_after e plain)).watch.dependencies

    units : plain.units ≡ s.units
    units = one-state trace plain.units s.units its.units keeps.units

    same : (as_state plain).watch.dependencies ≡ s.watch.dependencies
    same = one-kept trace (as_state plain).watch.dependencies s.watch.dependencies its.watch.dependencies keeps.watch.dependencies

    goes : DependenciesBy (facts_in s.units e) e s.watch.dependencies after
    goes =
        subst (λ (old : Dependencies). DependenciesBy (facts_in s.units e) e old after) same
        (subst (λ (us : UnitState). DependenciesBy (facts_in us e) e (as_state plain).watch.dependencies after) units (plain-says e plain).watch.dependencies)
