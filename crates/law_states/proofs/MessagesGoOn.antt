-- What commits have sent over messages goes on with each event, told by the units before it.
use Rattle.law_states.proofs.FactsKept.{facts-kept}
use Rattle.law_states.specs.Keeps.{KeepsUnits}
use Rattle.law_states.specs.OpenUnits.{UnitState}
use Rattle.law_states.specs.States.{net_by}
use Rattle.law_states.specs.UnitFacts.{UnitFacts, facts_at, facts_in}
use Rattle.law_story.proofs.Coming.{Good}
use Rattle.law_story.proofs.Replays.{Ground}
use Rattle.salt_model.specs.Trace.{Trace, ◌says◌}
use Rattle.salt_model.specs.declared.events.Event.{Event}
use Rattle.salt_model.specs.declared.events.Event.TheVariants.{Did, Early, Ended, Waits}
use Rattle.salt_net.specs.Turns.{Turning}
use Rattle.salt_place.specs.declared.placement.Shape.{Shape}
use Rattle.salt_stands.specs.Turning.{change_at, changes_ended, turned, turning}
use Rattle.std.proofs.Common.{ap, ◌∙◌}
use Rattle.std.specs.Prelude.{map, refl, ◌≡◌}

changes-told : (trace : Trace) (e : Event) → changes_ended trace e ≡ map change_at (facts_at trace e).changes
changes-told trace (Did u st a) = refl
changes-told trace (Ended u end) = refl
changes-told trace (Waits u owners) = refl
changes-told trace (Early bs) = refl
changes-told trace e = refl

module _ (s : UnitState) (trace : Trace) (keeps : KeepsUnits s trace) where
  changes-kept : (e : Event) → Ground trace → Good trace e → changes_ended trace e ≡ map change_at (facts_in s e).changes
  changes-kept e ground good = changes-told trace e ∙ ap (λ (f : UnitFacts). map change_at f.changes) (facts-kept s trace keeps e ground good)

  pub net-says : (e : Event) (old : Shape → Turning) → Ground trace → Good trace e → ((shape : Shape) → turning shape trace ≡ old shape) →
      (shape : Shape) → turning shape (trace says e) ≡ net_by e s old shape
  net-says e old ground good h shape =
      λ i. turned shape (keeps.line i) (keeps.kept i).boot (changes-kept e ground good i) e (h shape i)
