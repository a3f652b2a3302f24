-- What an event's unit gives is told by the state of units; and what comes of a watch by that, comes by the trace.
use Rattle.law_states.proofs.Doing.{reach-kept}
use Rattle.law_states.proofs.KeptAfter.{open-listed}
use Rattle.law_states.proofs.LookUps.{asked-kept}
use Rattle.law_states.specs.Keeps.{KeepsUnit, KeepsUnits}
use Rattle.law_states.specs.KeptWaits.{asker}
use Rattle.law_states.specs.OpenUnits.{OpenUnit, UnitState}
use Rattle.law_states.specs.UnitFacts.{asker_in, covered_by, facts_at, facts_in, facts_of, no_facts}
use Rattle.law_story.proofs.Coming.{Good}
use Rattle.law_story.proofs.Replays.{Ground}
use Rattle.salt_model.specs.Locks.{family_of}
use Rattle.salt_model.specs.Trace.{Trace}
use Rattle.salt_model.specs.Units.{program_of_kind}
use Rattle.salt_model.specs.declared.events.Event.{Event}
use Rattle.salt_model.specs.declared.events.Event.TheVariants.{Did, Early, Ended, Waits}
use Rattle.std.proofs.Common.{ap, sym, ◌∙◌}
use Rattle.std.specs.Prelude.{None, [], option_and_then, refl, ◌∷◌, ◌≡◌}

module _ (s : UnitState) (trace : Trace) (keeps : KeepsUnits s trace) where
  asked-reach : (o : OpenUnit) → KeepsUnit trace o → asker trace o.unit ≡ asker_in s o
  asked-reach o k = λ i. record {
    unit = o.unit;
    base = option_and_then program_of_kind (k.kind i);
    family = family_of (k.kind i);
    asked = asked-kept s trace o keeps k i;
    reach = option_and_then (λ st. reach-kept trace s.kept o st keeps.kept k i) (asked-kept s trace o keeps k i);
  }

  pub facts-kept : (e : Event) → Ground trace → Good trace e → facts_at trace e ≡ facts_in s e
  facts-kept (Did u st a) ground good =
      let r = open-listed s trace u ground keeps good.0 in
      ap (λ v. facts_at trace (Did v st a)) (sym r.2)
      ∙ (λ i. record { kind = r.3.kind i; reach = reach-kept trace s.kept r.0 st keeps.kept r.3 i; changes = []; asks = []; cover = [] })
      ∙ ap (facts_of s (Did u st a)) (sym r.1)
  facts-kept (Ended u end) ground good =
      let r = open-listed s trace u ground keeps good.0 in
      ap (λ v. facts_at trace (Ended v end)) (sym r.2)
      ∙ (λ i. record { kind = r.3.kind i; reach = None; changes = r.3.changes i; asks = []; cover = [] })
      ∙ ap (facts_of s (Ended u end)) (sym r.1)
  facts-kept (Waits u owners) ground good =
      let r = open-listed s trace u ground keeps good in
      ap (λ v. facts_at trace (Waits v owners)) (sym r.2)
      ∙ (λ i. record { kind = r.3.kind i; reach = None; changes = []; asks = asked-reach r.0 r.3 i ∷ []; cover = [] })
      ∙ ap (facts_of s (Waits u owners)) (sym r.1)
  facts-kept (Early bs) ground good = λ i. record no_facts { cover = covered_by (keeps.kept i) bs }
  facts-kept e ground good = refl
