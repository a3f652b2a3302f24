-- What is kept after an event, by the state before it.
use Rattle.law_states.proofs.OneUnit.{tables-kept}
use Rattle.law_states.proofs.UnitLists.{named-in}
use Rattle.law_states.specs.Keeps.{KeepsUnit, KeepsUnits}
use Rattle.law_states.specs.OpenUnits.{OpenUnit, UnitState, unit_named}
use Rattle.law_states.specs.Steps.{kept_branched, kept_committed, kept_ended, units_after}
use Rattle.law_story.proofs.Coming.{Good}
use Rattle.law_story.proofs.Lists.{In, has-in, into-filter}
use Rattle.law_story.proofs.Opens.{Open}
use Rattle.law_story.proofs.Replays.{Ground}
use Rattle.salt_model.specs.After.{branched, conts_at, defined_by, kept}
use Rattle.salt_model.specs.Kept.{Kept}
use Rattle.salt_model.specs.Trace.{Trace, ◌says◌}
use Rattle.salt_model.specs.Units.{is_open, units_begun}
use Rattle.salt_model.specs.declared.events.Cause.{Cause}
use Rattle.salt_model.specs.declared.events.End.TheVariants.{Branched, Committed}
use Rattle.salt_model.specs.declared.events.Event.{Event}
use Rattle.salt_model.specs.declared.events.Event.TheVariants.{Defined, Ended, Opened}
use Rattle.salt_values.specs.declared.id.Id.{Id}
use Rattle.std.proofs.Common.{ap, subst, sym, ◌∙◌}
use Rattle.std.specs.Prelude.{Some, ℕ, ◌++◌, ◌≡◌}

-- an open unit is in the list
pub open-listed : (s : UnitState) (trace : Trace) (u : Id) → Ground trace → KeepsUnits s trace → Open trace u →
    (o : OpenUnit) × (unit_named u s.units ≡ Some o) × (o.unit ≡ u) × KeepsUnit trace o
open-listed s trace u ground keeps now_open =
    named-in (KeepsUnit trace) u s.units (subst (In u) keeps.units (into-filter (is_open trace) u (units_begun trace) (has-in u (units_begun trace) (ground.each u now_open).begun) now_open)) keeps.each

committed-kept : (trace : Trace) (k : Kept) (n : ℕ) (o : OpenUnit) → kept trace ≡ k → KeepsUnit trace o →
    kept (trace says Ended o.unit (Committed n)) ≡ kept_committed k n o
committed-kept trace k n o same keeps =
    let tables = tables-kept trace k o same keeps in
    λ i. record (same i) { decisions = n; tables = tables i; conts = conts_at (same i) n (keeps.kind i) (keeps.vars i) }

branched-kept : (trace : Trace) (k : Kept) (n : ℕ) (c : Cause) (o : OpenUnit) → kept trace ≡ k → KeepsUnit trace o →
    kept (trace says Ended o.unit (Branched n c)) ≡ kept_branched k n o
branched-kept trace k n c o same keeps = λ i. branched (same i) n (keeps.kind i)

pub kept-says : (s : UnitState) (trace : Trace) (e : Event) → Ground trace → Good trace e → KeepsUnits s trace →
    kept (trace says e) ≡ (units_after e s).kept
kept-says s trace (Ended u (Committed n)) ground good keeps =
    let r = open-listed s trace u ground keeps good.0 in
    subst (λ v. kept (trace says Ended v (Committed n)) ≡ kept_committed s.kept n r.0) r.2 (committed-kept trace s.kept n r.0 keeps.kept r.3)
    ∙ ap (kept_ended s.kept (Committed n)) (sym r.1)
kept-says s trace (Ended u (Branched n c)) ground good keeps =
    let r = open-listed s trace u ground keeps good.0 in
    subst (λ v. kept (trace says Ended v (Branched n c)) ≡ kept_branched s.kept n r.0) r.2 (branched-kept trace s.kept n c r.0 keeps.kept r.3)
    ∙ ap (kept_ended s.kept (Branched n c)) (sym r.1)
kept-says s trace (Defined n text) ground good keeps =
    λ i. record (keeps.kept i) { decisions = n; definitions = (keeps.kept i).definitions ++ defined_by (keeps.line i) }
kept-says s trace (Opened boot n) ground good keeps = λ i. record (keeps.kept i) { boot = boot }
kept-says s trace e ground good keeps = keeps.kept
