-- The units of an opening, from point to point, without a trace.
use Rattle.law_states.proofs.KeepsOn.{state-kept}
use Rattle.law_states.specs.Follows.{opening_in, said_in, unit_of}
use Rattle.law_states.specs.Keeps.{KeepsUnits}
use Rattle.law_states.specs.Laws.{IsSound, is_of_run}
use Rattle.law_states.specs.OpenUnits.{UnitState}
use Rattle.law_states.specs.Points.{Point, Says}
use Rattle.law_states.specs.Readings.{beside_by}
use Rattle.law_states.specs.Steps.{units_after, units_of}
use Rattle.law_story.proofs.Every.{IfSome}
use Rattle.law_story.proofs.Fresh.{IfComes}
use Rattle.salt_model.specs.Next.{decision_in, is_decision}
use Rattle.salt_model.specs.Phases.{Opening, Phase}
use Rattle.salt_model.specs.Trace.{Trace, ◌says◌}
use Rattle.salt_model.specs.declared.events.Event.{Event}
use Rattle.salt_model.specs.declared.events.Event.TheVariants.{Down, Early, Opened, Ready}
use Rattle.law_openings.proofs.Draining.{Goes, opening-follows}
use Rattle.law_openings.proofs.Ending.{left-falls}
use Rattle.law_openings.proofs.OneState.{one-state}
use Rattle.law_openings.proofs.Opening.{said-in-opening}
use Rattle.law_openings.proofs.Resting.{opening-comes}
use Rattle.law_openings.proofs.Standing.{StandsOn, comes-weaker, opened-follows, stands-at}
use Rattle.law_openings.specs.Draining.{CanDrain, Stands, is_within, left_to_open, opening_stage, statements_left, units_to_cut}
use Rattle.law_openings.specs.Openings.{Opens}
use Rattle.salt_values.specs.declared.id.Id.{Id}
use Rattle.std.proofs.Common.{ap, arith, subst, sym, ◌∙◌}
use Rattle.std.specs.Bool.{then_some}
use Rattle.std.specs.Prelude.{Bool, IsSome, List, None, Option, Some, false, is_some, refl, true, ℕ, ◌*◌, ◌+◌, ◌<◌, ◌≡◌}

pub units-stand : (s : UnitState) (trace : Trace) (e : Event) → KeepsUnits s (trace says e) → IsSound (trace says e) → s.phase ≡ Opening → Stands s e
units-stand s trace e k sound h =
    let same : units_of (trace says e) ≡ s = one-state (trace says e) (units_of (trace says e)) s (state-kept (trace says e) sound.played sound.well) k in
    subst (λ s. Stands s e) same (stands-at trace e sound.played sound.well (k.phase ∙ h))

-- where the opening goes on, neither its Ready nor its Early has come
within-opening : (e : Event) (old new : UnitState) → is_of_run e ≡ false → new ≡ units_after e old → new.phase ≡ Opening → is_within e ≡ true
within-opening (Down why) old new r a h = cc
within-opening (Opened boot n) old new r a h = cc
within-opening Ready old new r a h = let serving = sym (ap (λ (s : UnitState). s.phase) a) ∙ h in cc
within-opening (Early bs) old new r a h = let serving = sym (ap (λ (s : UnitState). s.phase) a) ∙ h in cc
within-opening e old new r a h = refl

-- what comes next in an opening
module _ (e : Event) (old new : Point) (said : Says e old new) (r : is_of_run e ≡ false) (h : new.state.units.phase ≡ Opening) where
  next-in : new.next ≡ opening_in new.state.units e (unit_of e old.state.units new.state.units)
  next-in = said.next ∙ said-in-opening e old.state new.state said.read old.flight r h

  within : is_within e ≡ true
  within = within-opening e old.state.units new.state.units r said.after.units h

  goes-next : Stands new.state.units e → IfComes (Goes e new.state.units) new.next
  goes-next s = subst (IfComes (Goes e new.state.units)) (sym next-in) (opening-follows old.state.units new.state.units e within s)

  pub says-stand : (f : Event) → Stands new.state.units e → new.next ≡ Some f → Stands (units_after f new.state.units) f
  says-stand f s n = subst (IfComes (StandsOn new.state.units)) n (comes-weaker (Goes e new.state.units) (StandsOn new.state.units) (λ f g. g.stands) new.next (goes-next s))

  pub says-comes : Stands new.state.units e → CanDrain new.state.units.kept → IsSome new.next
  says-comes s can = subst (λ o. is_some o ≡ true) (sym next-in) (opening-comes old.state.units new.state.units e within s can)

  pub says-falls : Stands new.state.units e → CanDrain new.state.units.kept →
      left_to_open new.state.units new.next < left_to_open old.state.units old.next
  says-falls s can =
      subst (λ o. left_to_open new.state.units new.next < left_to_open old.state.units o) (sym said.comes)
      (subst (λ (t : UnitState). left_to_open new.state.units new.next < 8 * (units_to_cut t + statements_left t) + opening_stage e) said.after.units
      (left-falls e new.state.units can new.next (goes-next s)))

flying : (o : Option Event) → decision_in o ≡ o → IfSome (λ e. is_decision e ≡ true) o
flying None h = tt
flying (Some e) h = by (is_decision e) refl h
  where
    by : (b : Bool) → is_decision e ≡ b → then_some b e ≡ Some e → is_decision e ≡ true
    by true d x = d
    by false d x = cc

pub opens-stand : (boot n : ℕ) (f : Event) (old new : Point) → Opens boot n old new → Stands new.state.units (Opened boot n) →
    decision_in old.flight ≡ old.flight → new.next ≡ Some f → Stands (units_after f new.state.units) f
opens-stand boot n f old new opened s decided h =
    subst (IfComes (StandsOn new.state.units)) (sym opened.next ∙ h) (opened-follows new.state.units boot n old.flight s (flying old.flight decided))

pub ready-falls : (old new : Point) → Says Ready old new → left_to_open new.state.units new.next < left_to_open old.state.units old.next
ready-falls old new said =
    let none : new.next ≡ None = said.next ∙ ap (λ (q : Phase). said_in q new.state.units (beside_by new.state said.read) Ready None) (ap (λ (s : UnitState). s.phase) said.after.units) in
    subst (λ o. left_to_open new.state.units o < left_to_open old.state.units old.next) (sym none)
    (subst (λ o. left_to_open new.state.units None < left_to_open old.state.units o) (sym said.comes) (omega arith))

pub early-falls : (bs : List Id) (old new : Point) → Says (Early bs) old new → left_to_open new.state.units new.next < left_to_open old.state.units old.next
early-falls bs old new said =
    let none : new.next ≡ None = said.next ∙ ap (λ (q : Phase). said_in q new.state.units (beside_by new.state said.read) (Early bs) None) (ap (λ (s : UnitState). s.phase) said.after.units) in
    subst (λ o. left_to_open new.state.units o < left_to_open old.state.units old.next) (sym none)
    (subst (λ o. left_to_open new.state.units None < left_to_open old.state.units o) (sym said.comes) (omega arith))
