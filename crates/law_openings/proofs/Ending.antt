-- An opening ends: what is left of it falls with each event.
use Rattle.law_states.proofs.KeepsOn.{state-kept}
use Rattle.law_states.specs.Follows.{opening_in, said_in, unit_of}
use Rattle.law_states.specs.Laws.{IsSound, is_of_run}
use Rattle.law_states.specs.Nexts.{said_next}
use Rattle.law_states.specs.OpenUnits.{UnitState}
use Rattle.law_states.specs.Readings.{WatchReading, beside_by}
use Rattle.law_states.specs.States.{After, Keeps, State}
use Rattle.law_states.specs.Steps.{units_after, units_of}
use Rattle.law_story.proofs.Fresh.{IfComes}
use Rattle.salt_model.specs.Phases.{Opening, Phase, phase}
use Rattle.salt_model.specs.Trace.{Trace, ◌says◌}
use Rattle.salt_model.specs.declared.events.Event.{Event}
use Rattle.salt_model.specs.declared.events.Event.TheVariants.{Accepted, Began, Did, Down, Early, Finished, Opened, Ready}
use Rattle.law_openings.proofs.Draining.{Goes, opening-follows}
use Rattle.law_openings.proofs.OneState.{one-state}
use Rattle.law_openings.proofs.Opening.{said-in-opening}
use Rattle.law_openings.proofs.Standing.{stands-at}
use Rattle.law_openings.specs.Draining.{CanDrain, Stands, is_within, left_to_open, opening_stage, statements_left, units_to_cut}
use Rattle.std.proofs.Common.{ap, arith, subst, sym, ◌∙◌}
use Rattle.std.specs.Prelude.{None, Option, Some, false, refl, true, ◌*◌, ◌+◌, ◌<◌, ◌≡◌, ◌≤◌}

stage-counts : (e : Event) → 1 ≤ opening_stage e
stage-counts (Began u kind) = omega arith
stage-counts (Did u st answer) = omega arith
stage-counts (Accepted b) = omega arith
stage-counts (Finished b) = omega arith
stage-counts Ready = omega arith
stage-counts (Early bs) = omega arith
stage-counts e = omega arith

pub left-falls : (f : Event) (s : UnitState) → CanDrain s.kept → (o : Option Event) → IfComes (Goes f s) o →
    left_to_open s o < 8 * (units_to_cut s + statements_left s) + opening_stage f
left-falls f s can None h = let l = stage-counts f in omega arith
left-falls f s can (Some e) h = let a = h.statements can in let b = h.cuts in let c = h.stage in omega arith

within-stands : (old new : State) (trace : Trace) (e : Event) → Keeps old trace → IsSound (trace says e) → After e old new → phase (trace says e) ≡ Opening →
    Stands new.units e
within-stands old new trace e k sound a h =
    let same : old.units ≡ units_of trace = one-state trace old.units (units_of trace) k.units (state-kept trace sound.played.0 sound.well) in
    subst (λ s. Stands s e) (ap (units_after e) (sym same) ∙ sym a.units) (stands-at trace e sound.played sound.well h)

falls-within : (e : Event) (old new : State) (x : WatchReading new.watch) (flight : Option Event) (trace : Trace) → is_of_run e ≡ false → is_within e ≡ true →
    phase (trace says e) ≡ Opening → new.units.phase ≡ Opening → Keeps old trace → IsSound (trace says e) → CanDrain new.units.kept → After e old new →
    left_to_open new.units (said_next e old new x flight) < left_to_open old.units (Some e)
falls-within e old new x flight trace r w h opening k sound can a =
    subst (λ o. left_to_open new.units o < left_to_open old.units (Some e)) (sym (said-in-opening e old new x flight r opening))
    (subst (λ s. left_to_open new.units (opening_in new.units e (unit_of e old.units new.units)) < 8 * (units_to_cut s + statements_left s) + opening_stage e) a.units
    (left-falls e new.units can (opening_in new.units e (unit_of e old.units new.units)) (opening-follows old.units new.units e w (within-stands old new trace e k sound a h))))

pub openings-end : (e : Event) (old new : State) (x : WatchReading new.watch) (flight : Option Event) (trace : Trace) → is_of_run e ≡ false → old.units.phase ≡ Opening →
    Keeps old trace → IsSound (trace says e) → CanDrain new.units.kept → After e old new →
    left_to_open new.units (said_next e old new x flight) < left_to_open old.units (Some e)
openings-end (Down why) old new x flight trace r h k sound can a = cc
openings-end (Opened boot n) old new x flight trace r h k sound can a = cc
openings-end Ready old new x flight trace r h k sound can a =
    subst (λ (q : Phase). left_to_open new.units (said_in q new.units (beside_by new x) Ready None) < left_to_open old.units (Some Ready))
    (sym (ap (λ (s : UnitState). s.phase) a.units)) (omega arith)
openings-end (Early bs) old new x flight trace r h k sound can a =
    subst (λ (q : Phase). left_to_open new.units (said_in q new.units (beside_by new x) (Early bs) None) < left_to_open old.units (Some (Early bs)))
    (sym (ap (λ (s : UnitState). s.phase) a.units)) (omega arith)
openings-end e old new x flight trace r h k sound can a =
    falls-within e old new x flight trace r refl (k.units.phase ∙ h) (ap (λ (s : UnitState). s.phase) a.units ∙ h) k sound can a
