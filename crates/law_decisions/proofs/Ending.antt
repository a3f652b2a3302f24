-- A decided end that comes next may be decided over what is kept, and leaves what may be kept.
use Rattle.law_states.specs.Keeps.{KeepsUnit, KeepsUnits}
use Rattle.law_states.specs.Laws.{IsSound}
use Rattle.law_states.specs.OpenUnits.{OpenUnit, UnitState, unit_named}
use Rattle.law_states.specs.Overlays.{AreInOrder, Edit, edits_of, with_edits}
use Rattle.law_states.specs.Steps.{kept_ended, units_after}
use Rattle.law_states.specs.Told.{next_decision_number}
use Rattle.salt_bytes.specs.declared.moves.Move.{Move}
use Rattle.salt_model.specs.After.{kept}
use Rattle.salt_model.specs.Kept.{WellKept, conts_branched, conts_committed, schema_of}
use Rattle.salt_model.specs.Tables.{with_changes}
use Rattle.salt_model.specs.Trace.{Trace, ◌says◌}
use Rattle.salt_model.specs.Words.{Every}
use Rattle.salt_model.specs.declared.events.Cause.{Cause}
use Rattle.salt_model.specs.declared.events.End.TheVariants.{Branched, Committed}
use Rattle.salt_model.specs.declared.events.End.{End}
use Rattle.salt_model.specs.declared.events.Event.TheVariants.{Ended}
use Rattle.law_decisions.proofs.Changes.{changes-fit, changes-made, changes-ordered}
use Rattle.law_decisions.proofs.Moving.{move-rises}
use Rattle.law_decisions.specs.Ending.{EndsNext, MayEnd}
use Rattle.salt_storage.specs.Storing.{decided}
use Rattle.salt_stands.specs.OpenConts.{make_move}
use Rattle.law_types.specs.States.{AreOfTheirTypes, IsTypedOpen}
use Rattle.law_types.specs.Typed.{AreEditsOf, IsTyped}
use Rattle.salt_values.specs.Id.{is_same_id}
use Rattle.salt_values.specs.declared.change.Change.{Change}
use Rattle.salt_values.specs.declared.cont.Cont.{Cont}
use Rattle.salt_values.specs.declared.id.Id.{Id}
use Rattle.std.proofs.Common.{ap, subst, sym, ◌∙◌}
use Rattle.std.specs.Prelude.{Bool, List, Some, [], cond, false, true, ◌+◌, ◌∷◌, ◌≡◌, ◌≤◌}

-- a unit found by its name is as each of the list is
pub found : (P : OpenUnit → Type 0) (u : Id) (os : List OpenUnit) (o : OpenUnit) → Every P os → unit_named u os ≡ Some o → P o
found P u [] o h e = cc
found P u (p ∷ os) o h e = by (is_same_id p.unit u) e (found P u os o h.1)
  where
    by : (b : Bool) → cond b (Some p) (unit_named u os) ≡ Some o → (unit_named u os ≡ Some o → P o) → P o
    by true g more = let same : p ≡ o = cc in subst P same h.0
    by false g more = more g

-- what the laws below give of a state, and of it behind an end of the unit
pub record IsAround (s : UnitState) (trace : Trace) (o : OpenUnit) (end : End) : Type 0 where
  pub types : AreOfTheirTypes s
  pub boots : Every (λ (p : OpenUnit). p.unit.boot ≤ s.kept.boot) s.units
  pub ordered : AreInOrder o.changes
  pub keeps_after : KeepsUnits (units_after (Ended o.unit end) s) (trace says Ended o.unit end)
  pub types_after : AreOfTheirTypes (units_after (Ended o.unit end) s)
  pub well_after : WellKept (kept (trace says Ended o.unit end))

pub unit-kept : (s : UnitState) (trace : Trace) (o : OpenUnit) → KeepsUnits s trace → unit_named o.unit s.units ≡ Some o → KeepsUnit trace o
unit-kept s trace o keeps named = found (KeepsUnit trace) o.unit s.units o keeps.each named

pub sound-after : (s : UnitState) (trace : Trace) (o : OpenUnit) (end : End) → EndsNext s trace o end → IsSound (trace says Ended o.unit end)
sound-after s trace o end next = record { played = (next.state.sound.played, next.comes); well = next.state.sound.well }

module _ (s : UnitState) (trace : Trace) (o : OpenUnit) (end : End) (next : EndsNext s trace o end) (around : IsAround s trace o end) where
  -- with changes that are in order and fit, and a move that leaves what the event leaves
  may-end : (cs : List Change) (m : Move) (conts : List Cont) → AreInOrder (edits_of cs) → AreEditsOf (schema_of s.kept) (edits_of cs) →
      make_move s.kept.conts m ≡ Some conts → decided s.kept cs conts ≡ kept_ended s.kept end (Some o) → MayEnd s o end cs m conts
  may-end cs m conts ordered fit moves is = record {
    may = record {
      boot = found (λ (p : OpenUnit). p.unit.boot ≤ s.kept.boot) o.unit s.units o around.boots next.is_open;
      ordered = changes-ordered cs ordered;
      fits = changes-fit (schema_of s.kept) cs fit;
      moves = moves;
      sound = record {
        typed = subst IsTyped (sym leaves) around.types_after.kept;
        well = subst WellKept (around.keeps_after.kept ∙ sym leaves) around.well_after;
        rise = move-rises m s.kept.conts conts next.state.may_be_kept.rise moves;
        spelled = next.state.may_be_kept.spelled;
      };
    };
    leaves = leaves;
  }
    where
      leaves : decided s.kept cs conts ≡ (units_after (Ended o.unit end) s).kept
      leaves = is ∙ sym (ap (kept_ended s.kept end) next.is_open)

  -- with the unit's changes
  pub may-commit : (cs : List Change) (m : Move) (conts : List Cont) → edits_of cs ≡ o.changes → make_move s.kept.conts m ≡ Some conts →
      decided s.kept cs conts ≡ kept_ended s.kept end (Some o) → MayEnd s o end cs m conts
  may-commit cs m conts are moves is =
      may-end cs m conts (subst AreInOrder (sym are) around.ordered)
      (subst (AreEditsOf (schema_of s.kept)) (sym are) (found (IsTypedOpen s.kept) o.unit s.units o around.types.units next.is_open).changes) moves is

  -- with none
  pub may-branch : (m : Move) (conts : List Cont) → make_move s.kept.conts m ≡ Some conts → decided s.kept [] conts ≡ kept_ended s.kept end (Some o) → MayEnd s o end [] m conts
  may-branch m conts moves is = may-end [] m conts tt tt moves is

pub committed-is : (s : UnitState) (o : OpenUnit) (cs : List Change) (conts : List Cont) → edits_of cs ≡ o.changes →
    conts ≡ conts_committed s.kept (next_decision_number s) o.kind o.vars → decided s.kept cs conts ≡ kept_ended s.kept (Committed (next_decision_number s)) (Some o)
committed-is s o cs conts are goes =
    let tables : with_changes cs s.kept.tables ≡ with_edits o.changes s.kept.tables = changes-made cs s.kept.tables ∙ ap (λ (ds : List Edit). with_edits ds s.kept.tables) are in
    λ i. record s.kept { decisions = s.kept.decisions + 1; tables = tables i; conts = goes i }

pub branched-is : (s : UnitState) (o : OpenUnit) (cause : Cause) (conts : List Cont) → conts ≡ conts_branched s.kept o.kind →
    decided s.kept [] conts ≡ kept_ended s.kept (Branched (next_decision_number s) cause) (Some o)
branched-is s o cause conts goes = λ i. record s.kept { decisions = s.kept.decisions + 1; tables = changes-made [] s.kept.tables i; conts = goes i }
