-- The state of a played trace is of its types.
use Rattle.salt_ast.specs.Judgement.{bindings}
use Rattle.law_states.specs.Keeps.{KeepsUnit, KeepsUnits}
use Rattle.law_states.specs.OpenUnits.{OpenUnit, UnitState}
use Rattle.law_story.proofs.Lists.{In, in-filter, into-map}
use Rattle.salt_model.specs.After.{kept}
use Rattle.salt_model.specs.Kept.{Kept, schema_of}
use Rattle.salt_model.specs.Trace.{Trace}
use Rattle.salt_model.specs.Units.{is_open, open_units, units_begun}
use Rattle.salt_model.specs.Words.{Every}
use Rattle.law_types.specs.Played.{IsTypedAt}
use Rattle.law_types.specs.States.{AreOfTheirTypes, IsTypedOpen}
use Rattle.law_types.specs.Typed.{AreEditsOf, AreVariables, IsTyped, scope_of_kind}
use Rattle.std.proofs.Common.{inl, inr, subst, sym}
use Rattle.std.specs.Prelude.{List, [], refl, true, ◌∷◌, ◌≡◌}

every-with : {A : Type 0} (P Q : A → Type 0) (xs : List A) → ((x : A) → In x xs → P x → Q x) → Every P xs → Every Q xs
every-with P Q [] f h = tt
every-with P Q (x ∷ xs) f h = (f x (inl refl) h.0, every-with P Q xs (λ y i. f y (inr i)) h.1)

unit-typed : (s : UnitState) (trace : Trace) → KeepsUnits s trace → IsTypedAt trace → (o : OpenUnit) → In o s.units → KeepsUnit trace o → IsTypedOpen (kept trace) o
unit-typed s trace keeps at o i keep =
    let listed : In o.unit (open_units trace) = subst (In o.unit) (sym keeps.units) (into-map (λ (o : OpenUnit). o.unit) o s.units i) in
    let opened : is_open trace o.unit ≡ true = (in-filter (is_open trace) o.unit (units_begun trace) listed).1 in
    let unit = at.units o.unit o.kind opened keep.kind in
    record {
      kind = unit.kind;
      vars = subst (AreVariables (bindings (scope_of_kind (kept trace) o.kind))) keep.vars unit.run.vars;
      changes = subst (AreEditsOf (schema_of (kept trace))) keep.changes unit.run.changes;
    }

pub state-typed : (s : UnitState) (trace : Trace) → KeepsUnits s trace → IsTypedAt trace → AreOfTheirTypes s
state-typed s trace keeps at = record {
  kept = subst IsTyped keeps.kept at.kept;
  units = subst (λ (k : Kept). Every (IsTypedOpen k) s.units) keeps.kept (every-with (KeepsUnit trace) (IsTypedOpen (kept trace)) s.units (unit-typed s trace keeps at) keeps.each);
}
