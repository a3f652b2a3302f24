-- A state whose units and rows are of their declared types.
use Rattle.salt_ast.specs.Judgement.{bindings}
use Rattle.law_states.specs.OpenUnits.{OpenUnit, UnitState}
use Rattle.salt_model.specs.Kept.{Kept, schema_of}
use Rattle.salt_model.specs.Words.{Every}
use Rattle.law_types.specs.Typed.{AreEditsOf, AreVariables, IsKindFor, IsTyped, scope_of_kind}

-- an open unit: its variables are of its program, and its edits fit
pub record IsTypedOpen (k : Kept) (o : OpenUnit) : Type 0 where
  pub kind : IsKindFor k o.kind
  pub vars : AreVariables (bindings (scope_of_kind k o.kind)) o.vars
  pub changes : AreEditsOf (schema_of k) o.changes

pub record AreOfTheirTypes (s : UnitState) : Type 0 where
  pub kept : IsTyped s.kept
  pub units : Every (IsTypedOpen s.kept) s.units
