-- What is of its declared types in a trace, and in the state that goes along with it.
use Rattle.salt_ast.specs.Judgement.{bindings}
use Rattle.salt_ast.specs.declared.lines.Line.TheVariants.{Table}
use Rattle.salt_model.specs.After.{kept, run_of}
use Rattle.salt_model.specs.Kept.{Kept, schema_of}
use Rattle.salt_model.specs.Statements.{UnitRun}
use Rattle.salt_model.specs.Trace.{Asked, Trace, Tree}
use Rattle.salt_model.specs.Units.{is_open, kind_of}
use Rattle.salt_model.specs.declared.events.Event.TheVariants.{Began, Did}
use Rattle.salt_model.specs.declared.events.Event.{Event}
use Rattle.salt_model.specs.declared.events.UnitKind.{UnitKind}
use Rattle.law_types.specs.Typed.{IsJudgedFor, IsKindFor, IsTyped, IsTypedRun, has_key, scope_of_kind}
use Rattle.salt_values.specs.declared.id.Id.{Id}
use Rattle.std.specs.Prelude.{Some, true, ⊤, ◌≡◌}

-- where it asks for a table, that has a key, which may not be NULL
abbrev pub HasKey : Asked → Type 0
HasKey (Tree (Table d)) = has_key d.columns ≡ true
HasKey asked = ⊤

-- a unit of this kind that may be open, with what its statements gave
pub record IsTypedUnit (k : Kept) (u : UnitKind) (r : UnitRun) : Type 0 where
  pub kind : IsKindFor k u
  pub run : IsTypedRun (schema_of k) (bindings (scope_of_kind k u)) r

-- each open unit, and what is kept
pub record IsTypedAt (trace : Trace) : Type 0 where
  pub units : (u : Id) (kind : UnitKind) → is_open trace u ≡ true → kind_of u trace ≡ Some kind → IsTypedUnit (kept trace) kind (run_of u trace)
  pub kept : IsTyped (kept trace)

-- what begins is of its kind, and a statement that is done is not refused
abbrev pub IsJudgedEvent : Trace → Event → Type 0
IsJudgedEvent trace (Began u kind) = IsKindFor (kept trace) kind
IsJudgedEvent trace (Did u st answer) = (kind : UnitKind) → kind_of u trace ≡ Some kind → IsJudgedFor (kept trace) kind st
IsJudgedEvent trace e = ⊤
