-- The statement that comes next is not refused, so it leaves keys.
use Rattle.salt_ast.specs.declared.trees.Statement.{Statement}
use Rattle.salt_books.proofs.AtParts.{found}
use Rattle.salt_engine.specs.Deciding.{ComesNext}
use Rattle.law_states.specs.Keeps.{KeepsUnit}
use Rattle.law_states.specs.OpenUnits.{OpenUnit, UnitState, unit_named}
use Rattle.law_states.specs.Told.{does_in}
use Rattle.salt_model.specs.Kept.{Kept, schema_of}
use Rattle.law_types.proofs.AllTyped.{each-judged}
use Rattle.law_types.specs.Typed.{scope_of_kind}
use Rattle.salt_units.proofs.Keeping.{judged-leave}
use Rattle.salt_units.specs.Acting.{leaves_keys}
use Rattle.salt_values.specs.declared.id.Id.{Id}
use Rattle.std.proofs.Common.{subst}
use Rattle.std.specs.Prelude.{Some, true, ◌≡◌}
use Rattle.salt_model.specs.After.{kept}
use Rattle.salt_model.specs.Trace.{◌says◌}

pub keys-left : (s : UnitState) (o : OpenUnit) (st : Statement) (u : Id) → ComesNext (does_in s o st) s → unit_named u s.units ≡ Some o → leaves_keys (schema_of s.kept) st ≡ true
keys-left s o st u c named =
    let each = each-judged (c.trace says does_in s o st) (c.sound.played, c.next) c.sound.well c.typed c.keyed in
    let kind = (found (KeepsUnit c.trace) u s.units o c.keeps.each named).0.kind in
    subst (λ (k : Kept). leaves_keys (schema_of k) st ≡ true) c.keeps.kept
    (judged-leave (schema_of (kept c.trace)) (scope_of_kind (kept c.trace) o.kind) st (each.1 o.kind kind))
