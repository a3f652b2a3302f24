-- The names of tables.
use Rattle.salt_ast.specs.declared.trees.TableDef.{TableDef}
use Rattle.salt_model.specs.EventTexts.{table_name}
use Rattle.std.proofs.Common.{Bor, ap, sym}
use Rattle.std.specs.Option.{option_copied}
use Rattle.std.specs.Prelude.{List, None, Option, Some, [], refl, slice_get, ℕ, ◌≡◌}

-- a number that a schema does not have has no name
pub no_table : (schema : List TableDef) (n : ℕ) (found : Option (Bor TableDef)) → option_copied found ≡ slice_get schema n →
    ((x : Bor TableDef) → found ≡ Some x → ⊥) → table_name schema n ≡ []
no_table schema n None told other = ap (λ (o : Option TableDef). elim o [ None ↦ [] | Some d ↦ d.name ]) (sym told)
no_table schema n (Some x) told other = absurd (other x refl)
