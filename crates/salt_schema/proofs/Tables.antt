-- Finding a table by its name.
use Rattle.salt_ast.specs.Judgement.{columns_of, is_table}
use Rattle.salt_ast.specs.declared.trees.TableDef.{TableDef}
use Rattle.salt_schema.specs.Definitions.{is_named}
use Rattle.salt_schema.specs.Schemas.{table_named, table_number}
use Rattle.salt_ast.specs.TokenSpelling.{same_bytes}
use Rattle.std.proofs.Common.{Bool, List, None, Option, Some, [], ap, cond, false, refl, true, ℕ, ◌+◌, ◌∷◌, ◌≡◌}
use Rattle.std.specs.List.{position_from}

-- what is known of a table that is found, and of one that is not
abbrev pub IsKnownAs : List TableDef → List ℕ → Option TableDef → Type 0
IsKnownAs schema n None = (is_table schema n ≡ false) × (columns_of schema n ≡ [])
IsKnownAs schema n (Some d) = (is_table schema n ≡ true) × (columns_of schema n ≡ d.columns)

pub table_named-IsKnownAs : (schema : List TableDef) (n : List ℕ) (o : Option TableDef) → o ≡ table_named schema n → IsKnownAs schema n o
table_named-IsKnownAs [] n None h = (refl, refl)
table_named-IsKnownAs [] n (Some d) h = absurd cc
table_named-IsKnownAs (e ∷ es) n o h = by (same_bytes n e.name) refl o h (table_named-IsKnownAs es n o)
  where
    by : (b : Bool) → same_bytes n e.name ≡ b → (o : Option TableDef) → o ≡ cond b (Some e) (table_named es n) → (o ≡ table_named es n → IsKnownAs es n o) → IsKnownAs (e ∷ es) n o
    by true is None h rest = absurd cc
    by true is (Some d) h rest = let same : e ≡ d = cc in (rw is refl, rw is (ap (λ (x : TableDef). x.columns) same))
    by false is None h rest = (rw is (rest h).0, rw is (rest h).1)
    by false is (Some d) h rest = (rw is (rest h).0, rw is (rest h).1)

from-is_table : (schema : List TableDef) (n : List ℕ) (i : ℕ) → is_table schema n ≡ false → position_from (is_named (λ (d : TableDef). d.name) n) i schema ≡ None
from-is_table [] n i h = refl
from-is_table (e ∷ es) n i h = by (same_bytes n e.name) h (from-is_table es n (i + 1))
  where
    by : (b : Bool) → cond b true (is_table es n) ≡ false → (is_table es n ≡ false → position_from (is_named (λ (d : TableDef). d.name) n) (i + 1) es ≡ None) →
        cond b (Some i) (position_from (is_named (λ (d : TableDef). d.name) n) (i + 1) es) ≡ None
    by true h rest = absurd cc
    by false h rest = rest h

-- a name that no table has is no number's
pub table_number-none : (schema : List TableDef) (n : List ℕ) → is_table schema n ≡ false → table_number schema n ≡ None
table_number-none schema n h = from-is_table schema n 0 h
