-- Rows that are loaded.
use Rattle.salt_ast.specs.declared.trees.TableDef.{TableDef}
use Rattle.salt_model.specs.Tables.{Entry, Tables, is_within, row_at}
use Rattle.salt_model.specs.Words.{Every}
use Rattle.salt_model.specs.declared.locks.Reach.{Reach}
use Rattle.salt_model.specs.declared.places.Place.{Place}
use Rattle.salt_stands.specs.Fitting.{is_row_of}
use Rattle.salt_values.specs.Value.{key_of}
use Rattle.salt_values.specs.declared.value.Value.{Value}
use Rattle.std.specs.Prelude.{List, None, if◌then◌else◌, slice_get, true, ◌≡◌}

-- these are the rows of a reach, and no others
abbrev pub IsPartOf : Reach → (part whole : Tables) → Type 0
IsPartOf r part whole = (q : Place) → row_at q part ≡ (if is_within r q then row_at q whole else None)

-- the row fits its table, and stands at the place of its key
abbrev pub IsRowAt : List TableDef → Place → List Value → Type 0
IsRowAt schema p row = (is_row_of (slice_get schema p.table) row ≡ true) × (p.key ≡ key_of row)

abbrev pub AreRowsOf : List TableDef → Tables → Type 0
AreRowsOf schema es = Every (λ (e : Entry). IsRowAt schema e.0 e.1) es.list
