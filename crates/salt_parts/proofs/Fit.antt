-- What fits the tables fits the definitions.
use Rattle.salt_model.specs.Reaches.{in_row}
use Rattle.salt_model.specs.Statements.{checked}
use Rattle.std.specs.Prelude.{is_ok}
use Rattle.salt_ast.specs.declared.trees.ColType.TheVariants as kind
use Rattle.salt_ast.specs.declared.trees.ColType.{ColType}
use Rattle.salt_ast.specs.declared.trees.Field.{Field}
use Rattle.salt_ast.specs.declared.trees.TableDef.{TableDef}
use Rattle.salt_bytes.specs.Page.{TableRow}
use Rattle.salt_eval.specs.Meets as eval
use Rattle.salt_eval.specs.Meets.{meets_found, meets_table}
use Rattle.salt_model.specs.Kept.{Definition}
use Rattle.salt_model.specs.Tables.{changed_at}
use Rattle.salt_parts.proofs.Lists.{past_end}
use Rattle.salt_parts.specs.Judging.{HasTables, fits_part}
use Rattle.salt_place.specs.declared.placement.Shape.{Shape}
use Rattle.salt_stands.specs.Coordinator.{Coordinator}
use Rattle.salt_stands.specs.Fitting.{are_of_columns, definitions_reading, is_key_of, is_of_column, is_row_of, tables_defined}
use Rattle.salt_stands.specs.Partition.{is_sound_change, is_sound_to, part_of_key}
use Rattle.salt_stands.specs.Tables.{change_of_row}
use Rattle.salt_values.specs.Value.{key_of}
use Rattle.salt_values.specs.declared.change.Change.{Change}
use Rattle.salt_values.specs.declared.value.Value.TheVariants.{Int, Null, Text}
use Rattle.salt_values.specs.declared.value.Value.{Value}
use Rattle.std.proofs.Common.{Bool, List, None, Option, Some, [], ap, arith, false, length, refl, slice_get, sym, true, ℕ, ◌≡◌, ◌∙◌, ◌∷◌}
use Rattle.std.proofs.lemmas.Bool.Decides.{nat_tests}
use Rattle.std.specs.List.{list_all}
use Rattle.std.specs.Prelude.{map, nat_lt, ◌&&◌, ◌<◌, ◌==◌, ◌≤◌}

nor : (b : Bool) → (b && false) ≡ false
nor true = refl
nor false = refl

also : (b : Bool) → (b && true) ≡ b
also true = refl
also false = refl

of_type : (nullable : Bool) (name : List ℕ) (k : ColType) (v : Value) → is_of_column (record { name = name; kind = k; nullable = nullable }) v ≡ eval.is_of_type nullable k v
of_type nullable name kind.Int (Int z) = refl
of_type nullable name kind.Text (Text t) = refl
of_type nullable name kind.Int (Text t) = nor nullable
of_type nullable name kind.Text (Int z) = nor nullable
of_type nullable name kind.Int Null = also nullable
of_type nullable name kind.Text Null = also nullable

of_columns : (fs : List Field) (row : List Value) → are_of_columns fs row ≡ eval.are_of_columns fs row
of_columns [] [] = refl
of_columns [] (v ∷ vs) = refl
of_columns (f ∷ fs) [] = refl
of_columns (f ∷ fs) (v ∷ vs) = ap (λ b. b && are_of_columns fs vs) (of_type f.nullable f.name f.kind v) ∙ ap (λ b. eval.is_of_column f v && b) (of_columns fs vs)

pub row_of : (o : Option TableDef) (row : List Value) → is_row_of o row ≡ meets_found o row
row_of None row = refl
row_of (Some d) row = ap (λ b. b && is_ok (checked (in_row d row []) d.checks)) (of_columns d.columns row)

lower : (a b : ℕ) → a < b → nat_lt a b ≡ true
lower a b h = grind (arith, nat_tests)

lowered : (a b : ℕ) → nat_lt a b ≡ true → a < b
lowered a b h = grind (arith, nat_tests)

beyond : (a b : ℕ) → nat_lt a b ≡ false → b ≤ a
beyond a b h = grind (arith, nat_tests)

module _ (read : List ℕ → Option Definition) (schema : List TableDef) (shape : Shape) (c : Coordinator Definition) (has : HasTables schema shape c) where
  table_at : (table : ℕ) → slice_get (tables_defined c.definitions) table ≡ slice_get schema table
  table_at table = ap (λ (ds : List TableDef). slice_get ds table) has.tables

  pub row_fits : (table : ℕ) (row : List Value) → meets_table schema table row ≡ (definitions_reading read).fits_row c.definitions table row
  row_fits table row = sym (ap (λ o. is_row_of o row) (table_at table) ∙ row_of (slice_get schema table) row)

  pub key_fits : (table : ℕ) (key : Value) → is_key_of (slice_get schema table) key ≡ (definitions_reading read).fits_key c.definitions table key
  key_fits table key = ap (λ o. is_key_of o key) (sym (table_at table))

  defined : (table : ℕ) → nat_lt table ((definitions_reading read).count_tables c.definitions) ≡ nat_lt table (length schema)
  defined table = ap (λ (ds : List TableDef). nat_lt table (length ds)) has.tables

  -- a change of a table that is not defined
  pub past_tables : (p : ℕ) (ch : Change) → nat_lt ch.table (length schema) ≡ false → false ≡ is_sound_change (definitions_reading read) c p ch
  past_tables p ch past = sym (ap (λ b. b && is_sound_to (definitions_reading read) c p (changed_at ch) ch.row) (defined ch.table ∙ past))

  pub within_tables : (p : ℕ) (ch : Change) (b : Bool) → nat_lt ch.table (length schema) ≡ true → b ≡ is_sound_to (definitions_reading read) c p (changed_at ch) ch.row → b ≡ is_sound_change (definitions_reading read) c p ch
  within_tables p ch b within is = is ∙ sym (ap (λ x. x && is_sound_to (definitions_reading read) c p (changed_at ch) ch.row) (defined ch.table ∙ within))

  pub put_fits : (p : ℕ) (ch : Change) (row : List Value) (meets here : Bool) → ch.table < length schema → ch.row ≡ Some row → meets ≡ meets_table schema ch.table row → here ≡ (part_of_key shape ch.key == p)
      → (meets && here) ≡ is_sound_change (definitions_reading read) c p ch
  put_fits p ch row meets here within is meets_is here_is = within_tables p ch (meets && here) (lower ch.table (length schema) within)
      (ap (λ b. b && here) (meets_is ∙ row_fits ch.table row) ∙ ap (λ b. (definitions_reading read).fits_row c.definitions ch.table row && b) (here_is ∙ ap (λ (s : Shape). part_of_key s ch.key == p) (sym has.is_shape))
      ∙ ap (is_sound_to (definitions_reading read) c p (changed_at ch)) (sym is))

  pub removal_fits : (p : ℕ) (ch : Change) (b : Bool) → nat_lt ch.table (length schema) ≡ true → ch.row ≡ None → b ≡ is_key_of (slice_get schema ch.table) ch.key → b ≡ is_sound_change (definitions_reading read) c p ch
  removal_fits p ch b within is key_is = within_tables p ch b within (key_is ∙ key_fits ch.table ch.key ∙ ap (is_sound_to (definitions_reading read) c p (changed_at ch)) (sym is))

  -- a row that is read, as the change that puts it
  row_judged : (p : ℕ) (x : TableRow) → fits_part schema shape p x ≡ is_sound_change (definitions_reading read) c p (change_of_row x)
  row_judged p x = by (nat_lt x.table (length schema)) refl
    where
      by : (b : Bool) → nat_lt x.table (length schema) ≡ b → fits_part schema shape p x ≡ is_sound_change (definitions_reading read) c p (change_of_row x)
      by true within = put_fits p (change_of_row x) x.row (meets_table schema x.table x.row) (part_of_key shape (key_of x.row) == p) (lowered x.table (length schema) within) refl refl refl
      by false past =
          ap (λ (o : Option TableDef). meets_found o x.row && (part_of_key shape (key_of x.row) == p)) (past_end schema x.table (beyond x.table (length schema) past)) ∙ past_tables p (change_of_row x) past

  -- rows that are read
  pub rows_judged : (p : ℕ) (rows : List TableRow) → list_all (fits_part schema shape p) rows ≡ list_all (is_sound_change (definitions_reading read) c p) (map change_of_row rows)
  rows_judged p [] = refl
  rows_judged p (x ∷ rows) = λ i. row_judged p x i && rows_judged p rows i
