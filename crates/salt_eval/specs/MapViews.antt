-- What the view of a map shows.
use Rattle.salt_eval.specs.Views.{is_next, tables_of}
use Rattle.salt_eval.specs.declared.coming.Coming.{Coming}
use Rattle.salt_eval.specs.declared.map_view.MapView.{MapView}
use Rattle.salt_model.specs.Tables.{Tables, place_cmp}
use Rattle.salt_values.specs.declared.value.Value.{Value}
use Rattle.std.specs.FinMap.Entries.{where_key}
use Rattle.std.specs.Prelude.{List, None, Option, Some, [], map, unwrap_or}

abbrev pub shown_by : MapView → Tables
shown_by v = tables_of v.rows.now.entries

-- the values of a row, or none
abbrev pub row_of : Option (List Value) → List Value
row_of row = unwrap_or row []

-- the rows in the range among entries
abbrev pub coming_in : Coming → List (List Value)
coming_in c = map (λ e. e.1) (where_key place_cmp (is_next c.table c.range None) c.entries)

abbrev pub rows_coming : Option Coming → List (List Value)
rows_coming None = []
rows_coming (Some c) = coming_in c
