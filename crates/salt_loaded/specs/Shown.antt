-- What the view of rows that were loaded shows.
use Rattle.salt_loaded.specs.Loaded.{row_number, rows_of}
use Rattle.salt_loaded.specs.declared.view.LoadedView.{LoadedView}
use Rattle.salt_model.specs.Tables.{Tables}
use Rattle.salt_values.specs.declared.value.Value.{Value}
use Rattle.std.specs.Prelude.{List, [], drop, take, unwrap_or, ℕ, ◌-◌}

abbrev pub shown_by : LoadedView → Tables
shown_by v = v.rows.now

-- the row of a number, no values where there is none
abbrev pub row_at_number : Tables → ℕ → List Value
row_at_number es i = unwrap_or (row_number es i) []

-- the rows from one number up to another
abbrev pub rows_between : Tables → ℕ → ℕ → List (List Value)
rows_between es next end = take (end - next) (drop next (rows_of es))
