-- Pages whose rows are listed one by one.
use Rattle.salt_bytes.specs.Page.{TableRow}
use Rattle.salt_model.specs.Tables.{Tables, no_rows, with_changes}
use Rattle.salt_model.specs.declared.places.Place.{Place}
use Rattle.salt_directory.specs.Pages.{AreRowsOf, all_rows}
use Rattle.salt_stands.specs.Partition.{are_distinct, rows_from}
use Rattle.salt_stands.specs.Tables.{change_of_row}
use Rattle.std.specs.List.{list_all}
use Rattle.std.specs.Prelude.{Bool, List, None, Some, false, map, true, ℕ, ◌≡◌, ◌⊎◌}

-- the tables of the rows on these pages
abbrev pub tables_on : List (List TableRow) → Tables
tables_on pages = with_changes (map change_of_row (all_rows pages)) no_rows

-- it has the place of each row on these pages, no two at one place, and its page
abbrev pub IsDirectory : List (Place × ℕ) → List (List TableRow) → Type 0
IsDirectory directory pages = AreRowsOf directory pages (tables_on pages)

-- two of these rows stand at one place
abbrev pub HaveTwins : List TableRow → Type 0
HaveTwins rows = are_distinct (map change_of_row rows) ≡ false

-- a side that is listed spells no page, or two rows stand at one place
abbrev pub AreNoPages : Bool → List ℕ → List ℕ → Type 0
AreNoPages nulls bytes sides = (rows_from nulls bytes 0 sides ≡ None) ⊎ ((rows : List TableRow) × (rows_from nulls bytes 0 sides ≡ Some rows) × HaveTwins rows)

-- each row on these sides is sound
abbrev pub AreSound : (TableRow → Bool) → Bool → List ℕ → List ℕ → Type 0
AreSound sound nulls bytes sides = (rows : List TableRow) → rows_from nulls bytes 0 sides ≡ Some rows → list_all sound rows ≡ true

-- a side that is listed spells no page, or a row on one of them is not sound
abbrev pub AreUnsound : (TableRow → Bool) → Bool → List ℕ → List ℕ → Type 0
AreUnsound sound nulls bytes sides = (rows_from nulls bytes 0 sides ≡ None) ⊎ ((rows : List TableRow) × (rows_from nulls bytes 0 sides ≡ Some rows) × (list_all sound rows ≡ false))
