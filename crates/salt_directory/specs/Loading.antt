-- Rows of a range that are loaded from pages.
use Rattle.salt_bytes.specs.Page.{TableRow}
use Rattle.salt_directory.specs.Directories.{is_in}
use Rattle.salt_directory.specs.Pages.{page_of}
use Rattle.salt_directory.specs.declared.seats.Seat.{Seat}
use Rattle.salt_loaded.specs.Rows.{RowsOf, are_apart, tables_in, with_rows}
use Rattle.salt_model.specs.Tables.{Tables, place, place_cmp, row_at}
use Rattle.salt_model.specs.declared.places.Place.{Place}
use Rattle.salt_ranges.specs.Ranges.{has_key}
use Rattle.salt_ranges.specs.declared.range.KeyRange.{KeyRange}
use Rattle.salt_values.specs.Value.{key_of}
use Rattle.salt_values.specs.declared.value.Value.{Value}
use Rattle.std.specs.FinMap.Entries.{is_sorted-where_key, where_key}
use Rattle.std.specs.List.{filter}
use Rattle.std.specs.Prelude.{Bool, List, Some, [], false, get_or, length, map, true, ℕ, ◌&&◌, ◌<◌, ◌==◌, ◌∷◌, ◌≡◌}

-- each page that has a row of the range is among them
abbrev pub HaveAllOf : ℕ → KeyRange → List (Place × ℕ) → List Bool → Type 0
HaveAllOf t range directory pages = (q : Place) (page : ℕ) → page_of directory q ≡ Some page → is_in t range q ≡ true → page < length pages → get_or pages page false ≡ true

-- so many places of the directory are in the range
abbrev pub count_in : ℕ → KeyRange → List (Place × ℕ) → ℕ
count_in t range directory = length (where_key place_cmp (is_in t range) directory)

-- the rows of a range in order, each with its page
abbrev pub seat_of : Place × ℕ → Seat
seat_of e = record { key = e.0.key; page = e.1 }

abbrev pub seats_in : ℕ → KeyRange → List (Place × ℕ) → List Seat
seats_in t range directory = map seat_of (where_key place_cmp (is_in t range) directory)

-- the directory has it
abbrev pub IsSeated : ℕ → List (Place × ℕ) → Seat → Type 0
IsSeated t directory s = page_of directory (place t s.key) ≡ Some s.page

abbrev pub is_row_in : ℕ → KeyRange → TableRow → Bool
is_row_in t range r = (t == r.table) && has_key range (key_of r.row)

-- the rows of a page that are of a table and in a range, as they stand on it
abbrev pub rows_within : ℕ → KeyRange → List TableRow → List (List Value)
rows_within t range rows = map (λ (r : TableRow). r.row) (filter (is_row_in t range) rows)

-- a page that is not marked has no row of the range
abbrev pub HaveOthersNone : ℕ → KeyRange → List Bool → List (List TableRow) → Type 0
HaveOthersNone t range marks pages = (page : ℕ) → page < length pages → get_or marks page false ≡ false → rows_within t range (get_or pages page []) ≡ []

-- the part of tables in a range
abbrev pub part_of : ℕ → KeyRange → Tables → Tables
part_of t range es = record {
  list = where_key place_cmp (is_in t range) es.list;
  sorted = is_sorted-where_key place_cmp (is_in t range) es.list es.sorted;
}

-- the rows that came are those in the range, each once
pub record HasLoaded (range : KeyRange) (es : Tables) (old new : RowsOf) : Type 0 where
  pub more : List (List Value)
  pub came : new ≡ with_rows more old
  pub apart : are_apart more ≡ true
  pub rows : tables_in old.table more ≡ part_of old.table range es

-- the row of a key came
pub record IsRowLoaded (es : Tables) (key : Value) (old new : RowsOf) : Type 0 where
  pub row : List Value
  pub own : key_of row ≡ key
  pub at : Some row ≡ row_at (place old.table key) es
  pub came : new ≡ with_rows (row ∷ []) old
