-- Rows on pages, and the directory of them.
use Rattle.salt_bytes.specs.Page.{TableRow, page_front, page_length}
use Rattle.salt_checkpoint.specs.Rows.{found_row}
use Rattle.salt_model.specs.Tables.{Tables, no_rows, place_cmp, with_changes}
use Rattle.salt_model.specs.declared.places.Place.{Place}
use Rattle.salt_stands.specs.Partition.{are_distinct}
use Rattle.salt_stands.specs.Tables.{change_of_row}
use Rattle.std.specs.BTreeMap.{is_at}
use Rattle.std.specs.Map.{keys_of, lookup}
use Rattle.std.specs.Prelude.{List, Option, Some, [], get_or, is_some, length, map, true, ℕ, ◌++◌, ◌-◌, ◌∷◌, ◌≡◌}

-- the rows of all pages, in order of pages
abbrev pub all_rows : List (List TableRow) → List TableRow
all_rows [] = []
all_rows (rows ∷ pages) = rows ++ all_rows pages

-- how many bytes are free on a page of these rows
abbrev pub free_on : List TableRow → ℕ
free_on rows = page_length - length (page_front rows)

-- the page of the row at a place, by a directory
abbrev pub page_of : List (Place × ℕ) → Place → Option ℕ
page_of directory q = lookup (is_at (place_cmp q)) directory

-- a row stands at this place on this page
abbrev pub IsOn : Place → ℕ → List (List TableRow) → Type 0
IsOn q page pages = is_some (found_row q (get_or pages page [])) ≡ true

-- The rows on the pages, no two at one place, are those of the tables; the directory has the place of each, and its page.
pub record AreRowsOf (directory : List (Place × ℕ)) (pages : List (List TableRow)) (t : Tables) : Type 0 where
  pub apart : are_distinct (map change_of_row (all_rows pages)) ≡ true
  pub tables : with_changes (map change_of_row (all_rows pages)) no_rows ≡ t
  pub keys : keys_of directory ≡ keys_of t.list
  pub placed : (q : Place) (page : ℕ) → page_of directory q ≡ Some page → IsOn q page pages
