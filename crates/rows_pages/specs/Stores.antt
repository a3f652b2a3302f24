-- Stores of two pages, whose rows are worked out by hand.
use Rattle.salt_bytes.specs.Page.{TableRow, spell_page}
use Rattle.salt_model.specs.Tables.{place, with_changes}
use Rattle.salt_model.specs.declared.places.Place.{Place}
use Rattle.salt_directory.specs.Bytes.{bytes_of_entries}
use Rattle.salt_directory.specs.Directories.{first_behind}
use Rattle.salt_directory.specs.Listing.{tables_on}
use Rattle.salt_directory.specs.Pages.{all_rows, page_of}
use Rattle.salt_rows.specs.Sides.{sides_up_to, spare_side}
use Rattle.salt_rows.specs.Stores.{HaveRows}
use Rattle.salt_stands.specs.Partition.{are_distinct, rows_from}
use Rattle.salt_stands.specs.Tables.{change_of_row}
use Rattle.salt_values.specs.declared.value.Value.TheVariants.{Int}
use Rattle.salt_values.specs.declared.value.Value.{Value}
use Rattle.std.specs.Prelude.{List, None, Some, [], false, map, max, pos, refl, replicate, true, ℕ, ◌*◌, ◌++◌, ◌+◌, ◌/◌, ◌∷◌, ◌≡◌}

abbrev key : ℕ → Value
key n = Int (pos n)

abbrev row : ℕ → ℕ → List Value
row k v = key k ∷ Int (pos v) ∷ []

abbrev of : ℕ → ℕ → ℕ → TableRow
of t k v = record { table = t; row = row k v }

-- page 0 has the rows of keys 4 and 2 of table 0, page 1 that of key 2 of table 1
abbrev page_0 : List TableRow
page_0 = of 0 4 40 ∷ of 0 2 20 ∷ []

abbrev page_1 : List TableRow
page_1 = of 1 2 7 ∷ []

abbrev pages : List (List TableRow)
pages = page_0 ∷ page_1 ∷ []

-- a directory, in order of table and key
abbrev directory : List (Place × ℕ)
directory = (place 0 (key 2), 0) ∷ (place 0 (key 4), 0) ∷ (place 1 (key 2), 1) ∷ []

apart : are_distinct (map change_of_row (all_rows pages)) ≡ true
apart = refl

in_order : (tables_on pages).list ≡ (place 0 (key 2), row 2 20) ∷ (place 0 (key 4), row 4 40) ∷ (place 1 (key 2), row 2 7) ∷ []
unfolding with_changes
in_order = refl

page_of_4 : page_of directory (place 0 (key 4)) ≡ Some 0
page_of_4 = refl

page_of_none : page_of directory (place 1 (key 4)) ≡ None
page_of_none = refl

-- the next place of table 0 from key 3 on, behind none
next_from_3 : first_behind 0 (record { lo = Some (key 3); hi = None }) None directory ≡ Some (place 0 (key 4), 0)
next_from_3 = refl

-- behind key 4 the first is of the next table
behind_4 : first_behind 0 (record { lo = Some (key 3); hi = None }) (Some (key 4)) directory ≡ Some (place 1 (key 2), 1)
behind_4 = refl

-- a device on which page 0 stands on side 0 and page 1 on side 1: between them zeros, and what was there before
abbrev device : List ℕ
device = spell_page page_0 ++ replicate 8192 0 ++ spell_page (of 1 2 6 ∷ []) ++ spell_page page_1

they_stand : HaveRows true device (0 ∷ 1 ∷ []) (tables_on pages)
unfolding with_changes
they_stand = record { rows = all_rows pages; read = refl; apart = refl; tables = refl }

-- by the other side of page 1 the row is another one
other_side : rows_from true device 0 (0 ∷ 0 ∷ []) ≡ Some (of 0 4 40 ∷ of 0 2 20 ∷ of 1 2 6 ∷ [])
other_side = refl

-- a key on two pages is no store
twins : are_distinct (map change_of_row (page_0 ++ of 0 4 1 ∷ [])) ≡ false
twins = refl

-- the device has four sides up to that of page 1
four_sides : sides_up_to (0 ∷ 1 ∷ []) ≡ 4
four_sides = refl

no_sides : sides_up_to [] ≡ 0
no_sides = refl

-- under a header that names these, page 0 may be written to side 1, page 1 to side 0, and a new one to side 0
spare_0 : spare_side (0 ∷ 1 ∷ []) 0 ≡ 1
spare_0 = refl

spare_1 : spare_side (0 ∷ 1 ∷ []) 1 ≡ 0
spare_1 = refl

spare_new : spare_side (0 ∷ 1 ∷ []) 2 ≡ 0
spare_new = refl

-- rows of 21 bytes each
bytes_of_three : bytes_of_entries (tables_on pages).list ≡ 63
unfolding with_changes
bytes_of_three = refl

-- 257 rows of 21 bytes are on two pages at most; one longest row after the other takes a page each
few_rows : max 0 (257 * 21 / 4076 + 1) ≡ 2
few_rows = refl
