-- A page that is split, and what it gives away.
use Rattle.salt_bytes.specs.Page.{TableRow}
use Rattle.salt_directory.specs.Pages.{free_on}
use Rattle.salt_directory.specs.declared.halving.Half.{Half}
use Rattle.salt_model.specs.Tables.{place, place_cmp}
use Rattle.salt_model.specs.declared.places.Place.{Place}
use Rattle.salt_values.specs.Value.{key_of}
use Rattle.std.specs.BTreeMap.{insert_entry}
use Rattle.std.specs.List.{remove}
use Rattle.std.specs.Prelude.{List, Some, [], slice_get, ℕ, ◌++◌, ◌∷◌, ◌≡◌}

abbrev pub place_of_row : TableRow → Place
place_of_row r = place r.table (key_of r.row)

-- rows went from a page behind those of another one, one after another: those at these places
abbrev pub HaveGone : List Place → (from to from_new to_new : List TableRow) → Type 0
HaveGone [] from to from_new to_new = (from_new ≡ from) × (to_new ≡ to)
HaveGone (q ∷ qs) from to from_new to_new = (i : ℕ) × (r : TableRow) × (slice_get from i ≡ Some r) × (place_of_row r ≡ q) × HaveGone qs (remove from i) (to ++ r ∷ []) from_new to_new

-- places come to a page, one after another
abbrev pub placed_on : ℕ → List Place → List (Place × ℕ) → List (Place × ℕ)
placed_on page [] directory = directory
placed_on page (q ∷ qs) directory = placed_on page qs (insert_entry place_cmp directory q page)

-- rows of a page stand on another one now, alone, and all others where they were
pub record IsHalved (before after : List TableRow) (half : Half) : Type 0 where
  pub gone : HaveGone half.places.items before [] after half.page
  pub free : half.free ≡ free_on half.page
  pub left : half.left ≡ free_on after
