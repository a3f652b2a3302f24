-- The pages of a store, the side on which each stands, and the side to which it may be written.
use Rattle.salt_bytes.specs.Page.{TableRow}
use Rattle.salt_pool.specs.Dirtied.{is_dirty}
use Rattle.salt_pool.specs.declared.places.Dirty.{Dirty}
use Rattle.salt_stands.specs.Partition.{page_at}
use Rattle.std.specs.Map.{lookup}
use Rattle.std.specs.Prelude.{List, Some, [], cond, false, get_or, length, nat_eq, nat_lt, true, ℕ, ◌*◌, ◌+◌, ◌-◌, ◌<◌, ◌≡◌}

-- the side of each page to which it may be written under a header that names these sides: the other one, and 0 for a page that
-- the header does not list
abbrev pub spare_side : List ℕ → ℕ → ℕ
spare_side named page = cond (nat_lt page (length named)) (1 - get_or named page 0) 0

-- Each page has these rows: a frame shows them and, unless the page is to be written, the side that it was last written to spells
-- them.
pub record ArePages (bytes : List ℕ) (frames : List (ℕ × List TableRow)) (dirty : List Dirty) (sides : List ℕ) (pages : List (List TableRow)) : Type 0 where
  pub count : length pages ≡ length sides
  pub framed : (page : ℕ) (own : List TableRow) → page < length sides → lookup (nat_eq page) frames ≡ Some own → own ≡ get_or pages page []
  pub stand : (page : ℕ) → page < length sides → is_dirty dirty page ≡ false → page_at true bytes page (get_or sides page 0) ≡ Some (get_or pages page [])

-- how many sides there are up to the one of the last page, counted from the device's beginning
abbrev pub sides_up_to : List ℕ → ℕ
sides_up_to sides = cond (nat_lt 0 (length sides)) (2 * (length sides - 1) + get_or sides (length sides - 1) 0 + 1) 0
