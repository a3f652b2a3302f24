-- What one change makes of a store.
use Rattle.salt_values.specs.Value.{key_of}
use Rattle.salt_directory.specs.Halves.{placed_on}
use Rattle.salt_directory.specs.Pages.{free_on}
use Rattle.salt_directory.specs.Rows.{one_row}
use Rattle.salt_directory.specs.declared.halving.Half.{Half}
use Rattle.salt_model.specs.Tables.{Tables, place_cmp, remove_at, set_row}
use Rattle.salt_model.specs.declared.places.Place.{Place}
use Rattle.salt_pool.specs.Pools.{IsPool, with_dirty, with_frame}
use Rattle.salt_rows.specs.Sides.{spare_side}
use Rattle.salt_rows.specs.declared.split.Way.TheVariants.{Done, Open}
use Rattle.salt_rows.specs.declared.split.Way.{Way}
use Rattle.salt_rows.specs.declared.store.RowStore.{RowStore}
use Rattle.salt_values.specs.declared.value.Value.{Value}
use Rattle.std.specs.BTreeMap.{insert_entry}
use Rattle.std.specs.List.{slice_set}
use Rattle.std.specs.Prelude.{List, None, Option, Some, [], length, ℕ, ⊤, ◌++◌, ◌∷◌, ◌≡◌}

-- a page is to be written to the side that the header does not name, and has so many free bytes; all else is as it was
pub record IsMarked (old new : RowStore) (page free : ℕ) : Type 0 where
  pub pool : new.pool ≡ with_dirty old.pool (record { page = page; side = spare_side old.named page })
  pub is_pool : IsPool new.pool
  pub sides : new.sides.items ≡ slice_set old.sides.items page (spare_side old.named page)
  pub space : new.space ≡ slice_set old.space page free
  pub named : new.named ≡ old.named
  pub directory : new.directory ≡ old.directory

-- a row that comes to a place has its key
abbrev pub NamesKey : Place → Option (List Value) → Type 0
NamesKey q None = ⊤
NamesKey q (Some row) = key_of row ≡ q.key

-- the tables behind `make_way`: the change is made, or its place is empty
abbrev pub tables_left : Way → Place → Option (List Value) → Tables → Tables
tables_left Done q row t = set_row q row t
tables_left (Open beside) q row t = remove_at q t

-- a new page behind the others has this row alone; all else is as it was
pub record IsFresh (old new : RowStore) (q : Place) (row : List Value) : Type 0 where
  pub free : ℕ
  pub own : free ≡ free_on (one_row q.table (Some row))
  pub pool : new.pool ≡ with_dirty (with_frame old.pool (length old.sides.items) (one_row q.table (Some row))) (record { page = length old.sides.items; side = 0 })
  pub is_pool : IsPool new.pool
  pub sides : new.sides.items ≡ old.sides.items ++ 0 ∷ []
  pub space : new.space ≡ old.space ++ free ∷ []
  pub named : new.named ≡ old.named
  pub directory : new.directory ≡ insert_entry place_cmp old.directory q (length old.sides.items)

-- a new page behind the others has the half of another one; all else is as it was
pub record IsHalfPut (half : Half) (old new : RowStore) : Type 0 where
  pub pool : new.pool ≡ with_dirty (with_frame old.pool (length old.sides.items) half.page) (record { page = length old.sides.items; side = 0 })
  pub is_pool : IsPool new.pool
  pub sides : new.sides.items ≡ old.sides.items ++ 0 ∷ []
  pub space : new.space ≡ old.space ++ half.free ∷ []
  pub named : new.named ≡ old.named
  pub directory : new.directory ≡ placed_on (length old.sides.items) half.places.items old.directory
