-- What is known of a store whose pages are all written.
use Rattle.salt_disk.specs.Disks.{View}
use Rattle.salt_rows.specs.Stores.{IsClean, StandsOnPages, sides_of}
use Rattle.salt_rows.specs.declared.store.RowStore.{RowStore}
use Rattle.std.specs.Prelude.{List, ℕ, ◌≡◌}

-- a header that names these sides has its rows
pub record IsWritten (d : View) (x : RowStore) (sides : List ℕ) : Type 0 where
  pub stands : StandsOnPages d x
  pub clean : IsClean x
  pub same : sides ≡ sides_of x
