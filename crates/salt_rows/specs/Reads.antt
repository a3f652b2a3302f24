-- Pages of a store that are looked at.
use Rattle.salt_bytes.specs.Page.{TableRow}
use Rattle.salt_disk.specs.Disks.{View}
use Rattle.salt_pool.specs.Pools as pools
use Rattle.salt_pool.specs.Pools.{dirty_of, frames_of}
use Rattle.salt_rows.specs.Sides.{ArePages}
use Rattle.salt_rows.specs.declared.store.RowStore.{RowStore}
use Rattle.std.specs.Prelude.{IsTrue, List, ◌≡◌}

-- its pages have these rows, where the disks tell
abbrev pub HasOnPages : View → RowStore → List (List TableRow) → Type 0
HasOnPages d x pages = IsTrue d.told → ArePages (d.bytes (pools.device_of x.pool)) (frames_of x.pool) (dirty_of x.pool) x.sides.items pages

-- all is as it was, but for frames
pub record LooksOn (old new : RowStore) : Type 0 where
  pub directory : new.directory ≡ old.directory
  pub sides : new.sides ≡ old.sides
