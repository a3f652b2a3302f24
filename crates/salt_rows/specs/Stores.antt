-- When a value keeps the rows of tables on the pages of a device.
use Rattle.salt_bytes.specs.Page.{page_length, page_place}
use Rattle.salt_bytes.specs.Spellable.{Every}
use Rattle.salt_disk.specs.Disks.{View}
use Rattle.salt_model.specs.Tables.{Tables, no_rows, with_changes}
use Rattle.salt_model.specs.declared.places.Place.{Place}
use Rattle.salt_pool.specs.Dirtied.{dirty_page, dirty_side, is_dirty}
use Rattle.salt_pool.specs.Frames.{frame_count}
use Rattle.salt_pool.specs.Pools as pools
use Rattle.salt_pool.specs.Pools.{IsPool, codec_of, dirty_of, frame_of, frames_of, length_of}
use Rattle.salt_pool.specs.declared.places.Dirty.{Dirty}
use Rattle.salt_directory.specs.Directories.{HasPagesBelow, places_in}
use Rattle.salt_directory.specs.Pages.{AreRowsOf, free_on}
use Rattle.salt_rows.specs.Sides.{ArePages, spare_side}
use Rattle.salt_rows.specs.Frames.{Frames}
use Rattle.salt_rows.specs.declared.store.RowStore.{RowStore}
use Rattle.salt_bytes.specs.Page.{TableRow}
use Rattle.salt_stands.specs.Partition.{are_distinct, rows_from}
use Rattle.salt_stands.specs.Tables.{change_of_row}
use Rattle.std.specs.Prelude.{Bool, IsTrue, List, None, Some, [], false, get_or, length, map, true, ℕ, ◌+◌, ◌<◌, ◌≡◌, ◌≤◌}

abbrev pub IsSide : ℕ → Type 0
IsSide side = side ≤ 1

-- a page that is to be written stands in the list of sides, and is written to the side that the header does not name
abbrev pub IsSpare : (named sides : List ℕ) → Dirty → Type 0
IsSpare named sides d = (dirty_page d < length sides) × (dirty_side d ≡ spare_side named (dirty_page d)) × (get_or sides (dirty_page d) 0 ≡ dirty_side d)

-- What holds of pages in memory, whatever the disks tell: which are framed, which are to be written and where, and how long the
-- device is at least.
pub record AreKept (pool : Frames) (named sides space : List ℕ) (directory : List (Place × ℕ)) : Type 0 where
  pub is_pool : IsPool pool
  pub codec : codec_of pool ≡ record { nulls = true }
  pub named_low : Every IsSide named
  pub sides_low : Every IsSide sides
  pub listed : length named ≤ length sides
  pub counted : length space ≡ length sides
  pub spare : Every (IsSpare named sides) (dirty_of pool)
  pub beyond : (page : ℕ) → length sides ≤ page → frame_of pool page ≡ None
  pub pointed : HasPagesBelow directory (length sides)
  pub named_end : (page : ℕ) → page < length named → page_place page (get_or named page 0) + page_length ≤ length_of pool
  pub side_end : (page : ℕ) → page < length sides → is_dirty (dirty_of pool) page ≡ false → page_place page (get_or sides page 0) + page_length ≤ length_of pool

abbrev pub IsKept : RowStore → Type 0
IsKept x = AreKept x.pool x.named x.sides.items x.space x.directory

-- The rows on the pages are those of the tables, where their device has these bytes.
pub record HavePages (bytes : List ℕ) (pool : Frames) (sides space : List ℕ) (directory : List (Place × ℕ)) (t : Tables) : Type 0 where
  pub pages : List (List TableRow)
  pub are : ArePages bytes (frames_of pool) (dirty_of pool) sides pages
  pub rows : AreRowsOf directory pages t
  pub free : space ≡ map free_on pages
  pub long : length_of pool ≡ length bytes

abbrev pub HasRows : List ℕ → RowStore → Tables → Type 0
HasRows bytes x t = HavePages bytes x.pool x.sides.items x.space x.directory t

-- The value keeps the rows of these tables on the pages of device `dev`, of which the header names these sides.
pub record IsStanding (d : View) (x : RowStore) (dev : ℕ) (named : List ℕ) (t : Tables) : Type 0 where
  pub device : pools.device_of x.pool ≡ dev
  pub known : dev < d.count
  pub names : x.named ≡ named
  pub kept : IsKept x
  pub told : IsTrue d.told → HasRows (d.bytes dev) x t

-- and between calls it can frame a page without a write: at most 63 pages are to be written
pub record IsRowStore (d : View) (x : RowStore) (dev : ℕ) (named : List ℕ) (t : Tables) : Type 0 where
  pub is : IsStanding d x dev named t
  pub few : length (dirty_of x.pool) < frame_count

-- some rows stand in it
pub record HasRowsStanding (d : View) (x : RowStore) : Type 0 where
  pub dev : ℕ
  pub named : List ℕ
  pub t : Tables
  pub is : IsStanding d x dev named t

-- a store keeps some rows
pub record StandsOnPages (d : View) (x : RowStore) : Type 0 where
  pub dev : ℕ
  pub named : List ℕ
  pub t : Tables
  pub is : IsRowStore d x dev named t

-- nothing of it is to be written
abbrev pub IsClean : RowStore → Type 0
IsClean x = dirty_of x.pool ≡ []

-- WHAT LAYERS ABOVE SEE

-- its device
abbrev pub device_of : RowStore → ℕ
device_of x = pools.device_of x.pool

-- the side of each page now, as a header would name them
abbrev pub sides_of : RowStore → List ℕ
sides_of x = x.sides.items

abbrev pub page_count : RowStore → ℕ
page_count x = length x.sides.items

-- the places of its rows, whatever the disks tell, as tables in which each row is its key alone
abbrev pub places_of : RowStore → Tables
places_of x = places_in x.directory

-- with a header that names these sides
abbrev pub with_named : RowStore → List ℕ → RowStore
with_named x sides = record x { named = sides }

-- These sides have the rows of the tables, each place once; NULL is read or not.
pub record HaveRows (nulls : Bool) (bytes : List ℕ) (sides : List ℕ) (t : Tables) : Type 0 where
  pub rows : List TableRow
  pub read : rows_from nulls bytes 0 sides ≡ Some rows
  pub apart : are_distinct (map change_of_row rows) ≡ true
  pub tables : with_changes (map change_of_row rows) no_rows ≡ t
