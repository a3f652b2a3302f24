-- What calls make of a page in its frame.
use Rattle.salt_bytes.specs.Page.{TableRow}
use Rattle.salt_disk.specs.Disks.{View}
use Rattle.salt_pool.specs.Frames.{frame_count}
use Rattle.salt_pool.specs.Pools.{IsPool, codec_of, device_of, dirty_of, frames_of, with_frame}
use Rattle.salt_pool.specs.declared.pages.PageSpelling.{PageSpelling}
use Rattle.salt_pool.specs.declared.pool.Pool.{Pool}
use Rattle.salt_stands.specs.Partition.{page_at}
use Rattle.std.specs.Map.{lookup}
use Rattle.std.specs.Prelude.{IsTrue, List, None, Option, Some, length, nat_eq, true, ℕ, ◌<◌, ◌≡◌, ◌≤◌}

-- the pool of a store
abbrev pub Frames : Type 0
Frames = Pool (List TableRow) PageSpelling

abbrev pub or_read : Option (List TableRow) → Option (List TableRow) → Option (List TableRow)
or_read None read = read
or_read (Some own) read = Some own

-- the rows of a page: of its frame, and where it has none of this side
abbrev pub shown_page : List ℕ → List (ℕ × List TableRow) → (page side : ℕ) → Option (List TableRow)
shown_page bytes frames page side = or_read (lookup (nat_eq page) frames) (page_at true bytes page side)

-- Where the disks tell, the page is shown. Fewer than 64 pages are to be written, so it gets a frame.
pub record CanFrame (d : View) (x : Frames) (page side : ℕ) : Type 0 where
  pub known : device_of x < d.count
  pub low : side ≤ 1
  pub pool : IsPool x
  pub codec : codec_of x ≡ record { nulls = true }
  pub few : length (dirty_of x) < frame_count
  pub shown : IsTrue d.told → (rows : List TableRow) × (shown_page (d.bytes (device_of x)) (frames_of x) page side ≡ Some rows)

-- The page is in its frame; it had these rows, where the disks tell, and has these now.
pub record HasFramed (d : View) (old new : Frames) (page side : ℕ) (before rows : List TableRow) : Type 0 where
  pub is : new ≡ with_frame old page rows
  pub pool : IsPool new
  pub shown : IsTrue d.told → shown_page (d.bytes (device_of old)) (frames_of old) page side ≡ Some before
