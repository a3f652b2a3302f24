-- What a pool keeps, and what its calls make of it.
use Rattle.lru.specs.LruCache.{lru_cache, promoted}
use Rattle.salt_checkpoint.specs.declared.writes.Write.{Write}
use Rattle.salt_disk.specs.Disks.{View}
use Rattle.salt_pool.specs.Dirtied.{AreSides, IsRisingFrom, put_dirty}
use Rattle.salt_pool.specs.Flushing.{AreFramed, AreNear, bytes_in, length_behind, writes_of}
use Rattle.salt_pool.specs.Frames.{beside, frame_count, without}
use Rattle.salt_pool.specs.declared.places.Dirty.{Dirty}
use Rattle.salt_pool.specs.declared.pool.Pool.{Pool}
use Rattle.std.specs.List.{IsDistinct}
use Rattle.std.specs.Map.{keys_of, lookup, set_value}
use Rattle.std.specs.Prelude.{IsTrue, List, Option, [], length, nat_eq, ℕ, ◌∷◌, ◌≡◌, ◌≤◌}

-- the pages that have a frame, the one that was used last first
abbrev pub frames_of : {P C : Type 0} → Pool P C → List (ℕ × P)
frames_of x = x.frames.entries

-- the page in its frame, where it has one
abbrev pub frame_of : {P C : Type 0} → Pool P C → ℕ → Option P
frame_of x page = lookup (nat_eq page) x.frames.entries

-- the pages that are to be written, each with its side, in order of pages
abbrev pub dirty_of : {P C : Type 0} → Pool P C → List Dirty
dirty_of x = x.dirty.items

abbrev pub device_of : {P C : Type 0} → Pool P C → ℕ
device_of x = x.dev

-- how long the pool takes the device for
abbrev pub length_of : {P C : Type 0} → Pool P C → ℕ
length_of x = x.len

abbrev pub codec_of : {P C : Type 0} → Pool P C → C
codec_of x = x.codec

-- at most 64 frames, one for each dirty page and none twice; dirty pages in order, each to side 0 or 1
pub record IsPool {P C : Type 0} (x : Pool P C) : Type 0 where
  pub cap : x.frames.cap ≡ 65
  pub few : length x.frames.entries ≤ frame_count
  pub distinct : IsDistinct nat_eq (keys_of x.frames.entries)
  pub framed : AreFramed x.frames.entries x.dirty.items
  pub rising : IsRisingFrom 0 x.dirty.items
  pub sides : AreSides x.dirty.items

-- its dirty pages can be written: each begins at most one page behind the end that stands when it comes
pub record IsFlushable {P C : Type 0} (d : View) (x : Pool P C) : Type 0 where
  pub length : IsTrue d.told → x.len ≡ length (d.bytes x.dev)
  pub near : AreNear x.len x.dirty.items

-- what a flush writes
abbrev pub flushes : {P C : Type 0} → (P → List ℕ) → Pool P C → List Write
flushes spell x = writes_of (bytes_in spell x.frames.entries) x.dirty.items x.len

-- with this page in its frame, which is the most recently used one
abbrev pub with_frame : {P C : Type 0} → Pool P C → ℕ → P → Pool P C
with_frame x page p = record x { frames = lru_cache ((page, p) ∷ beside x.dirty.items x.frames.entries page) x.frames.cap }

-- the same of a page that has a frame, as the cache says it
abbrev pub with_page : {P C : Type 0} → Pool P C → ℕ → P → Pool P C
with_page x page p = record x { frames = lru_cache (set_value (nat_eq page) (promoted (nat_eq page) x.frames.entries) p) x.frames.cap }

-- with this page dirty
abbrev pub with_dirty : {P C : Type 0} → Pool P C → Dirty → Pool P C
with_dirty x d = record x { dirty = record { items = put_dirty d x.dirty.items } }

-- behind a flush: no page is dirty, and the device is as long as it is with all that were
abbrev pub flushed : {P C : Type 0} → Pool P C → Pool P C
flushed x = record x { len = length_behind x.len x.dirty.items; dirty = record { items = [] } }

-- taking the device for this long
abbrev pub with_length : {P C : Type 0} → Pool P C → ℕ → Pool P C
with_length x n = record x { len = n }

-- without the frame of this page, where it is one
abbrev pub without_frame : {P C : Type 0} → Pool P C → Option ℕ → Pool P C
without_frame x page = record x { frames = lru_cache (without page x.frames.entries) x.frames.cap }
