-- What a page's bytes have, and what a pool's errors say.
use Rattle.salt_bytes.specs.Page.{page_length}
use Rattle.salt_disk.specs.declared.disks.DiskErr.{DiskErr}
use Rattle.salt_pool.specs.declared.error.PoolErr.TheVariants.{Disk, NotPage, PoolFull}
use Rattle.salt_pool.specs.declared.error.PoolErr.{PoolErr}
use Rattle.std.specs.Prelude.{Bool, Err, IsTrue, List, None, Ok, Option, Result, Some, length, ℕ, ◌<◌, ◌≡◌, ◌⊎◌}

-- a whole page's bytes stand there, and this page is read of them
abbrev pub HasPage : {P : Type 0} → (List ℕ → Option P) → List ℕ → P → Type 0
HasPage page_in bytes p = (length bytes ≡ page_length) × (page_in bytes ≡ Some p)

-- fewer bytes than a page's stand there, or none is read of them
abbrev pub SpellsNone : {P : Type 0} → (List ℕ → Option P) → List ℕ → Type 0
SpellsNone page_in bytes = (length bytes < page_length) ⊎ (page_in bytes ≡ None)

-- the page that a frame shows: its own from before, and else, where the disks tell, the one that is read of its side's bytes
abbrev pub IsShown : {P : Type 0} → Bool → (List ℕ → Option P) → List ℕ → Option P → P → Type 0
IsShown told page_in bytes (Some own) p = p ≡ own
IsShown told page_in bytes None p = IsTrue told → HasPage page_in bytes p

-- what a device call answered
abbrev pub pool_disk_err : {T : Type 0} → Result T PoolErr → Option DiskErr
pool_disk_err (Ok x) = None
pool_disk_err (Err PoolFull) = None
pool_disk_err (Err NotPage) = None
pool_disk_err (Err (Disk e)) = Some e
