-- What a store says of a flush, by what its pool says of it.
use Rattle.salt_bytes.specs.Page.{page_length, page_place, rows_in_page, spell_page}
use Rattle.salt_bytes.specs.Spellable.{Every}
use Rattle.salt_checkpoint.specs.Sides.{KeepsNamed, NamedSame}
use Rattle.salt_disk.specs.Disks.{FullOnly, SameShape, UnlessDown, View}
use Rattle.salt_disk.specs.declared.disks.DiskErr.{DiskErr}
use Rattle.salt_disk.specs.declared.disks.DiskErr.TheVariants.{Failed, Full, Memory, Stopped}
use Rattle.salt_model.specs.Tables.{Tables}
use Rattle.salt_pool.proofs.Seen.{keeps_named, named_same}
use Rattle.salt_pool.specs.Flushing.{AreOnSides, AreSpared, AreSpelledBack, IsLeftBy, KeepsSides, end_of, place_of}
use Rattle.salt_pool.specs.Pools.{IsPool, flushed}
use Rattle.salt_pool.specs.declared.places.Dirty.{Dirty}
use Rattle.salt_rows.proofs.Pool.{every_weaker}
use Rattle.salt_rows.proofs.Standing.{spare_low}
use Rattle.salt_rows.proofs.Written.{spared, store_flushed}
use Rattle.salt_rows.specs.Frames.{Frames}
use Rattle.salt_rows.specs.Stores.{IsRowStore, IsSpare, IsStanding}
use Rattle.salt_rows.specs.declared.store.RowStore.{RowStore}
use Rattle.std.proofs.Common.{Err, IsTrue, List, None, Ok, OnOk, Option, Result, Some, [], ap, arith, length, subst, true, ℕ, ◌+◌, ◌<◌, ◌≡◌, ◌≤◌, ◌∷◌}
use Rattle.std.specs.Result.{result_err}

-- a page of the first so many ends before the next one
page_low : (d : Dirty) (n : ℕ) → d.page < n → d.side ≤ 1 → place_of d + page_length ≤ page_place n 0
page_low d n low side = omega (arith, low, side)

ends_low : (n : ℕ) (ds : List Dirty) → Every (λ d. (d.page < n) × (d.side ≤ 1)) ds → end_of ds ≤ page_place n 0
ends_low n [] each = omega arith
ends_low n (d ∷ ds) each = omega (arith, page_low d n each.0.0 each.0.1, ends_low n ds each.1)

full_later : (o : Option DiskErr) (dev limit early late : ℕ) → early ≤ late → FullOnly dev limit early o → FullOnly dev limit late o
full_later None dev limit early late less full = tt
full_later (Some Failed) dev limit early late less full = tt
full_later (Some Stopped) dev limit early late less full = tt
full_later (Some (Full n)) dev limit early late less full = (full.0, omega (arith, less, full.1))
full_later (Some Memory) dev limit early late less full = tt

-- `Full` comes only where the pages together pass the limit
pub full_of_flush : (named sides : List ℕ) (ds : List Dirty) → Every (IsSpare named sides) ds → (o : Option DiskErr) (dev limit : ℕ) → FullOnly dev limit (end_of ds) o → FullOnly dev limit (page_place (length sides) 0) o
full_of_flush named sides ds spare o dev limit full = full_later o dev limit (end_of ds) (page_place (length sides) 0) (ends_low (length sides) ds (every_weaker (IsSpare named sides) (λ d. (d.page < length sides) × (d.side ≤ 1)) low ds spare)) full
  where
    low : (d : Dirty) → IsSpare named sides d → (d.page < length sides) × (d.side ≤ 1)
    low d is = (is.0, omega (arith, spare_low named d.page, is.1))

module _ (d e : View) (x : RowStore) (dev : ℕ) (named : List ℕ) (t : Tables) (is : IsStanding d x dev named t) where
  spared_here : AreSpared named x.pool.len x.pool.dirty.items
  spared_here = subst (λ (l : List ℕ). AreSpared l x.pool.len x.pool.dirty.items) is.names (spared x.pool x.named x.sides.items x.space x.directory is.kept)

  pub images_of_flush : KeepsSides x.pool.len x.pool.dirty.items d e x.pool.dev → KeepsNamed named d e dev
  images_of_flush keeps = keeps_named named x.pool.len x.pool.dirty.items d e dev spared_here (subst (λ n. KeepsSides x.pool.len x.pool.dirty.items d e n) is.device keeps)

module _ {T : Type 0} (d e : View) (x : RowStore) (dev : ℕ) (named : List ℕ) (t : Tables) (is : IsStanding d x dev named t) where
  pub rows_of_flush : (r : Result T DiskErr) (pool : Frames) → OnOk r (pool ≡ flushed x.pool) → IsPool pool → SameShape d e
      → UnlessDown (result_err r) (IsLeftBy x.pool.len x.pool.dirty.items d e x.pool.dev pool.len)
      → OnOk r (IsTrue d.told → AreOnSides spell_page x.pool.frames.entries x.pool.dirty.items (e.bytes x.pool.dev))
      → OnOk r (AreSpelledBack spell_page (rows_in_page true) x.pool.frames.entries x.pool.dirty.items)
      → OnOk r (IsRowStore e (record x { pool = pool }) dev named t)
  rows_of_flush (Ok y) pool made is_pool shape left stand back = store_flushed d e x dev named t is pool made is_pool shape left stand back
  rows_of_flush (Err y) pool made is_pool shape left stand back = tt

  pub named_of_flush : (r : Result T DiskErr) (now : ℕ) → UnlessDown (result_err r) (IsLeftBy x.pool.len x.pool.dirty.items d e x.pool.dev now) → IsTrue d.told → OnOk r (NamedSame named (d.bytes dev) (e.bytes dev))
  named_of_flush (Ok y) now left told =
      subst (λ n. NamedSame named (d.bytes n) (e.bytes n)) is.device
      (named_same named x.pool.len x.pool.dirty.items (d.bytes x.pool.dev) (e.bytes x.pool.dev) (spared_here d e x dev named t is) (left.sides told))
  named_of_flush (Err y) now left told = tt

pub clean_of_flush : {T : Type 0} (r : Result T DiskErr) (old new : Frames) → OnOk r (new ≡ flushed old) → OnOk r (new.dirty.items ≡ [])
clean_of_flush (Ok y) old new made = ap (λ (p : Frames). p.dirty.items) made
clean_of_flush (Err y) old new made = tt
