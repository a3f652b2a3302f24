-- What a flush of a store needs, and what it leaves.
use Rattle.salt_bytes.specs.Page.{page_length, page_place, rows_in_page, spell_page}
use Rattle.salt_disk.specs.Disks.{SameShape, View}
use Rattle.salt_model.specs.Tables.{Tables}
use Rattle.salt_model.specs.declared.places.Place.{Place}
use Rattle.salt_pool.proofs.Near.{are_near}
use Rattle.salt_pool.proofs.Seen.{dirty_framed, goes_none}
use Rattle.salt_pool.specs.Dirtied.{goes_to, is_dirty}
use Rattle.salt_pool.specs.Flushing.{AreNear, AreOnSides, AreSpared, AreSpelledBack, BeginsNear, IsLeftBy, SameSides}
use Rattle.salt_pool.specs.Pools.{IsFlushable, IsPool, flushed}
use Rattle.salt_pool.specs.declared.places.Dirty.{Dirty}
use Rattle.salt_rows.proofs.Kept.{kept_flushed, kept_named}
use Rattle.salt_directory.proofs.PageAt.{rows_all}
use Rattle.salt_rows.proofs.Pool.{every_weaker}
use Rattle.salt_rows.proofs.Standing.{pages_flushed, side_low}
use Rattle.salt_rows.specs.Frames.{Frames}
use Rattle.salt_directory.specs.Pages.{all_rows}
use Rattle.salt_rows.specs.Sides.{spare_side}
use Rattle.salt_rows.specs.Stores.{AreKept, HaveRows, HavePages, IsClean, IsRowStore, IsSpare, IsStanding, with_named}
use Rattle.salt_rows.specs.declared.store.RowStore.{RowStore}
use Rattle.salt_stands.specs.Partition.{page_at}
use Rattle.std.proofs.Common.{IsTrue, List, Some, [], ap, arith, cond, false, get_or, inl, inr, length, refl, subst, sym, true, ℕ, ◌+◌, ◌-◌, ◌<◌, ◌≡◌, ◌≤◌, ◌⊎◌, ◌∙◌}
use Rattle.std.proofs.lemmas.Bool.{cases_lt}
use Rattle.std.proofs.lemmas.Bool.Decides.{nat_tests}
use Rattle.std.proofs.lemmas.Option.{get_or_from_slice_get, slice_get_within}
use Rattle.std.specs.Prelude.{nat_lt, slice_get}

spare_listed : (named : List ℕ) (page : ℕ) → page < length named → spare_side named page ≡ 1 - get_or named page 0
spare_listed named page low = ap (λ b. cond b (1 - get_or named page 0) 0) below
  where
    below : nat_lt page (length named) ≡ true
    below = grind (arith, nat_tests, low)

spare_other : (named : List ℕ) (page : ℕ) → length named ≤ page → spare_side named page ≡ 0
spare_other named page high = ap (λ b. cond b (1 - get_or named page 0) 0) above
  where
    above : nat_lt page (length named) ≡ false
    above = grind (arith, nat_tests, high)

module _ (x : Frames) (named sides space : List ℕ) (directory : List (Place × ℕ)) (is : AreKept x named sides space directory) where
  begins : (d : Dirty) → IsSpare named sides d → BeginsNear x.len d
  begins d spare = by (cases_lt d.page (length named))
    where
      by : (d.page < length named) ⊎ (length named ≤ d.page) → BeginsNear x.len d
      by (inl low) =
          let end = is.named_end d.page low in
          let side : d.side ≡ 1 - get_or named d.page 0 = spare.1 ∙ spare_listed named d.page low in
          inl (omega (arith, end, side))
      by (inr high) = inr (spare.1 ∙ spare_other named d.page high)

  pub near : AreNear x.len x.dirty.items
  near = are_near (length sides) 0 x.len x.dirty.items is.is_pool.rising
      (every_weaker (IsSpare named sides) (λ d. d.page < length sides) (λ d spare. spare.0) x.dirty.items is.spare)
      (λ q low clean. let end = is.side_end q low clean in omega (arith, end))
      (every_weaker (IsSpare named sides) (BeginsNear x.len) begins x.dirty.items is.spare)

  pub spared : AreSpared named x.len x.dirty.items
  spared = record { each = each }
    where
      each : (page side : ℕ) → slice_get named page ≡ Some side → (side ≤ 1) × (page_place page side + page_length ≤ x.len) × (goes_to x.dirty.items page side ≡ false)
      each page side at =
          let own : get_or named page 0 ≡ side = get_or_from_slice_get named page side 0 at in
          let within : page < length named = slice_get_within named page side at in
          let low : side ≤ 1 = subst (λ s. s ≤ 1) own (side_low named page is.named_low) in (
            low,
            subst (λ s. page_place page s + page_length ≤ x.len) own (is.named_end page within),
            goes_none page side x.dirty.items (every_weaker (IsSpare named sides) (λ d. (d.page ≡ page) × (d.side ≡ side) → ⊥) (λ d spare. elsewhere d spare own within low) x.dirty.items is.spare),
          )
        where
          elsewhere : (d : Dirty) → IsSpare named sides d → get_or named page 0 ≡ side → page < length named → side ≤ 1 → (d.page ≡ page) × (d.side ≡ side) → ⊥
          elsewhere d spare own within low both =
              let aside : d.side ≡ 1 - get_or named page 0 = spare.1 ∙ ap (spare_side named) both.0 ∙ spare_listed named page within in
              omega (arith, aside, own, both.1, low)

  module _ (bytes new : List ℕ) (t : Tables) (has : HavePages bytes x sides space directory t) (same : SameSides x.len x.dirty.items bytes new) (stand : AreOnSides spell_page x.frames.entries x.dirty.items new)
      (back : AreSpelledBack spell_page (rows_in_page true) x.frames.entries x.dirty.items) (long : (flushed x).len ≡ length new) where
    pub have_flushed : HavePages new (flushed x) sides space directory t
    have_flushed = record {
      pages = has.pages;
      are = pages_flushed bytes x is.is_pool x.dirty.items sides has.pages has.are named new is.sides_low is.spare (subst (λ n. SameSides n x.dirty.items bytes new) has.long same) stand back (λ q dirty. dirty_framed x q is.is_pool dirty);
      rows = has.rows;
      free = has.free;
      long = long;
    }

-- where nothing is to be written, the sides have the rows
pub clean_rows : (bytes : List ℕ) (x : Frames) (sides space : List ℕ) (directory : List (Place × ℕ)) (t : Tables) → HavePages bytes x sides space directory t → x.dirty.items ≡ [] → HaveRows true bytes sides t
clean_rows bytes x sides space directory t has clean = record {
  rows = all_rows has.pages;
  read = rows_all true bytes 0 sides has.pages has.are.count (λ i low. subst (λ n. page_at true bytes n (get_or sides i 0) ≡ Some (get_or has.pages i [])) (from_zero i) (has.are.stand i low (ap (λ (ds : List Dirty). is_dirty ds i) clean)));
  apart = has.rows.apart;
  tables = has.rows.tables;
}
  where
    from_zero : (i : ℕ) → i ≡ 0 + i
    from_zero i = omega arith

-- A STORE that is flushed
module _ (d e : View) (x : RowStore) (dev : ℕ) (named : List ℕ) (t : Tables) (is : IsStanding d x dev named t) where
  pub flushable : IsFlushable d x.pool
  flushable = record {
    length = λ told. (is.told told).long ∙ ap (λ n. length (d.bytes n)) (sym is.device);
    near = near x.pool x.named x.sides.items x.space x.directory is.kept;
  }

  pub store_flushed : (pool : Frames) → pool ≡ flushed x.pool → IsPool pool → SameShape d e → IsLeftBy x.pool.len x.pool.dirty.items d e x.pool.dev pool.len
      → (IsTrue d.told → AreOnSides spell_page x.pool.frames.entries x.pool.dirty.items (e.bytes x.pool.dev)) → AreSpelledBack spell_page (rows_in_page true) x.pool.frames.entries x.pool.dirty.items
      → IsRowStore e (record x { pool = pool }) dev named t
  store_flushed pool made is_pool shape left stand back = subst (λ (p : Frames). IsRowStore e (record x { pool = p }) dev named t) (sym made) (record {
    is = record {
      device = is.device;
      known = omega (arith, is.known, shape.count);
      names = is.names;
      kept = kept_flushed x.pool x.named x.sides.items x.space x.directory is.kept (subst (λ (p : Frames). IsPool p) made is_pool);
      told = λ told. told_so (sym shape.told ∙ told);
    };
    few = omega arith;
  })
    where
      told_so : IsTrue d.told → HavePages (e.bytes dev) (flushed x.pool) x.sides.items x.space x.directory t
      told_so told =
          subst (λ n. HavePages (e.bytes n) (flushed x.pool) x.sides.items x.space x.directory t) is.device
          (have_flushed x.pool x.named x.sides.items x.space x.directory is.kept (d.bytes x.pool.dev) (e.bytes x.pool.dev) t
          (subst (λ n. HavePages (d.bytes n) x.pool x.sides.items x.space x.directory t) (sym is.device) (is.told told))
          (left.sides told) (stand told) back (ap (λ (p : Frames). p.len) (sym made) ∙ left.ends told))

-- the header names the sides now
pub store_named : (d : View) (x : RowStore) (dev : ℕ) (named sides : List ℕ) (t : Tables) → IsRowStore d x dev named t → IsClean x → sides ≡ x.sides.items → IsRowStore d (with_named x sides) dev sides t
store_named d x dev named sides t is clean same = record {
  is = record {
    device = is.is.device;
    known = is.is.known;
    names = refl;
    kept = subst (λ (l : List ℕ). AreKept x.pool l x.sides.items x.space x.directory) (sym same) (kept_named x.pool x.named x.sides.items x.space x.directory is.is.kept clean);
    told = is.is.told;
  };
  few = is.few;
}
