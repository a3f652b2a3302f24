-- What a store says behind a look at a page, by what the frame says of it.
use Rattle.salt_bytes.specs.Page.{TableRow, rows_in_page}
use Rattle.salt_checkpoint.specs.Sides.{side_bytes}
use Rattle.salt_directory.specs.Pages.{page_of}
use Rattle.salt_directory.specs.Rows.{IsRowFound}
use Rattle.salt_disk.proofs.CallAfterCall.{unless_down}
use Rattle.salt_disk.specs.Disks.{KeepsAll, SameShape, UnlessDown, View}
use Rattle.salt_disk.specs.declared.disks.DiskErr.{DiskErr}
use Rattle.salt_gatelog.proofs.Entries.{not_told}
use Rattle.salt_model.specs.Tables.{Tables, place, row_at}
use Rattle.salt_pool.specs.Errors.{IsShown, SpellsNone}
use Rattle.salt_pool.specs.Pools.{IsPool, with_frame}
use Rattle.salt_pool.specs.declared.pages.PageSpelling.{PageSpelling}
use Rattle.salt_rows.proofs.Reading.{bytes_kept, can_frame, found_row_is, found_row_there, never_none, shown_is, shown_rows, standing_framed, standing_kept}
use Rattle.salt_rows.specs.Frames.{CanFrame, Frames, HasFramed}
use Rattle.salt_rows.specs.Stores.{IsRowStore}
use Rattle.salt_rows.specs.declared.store.RowStore.{RowStore}
use Rattle.salt_values.specs.Value.{key_of}
use Rattle.salt_values.specs.declared.value.Value.{Value}
use Rattle.std.proofs.Common.{Err, IsTrue, List, None, Ok, OnErr, Option, Result, Some, ap, false, get_or, inl, inr, length, nat_eq, subst, sym, ℕ, ◌<◌, ◌≡◌, ◌⊎◌, ◌∙◌}
use Rattle.std.specs.Map.{lookup}

module _ (d : View) (x : RowStore) (dev : ℕ) (named : List ℕ) (t : Tables) (is : IsRowStore d x dev named t) where
  -- the directory's pages are the store's
  pub page_within : (table : ℕ) (key : Value) (page : ℕ) → page_of x.directory (place table key) ≡ Some page → page < length x.sides.items
  page_within table key page placed = is.is.kept.pointed (place table key) page placed

  module _ (page : ℕ) (low : page < length x.sides.items) where
    pub frames_page : CanFrame d x.pool page (get_or x.sides.items page 0)
    frames_page = can_frame d x dev named t is.is page low is.few

    framed_so : (e : View) (pool : Frames) (rows : List TableRow) → SameShape d e → e.bytes dev ≡ d.bytes dev → HasFramed d x.pool pool page (get_or x.sides.items page 0) rows rows → IsRowStore e (record x { pool = pool }) dev named t
    framed_so e pool rows shape same framed = subst (λ (p : Frames). IsRowStore e (record x { pool = p }) dev named t) (sym framed.is) (record {
      is = standing_framed d x dev named t is.is page low e rows shape same (subst (λ (p : Frames). IsPool p) framed.is framed.pool) framed.shown;
      few = is.few;
    })

    same_so : (e : View) (pool : Frames) → SameShape d e → e.bytes dev ≡ d.bytes dev → pool ≡ x.pool → IsRowStore e (record x { pool = pool }) dev named t
    same_so e pool shape same old = subst (λ (p : Frames). IsRowStore e (record x { pool = p }) dev named t) (sym old) (record { is = standing_kept d x dev named t is.is e shape same; few = is.few })

    -- the store stands, whatever the look answered, unless the disks are down
    pub stands_behind : (e : View) (answer : Option DiskErr) (pool : Frames) → KeepsAll d e answer
        → (pool ≡ x.pool) ⊎ ((rows : List TableRow) × HasFramed d x.pool pool page (get_or x.sides.items page 0) rows rows) → UnlessDown answer (IsRowStore e (record x { pool = pool }) dev named t)
    stands_behind e answer pool kept left = unless_down answer (e.bytes dev ≡ d.bytes dev) (IsRowStore e (record x { pool = pool }) dev named t) (λ same. by same left) (bytes_kept d e answer dev kept)
      where
        by : e.bytes dev ≡ d.bytes dev → (pool ≡ x.pool) ⊎ ((rows : List TableRow) × HasFramed d x.pool pool page (get_or x.sides.items page 0) rows rows) → IsRowStore e (record x { pool = pool }) dev named t
        by same (inl old) = same_so e pool kept.shape same old
        by same (inr framed) = framed_so e pool framed.0 kept.shape same framed.1

    module _ (pool : Frames) (rows : List TableRow) (framed : HasFramed d x.pool pool page (get_or x.sides.items page 0) rows rows) (table : ℕ) (key : Value) where
      -- the row that is found is the tables'
      pub row_behind : IsTrue d.told → (row : List Value) → IsRowFound table key rows (Some row) → Some row ≡ row_at (place table key) t
      row_behind told row found = found_row_is d x dev named t is.is page low told table key rows row (shown_rows d x dev named t is.is page low told rows (framed.shown told)) found

      -- where none is found, the disks do not tell
      pub none_behind : page_of x.directory (place table key) ≡ Some page → IsRowFound table key rows None → d.told ≡ false
      none_behind placed none = not_told d.told (λ told. found_row_there d x dev named t is.is page low told table key rows (shown_rows d x dev named t is.is page low told rows (framed.shown told)) placed none)

-- a row that is found has the key
pub found_key : (table : ℕ) (key : Value) (rows : List TableRow) (row : List Value) → IsRowFound table key rows (Some row) → key_of row ≡ key
found_key table key rows row found = ap key_of (sym found.4) ∙ found.3.1

-- what holds whatever was answered
pub always_err : {A E : Type 0} (r : Result A E) (P : Type 0) → P → OnErr r P
always_err (Ok x) P h = tt
always_err (Err y) P h = h

-- a look that answers that a page is none, where the page is shown: the disks do not tell
pub no_page_told : (d : View) (x : Frames) (page side : ℕ) → CanFrame d x page side → lookup (nat_eq page) x.frames.entries ≡ None → (IsTrue d.told → SpellsNone (rows_in_page x.codec.nulls) (side_bytes (d.bytes x.dev) page side)) → d.told ≡ false
no_page_told d x page side can none spells = not_told d.told (λ told.
    let shown = can.shown told in
    never_none (d.bytes x.dev) x.frames.entries page side shown.0 shown.1 none (subst (λ (k : PageSpelling). SpellsNone (rows_in_page k.nulls) (side_bytes (d.bytes x.dev) page side)) can.codec (spells told)))

-- what the frame shows is the page
pub framed_is : (d : View) (x new : Frames) (page side : ℕ) (rows : List TableRow) → CanFrame d x page side → new ≡ with_frame x page rows → IsPool new → IsShown d.told (rows_in_page x.codec.nulls) (side_bytes (d.bytes x.dev) page side) (lookup (nat_eq page) x.frames.entries) rows → HasFramed d x new page side rows rows
framed_is d x new page side rows can made pool shown = record {
  is = made;
  pool = pool;
  shown = λ told. shown_is d.told (d.bytes x.dev) x.frames.entries page side rows (subst (λ (k : PageSpelling). IsShown d.told (rows_in_page k.nulls) (side_bytes (d.bytes x.dev) page side) (lookup (nat_eq page) x.frames.entries) rows) can.codec shown) told;
}

-- the same of a page that has other rows now
pub framed_to : (d : View) (x new : Frames) (page side : ℕ) (before rows : List TableRow) → CanFrame d x page side → new ≡ with_frame x page rows → IsPool new → IsShown d.told (rows_in_page x.codec.nulls) (side_bytes (d.bytes x.dev) page side) (lookup (nat_eq page) x.frames.entries) before → HasFramed d x new page side before rows
framed_to d x new page side before rows can made pool shown = record {
  is = made;
  pool = pool;
  shown = λ told. shown_is d.told (d.bytes x.dev) x.frames.entries page side before (subst (λ (k : PageSpelling). IsShown d.told (rows_in_page k.nulls) (side_bytes (d.bytes x.dev) page side) (lookup (nat_eq page) x.frames.entries) before) can.codec shown) told;
}
