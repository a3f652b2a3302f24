-- Rows are read of pages in frames.
use Rattle.salt_bytes.specs.Page.{TableRow, page_length, page_place, rows_in_page}
use Rattle.salt_checkpoint.proofs.Moved.{place_of}
use Rattle.salt_checkpoint.specs.Rows.{found_row, is_row_at}
use Rattle.salt_checkpoint.specs.Sides.{side_bytes}
use Rattle.salt_disk.specs.Disks.{KeepsAll, SameShape, UnlessDown, View}
use Rattle.salt_disk.specs.declared.disks.DiskErr.{DiskErr}
use Rattle.salt_disk.specs.declared.disks.DiskErr.TheVariants.{Failed, Full, Memory, Stopped}
use Rattle.salt_model.specs.Tables.{Tables, place, place_cmp, row_at}
use Rattle.salt_model.specs.declared.places.Place.{Place}
use Rattle.salt_pages.specs.Pages.{IsRowOf}
use Rattle.salt_pool.proofs.Seen.{dirty_framed}
use Rattle.salt_pool.specs.Dirtied.{is_dirty}
use Rattle.salt_pool.specs.Errors.{IsShown, SpellsNone}
use Rattle.salt_pool.specs.Pools.{IsPool, with_frame}
use Rattle.salt_directory.proofs.Changed.{found_on}
use Rattle.salt_rows.proofs.Kept.{kept_framed}
use Rattle.salt_directory.proofs.PageAt.{no_page, page_is}
use Rattle.salt_rows.proofs.Standing.{pages_framed, side_low}
use Rattle.salt_rows.specs.Frames.{CanFrame, Frames, or_read, shown_page}
use Rattle.salt_rows.specs.Sides.{ArePages}
use Rattle.salt_directory.specs.Pages.{page_of}
use Rattle.salt_directory.specs.Rows.{IsRowFound}
use Rattle.salt_rows.specs.Stores.{HavePages, IsStanding}
use Rattle.salt_rows.specs.declared.store.RowStore.{RowStore}
use Rattle.salt_stands.proofs.Places.{equal_is, place_same}
use Rattle.salt_stands.specs.Partition.{page_at}
use Rattle.salt_values.specs.declared.value.Value.{Value}
use Rattle.std.proofs.Common.{Bool, IsTrue, List, None, Option, Some, [], ap, arith, cond, drop, false, get_or, inl, inr, is_some, length, length-take, nat_eq, refl, subst, suc, sym, true, ℕ, ◌<◌, ◌≡◌, ◌≤◌, ◌⊎◌, ◌∙◌, ◌∷◌}
use Rattle.std.proofs.lemmas.Bool.{cases_lt}
use Rattle.std.specs.Map.{lookup}
use Rattle.std.specs.Prelude.{slice_get}

pub some_same : {A : Type 0} (x y : A) → Some x ≡ Some y → x ≡ y
some_same x y e = cc

-- SHOWN

-- each page is shown, with its rows
pub shows_on : (bytes : List ℕ) (x : Frames) (sides : List ℕ) (pages : List (List TableRow)) → ArePages bytes x.frames.entries x.dirty.items sides pages → IsPool x → (page : ℕ) → page < length sides
    → shown_page bytes x.frames.entries page (get_or sides page 0) ≡ Some (get_or pages page [])
shows_on bytes x sides pages are pool page low = by (lookup (nat_eq page) x.frames.entries) refl
  where
    clean : (b : Bool) → is_dirty x.dirty.items page ≡ b → lookup (nat_eq page) x.frames.entries ≡ None → is_dirty x.dirty.items page ≡ false
    clean false e none = e
    clean true e none = absurd (clash (sym (dirty_framed x page pool e) ∙ ap is_some none))
      where
        clash : true ≡ false → ⊥
        clash h = cc

    by : (o : Option (List TableRow)) → lookup (nat_eq page) x.frames.entries ≡ o → or_read (lookup (nat_eq page) x.frames.entries) (page_at true bytes page (get_or sides page 0)) ≡ Some (get_or pages page [])
    by None e = ap (λ o. or_read o (page_at true bytes page (get_or sides page 0))) e ∙ are.stand page low (clean (is_dirty x.dirty.items page) refl e)
    by (Some own) e = ap (λ o. or_read o (page_at true bytes page (get_or sides page 0))) e ∙ ap (λ (rows : List TableRow). Some rows) (are.framed page own low e)

pub shows : (bytes : List ℕ) (x : Frames) (sides space : List ℕ) (directory : List (Place × ℕ)) (t : Tables) (has : HavePages bytes x sides space directory t) → IsPool x → (page : ℕ) → page < length sides
    → shown_page bytes x.frames.entries page (get_or sides page 0) ≡ Some (get_or has.pages page [])
shows bytes x sides space directory t has = shows_on bytes x sides has.pages has.are

-- what a pool shows
pub shown_is : (told : Bool) (bytes : List ℕ) (frames : List (ℕ × List TableRow)) (page side : ℕ) (rows : List TableRow) → IsShown told (rows_in_page true) (side_bytes bytes page side) (lookup (nat_eq page) frames) rows → IsTrue told → shown_page bytes frames page side ≡ Some rows
shown_is told bytes frames page side rows shown is = by (lookup (nat_eq page) frames) shown
  where
    by : (o : Option (List TableRow)) → IsShown told (rows_in_page true) (side_bytes bytes page side) o rows → or_read o (page_at true bytes page side) ≡ Some rows
    by None h = let page' = h is in page_is true bytes page side page'.0 ∙ page'.1
    by (Some own) h = ap (λ (r : List TableRow). Some r) (sym h)

-- a page that is shown is no page that spells none
pub never_none : (bytes : List ℕ) (frames : List (ℕ × List TableRow)) (page side : ℕ) (rows : List TableRow) → shown_page bytes frames page side ≡ Some rows → lookup (nat_eq page) frames ≡ None → SpellsNone (rows_in_page true) (side_bytes bytes page side) → ⊥
never_none bytes frames page side rows shown none spells = clash (sym (at spells) ∙ sym (ap (λ o. or_read o (page_at true bytes page side)) none) ∙ shown)
  where
    clash : None ≡ Some rows → ⊥
    clash e = cc

    at : SpellsNone (rows_in_page true) (side_bytes bytes page side) → page_at true bytes page side ≡ None
    at (inl short) = no_page true bytes page side short
    at (inr none) = by (cases_lt (length (side_bytes bytes page side)) page_length)
      where
        by : (length (side_bytes bytes page side) < page_length) ⊎ (page_length ≤ length (side_bytes bytes page side)) → page_at true bytes page side ≡ None
        by (inl short) = no_page true bytes page side short
        by (inr long) = page_is true bytes page side (omega (arith, long, length-take page_length (drop (page_place page side) bytes))) ∙ none

-- FOUND

pub found_index : (q : Place) (rows : List TableRow) → is_some (found_row q rows) ≡ true → (i : ℕ) × (r : TableRow) × (slice_get rows i ≡ Some r) × (is_row_at q r ≡ true)
found_index q [] some = cc
found_index q (r ∷ rows) some = by (is_row_at q r) refl some (λ h. found_index q rows h)
  where
    by : (b : Bool) → is_row_at q r ≡ b → is_some (cond b (Some r.row) (found_row q rows)) ≡ true → (is_some (found_row q rows) ≡ true → (i : ℕ) × (s : TableRow) × (slice_get rows i ≡ Some s) × (is_row_at q s ≡ true))
        → (i : ℕ) × (s : TableRow) × (slice_get (r ∷ rows) i ≡ Some s) × (is_row_at q s ≡ true)
    by true e h on = (0, r, refl, e)
    by false e h on = let rest = on h in (suc rest.0, rest.1, rest.2, rest.3)

pub row_place : (table : ℕ) (key : Value) (r : TableRow) → IsRowOf table key r → place_of r ≡ place table key
row_place table key r of = λ i. place (of.0 i) (of.1 i)

pub place_row : (table : ℕ) (key : Value) (r : TableRow) → is_row_at (place table key) r ≡ true → IsRowOf table key r
place_row table key r at =
    let same : place table key ≡ place_of r = place_same (place table key) (place_of r) (equal_is (place_cmp (place table key) (place_of r)) at) in
    (ap (λ (q : Place). q.table) (sym same), ap (λ (q : Place). q.key) (sym same))

-- A STORE in which a page gets a frame

pub bytes_kept : (d e : View) (answer : Option DiskErr) (dev : ℕ) → KeepsAll d e answer → UnlessDown answer (e.bytes dev ≡ d.bytes dev)
bytes_kept d e None dev kept = (kept.kept dev (λ h. h)).bytes
bytes_kept d e (Some Failed) dev kept = tt
bytes_kept d e (Some Stopped) dev kept = tt
bytes_kept d e (Some (Full n)) dev kept = (kept.kept dev (λ h. h)).bytes
bytes_kept d e (Some Memory) dev kept = (kept.kept dev (λ h. h)).bytes

module _ (d : View) (x : RowStore) (dev : ℕ) (named : List ℕ) (t : Tables) (is : IsStanding d x dev named t) where
  here : IsTrue d.told → HavePages (d.bytes x.pool.dev) x.pool x.sides.items x.space x.directory t
  here told = subst (λ n. HavePages (d.bytes n) x.pool x.sides.items x.space x.directory t) (sym is.device) (is.told told)

  -- as it was, on devices that are
  pub standing_kept : (e : View) → SameShape d e → e.bytes dev ≡ d.bytes dev → IsStanding e x dev named t
  standing_kept e shape same = record {
    device = is.device;
    known = omega (arith, is.known, shape.count);
    names = is.names;
    kept = is.kept;
    told = λ told. subst (λ (bytes : List ℕ). HavePages bytes x.pool x.sides.items x.space x.directory t) (sym same) (is.told (sym shape.told ∙ told));
  }

  module _ (page : ℕ) (low : page < length x.sides.items) where
    pub can_frame : length x.pool.dirty.items < 64 → CanFrame d x.pool page (get_or x.sides.items page 0)
    can_frame few = record {
      known = omega (arith, is.known, is.device);
      low = side_low x.sides.items page is.kept.sides_low;
      pool = is.kept.is_pool;
      codec = is.kept.codec;
      few = few;
      shown = λ told. (get_or (here told).pages page [], shows (d.bytes x.pool.dev) x.pool x.sides.items x.space x.directory t (here told) is.kept.is_pool page low);
    }

    -- the rows that are shown are the page's
    pub shown_rows : (told : IsTrue d.told) (rows : List TableRow) → shown_page (d.bytes x.pool.dev) x.pool.frames.entries page (get_or x.sides.items page 0) ≡ Some rows → rows ≡ get_or (is.told told).pages page []
    shown_rows told rows shown = by dev is.device (is.told told)
      where
        by : (n : ℕ) → x.pool.dev ≡ n → (has : HavePages (d.bytes n) x.pool x.sides.items x.space x.directory t) → rows ≡ get_or has.pages page []
        by n same has = some_same rows (get_or has.pages page []) (sym shown ∙ ap (λ m. shown_page (d.bytes m) x.pool.frames.entries page (get_or x.sides.items page 0)) same ∙ shows (d.bytes n) x.pool x.sides.items x.space x.directory t has is.kept.is_pool page low)

    pub standing_framed : (e : View) (rows : List TableRow) → SameShape d e → e.bytes dev ≡ d.bytes dev → IsPool (with_frame x.pool page rows)
        → (IsTrue d.told → shown_page (d.bytes x.pool.dev) x.pool.frames.entries page (get_or x.sides.items page 0) ≡ Some rows) → IsStanding e (record x { pool = with_frame x.pool page rows }) dev named t
    standing_framed e rows shape same pool shown = record {
      device = is.device;
      known = omega (arith, is.known, shape.count);
      names = is.names;
      kept = kept_framed x.pool x.named x.sides.items x.space x.directory is.kept page rows low pool;
      told = λ told. framed (sym shape.told ∙ told);
    }
      where
        framed : IsTrue d.told → HavePages (e.bytes dev) (with_frame x.pool page rows) x.sides.items x.space x.directory t
        framed told =
            let has = is.told told in
            subst (λ (bytes : List ℕ). HavePages bytes (with_frame x.pool page rows) x.sides.items x.space x.directory t) (sym same) (record {
              pages = has.pages;
              are = pages_framed (d.bytes dev) x.pool is.kept.is_pool x.pool.dirty.items x.sides.items has.pages has.are page rows (shown_rows told rows (shown told));
              rows = has.rows;
              free = has.free;
              long = has.long;
            })

    -- the row that is found is that of its place
    pub found_row_is : (told : IsTrue d.told) (table : ℕ) (key : Value) (rows : List TableRow) (row : List Value) → rows ≡ get_or (is.told told).pages page [] → IsRowFound table key rows (Some row) → Some row ≡ row_at (place table key) t
    found_row_is told table key rows row same found =
        let has = is.told told in
        let at = subst (λ (rs : List TableRow). slice_get rs found.0 ≡ Some found.1) same found.2 in
        ap (λ (r : List Value). Some r) (sym found.4)
        ∙ sym (found_on x.directory has.pages t has.rows page (omega (arith, low, has.are.count)) found.0 found.1 at)
        ∙ ap (λ (q : Place). row_at q t) (row_place table key found.1 found.3)

    pub found_row_there : (told : IsTrue d.told) (table : ℕ) (key : Value) (rows : List TableRow) → rows ≡ get_or (is.told told).pages page [] → page_of x.directory (place table key) ≡ Some page → IsRowFound table key rows None → ⊥
    found_row_there told table key rows same placed none =
        let has = is.told told in
        let on : is_some (found_row (place table key) rows) ≡ true = ap (λ (rs : List TableRow). is_some (found_row (place table key) rs)) same ∙ has.rows.placed (place table key) page placed in
        let at = found_index (place table key) rows on in
        none at.0 at.1 at.2 (place_row table key at.1 at.3)
