-- Rows are loaded of pages in frames.
use Rattle.salt_bytes.specs.Page.{TableRow}
use Rattle.salt_bytes.specs.Spellable.{Every}
use Rattle.salt_directory.proofs.Changed.{none_at}
use Rattle.salt_directory.proofs.Loading.{with_none, with_twice}
use Rattle.salt_directory.proofs.Parts.{all_marked, loaded_count, loaded_point, loaded_range, others_none, page_loaded, page_passed}
use Rattle.salt_directory.proofs.Seated.{AreRowsAt, loaded_seats}
use Rattle.salt_directory.specs.Loading.{HasLoaded, HaveAllOf, HaveOthersNone, IsRowLoaded, IsSeated, count_in, rows_within, seats_in}
use Rattle.salt_directory.specs.Pages.{all_rows, page_of}
use Rattle.salt_directory.specs.Rows.{IsRowFound}
use Rattle.salt_directory.specs.declared.seats.Seat.{Seat}
use Rattle.salt_disk.proofs.CallAfterCall.{cause_none, cause_on, keeps_on}
use Rattle.salt_disk.specs.Disks.{HasCause, KeepsAll, View}
use Rattle.salt_disk.specs.declared.disks.DiskErr.{DiskErr}
use Rattle.salt_eval.specs.Scans.{point_of, row_list}
use Rattle.salt_loaded.specs.Rows.{RowsOf, with_rows}
use Rattle.salt_model.specs.Tables.{Tables, place, row_at}
use Rattle.salt_pool.specs.Pools.{with_frame}
use Rattle.salt_ranges.specs.declared.range.KeyRange.{KeyRange}
use Rattle.salt_rows.proofs.Applied.{keeps_same}
use Rattle.salt_rows.proofs.Read.{found_key, row_behind}
use Rattle.salt_rows.proofs.Reading.{shows_on, some_same}
use Rattle.salt_rows.proofs.Standing.{pages_framed}
use Rattle.salt_rows.specs.Frames.{Frames, HasFramed}
use Rattle.salt_rows.specs.Reads.{HasOnPages, LooksOn}
use Rattle.salt_rows.specs.Sides.{ArePages}
use Rattle.salt_rows.specs.Stores.{IsRowStore, StandsOnPages}
use Rattle.salt_rows.specs.declared.store.RowStore.{RowStore}
use Rattle.salt_values.specs.Value.{key_of}
use Rattle.salt_values.specs.declared.value.Value.{Value}
use Rattle.std.proofs.Common.{Bool, Err, IsTrue, List, None, Ok, OnErr, OnOk, Option, Result, Some, [], ap, append_assoc, arith, drop, false, get_or, inr, is_some, length, refl, subst, sym, take, true, ℕ, ◌+◌, ◌++◌, ◌<◌, ◌≡◌, ◌≤◌, ◌⊎◌, ◌∙◌, ◌∷◌}
use Rattle.std.proofs.lemmas.List.{append-nil, drop_all, drop_more, take_all}
use Rattle.std.specs.Result.{result_err}

-- WHAT A CALL ANSWERED

pub on_ok : {A E : Type 0} (r : Result A E) (P Q : Type 0) → (P → Q) → OnOk r P → OnOk r Q
on_ok (Ok x) P Q f p = f p
on_ok (Err e) P Q f p = tt

-- the same of what is kept where it went well
pub on_ok_kept : {A : Type 0} (r : Result A DiskErr) (K : Option DiskErr → Type 0) (P Q : Type 0) → K (result_err r) → (K None → P → Q) → OnOk r P → OnOk r Q
on_ok_kept (Ok x) K P Q k f p = f k p
on_ok_kept (Err e) K P Q k f p = tt

-- the page was framed, or the pool is as it was
pub left_by : {A E : Type 0} (r : Result A E) (S : Type 0) (F C : List TableRow → Type 0) → OnOk r ((rows : List TableRow) × F rows × C rows) → OnErr r (S ⊎ ((rows : List TableRow) × F rows)) → S ⊎ ((rows : List TableRow) × F rows)
left_by (Ok x) S F C ok err = inr (ok.0, ok.1)
left_by (Err e) S F C ok err = err

-- THE ROW OF A KEY

pub lacked : (row : Option (List Value)) → is_some row ≡ false → row ≡ None
lacked None h = refl
lacked (Some row) h = cc

module _ (d : View) (x : RowStore) (dev : ℕ) (named : List ℕ) (t : Tables) (is : IsRowStore d x dev named t) (told : IsTrue d.told) (key : Value) (old : RowsOf) where
  pub row_loaded : (page : ℕ) (low : page < length x.sides.items) (pool : Frames) (rows : List TableRow) → HasFramed d x.pool pool page (get_or x.sides.items page 0) rows rows
      → (row : Option (List Value)) (new : RowsOf) → IsRowFound old.table key rows row → is_some row ≡ true → new ≡ with_rows (row_list row) old → IsRowLoaded t key old new
  row_loaded page low pool rows framed None new found some came = cc
  row_loaded page low pool rows framed (Some row) new found some came = record {
    row = row;
    own = found_key old.table key rows row found;
    at = row_behind d x dev named t is page low pool rows framed old.table key told row found;
    came = came;
  }

  -- a range of one key
  pub one_loaded : (range : KeyRange) → point_of range ≡ Some key → (new : RowsOf) → IsRowLoaded t key old new → HasLoaded range t old new
  one_loaded range point new made =
      loaded_point range key (Some made.row) t old new point made.at
      (λ own same. ap key_of (sym (some_same made.row own same)) ∙ made.own) made.came

  pub none_loaded : (range : KeyRange) → point_of range ≡ Some key → page_of x.directory (place old.table key) ≡ None → HasLoaded range t old old
  none_loaded range point none =
      let has = is.is.told told in
      loaded_point range key None t old old point (sym (none_at x.directory has.pages t has.rows (place old.table key) none)) (λ own same. cc) (sym (with_none old))

-- ONE PAGE

module _ (d : View) (x : RowStore) (pages : List (List TableRow)) (on : HasOnPages d x pages) (dev : ℕ) (named : List ℕ) (t : Tables) (is : IsRowStore d x dev named t) (page : ℕ) (low : page < length x.sides.items)
    (pool : Frames) (rows : List TableRow) (framed : HasFramed d x.pool pool page (get_or x.sides.items page 0) rows rows) where
  -- what its frame shows are its rows
  pub rows_shown : IsTrue d.told → rows ≡ get_or pages page []
  rows_shown told = some_same rows (get_or pages page []) (sym (framed.shown told) ∙ shows_on (d.bytes x.pool.dev) x.pool x.sides.items pages (on told) is.is.kept.is_pool page low)

  -- and all pages have the same rows behind the look
  pub pages_behind : (e : View) → KeepsAll d e None → HasOnPages e (record x { pool = pool }) pages
  pages_behind e kept told = subst (λ (p : Frames). ArePages (e.bytes p.dev) p.frames.entries p.dirty.items x.sides.items pages) (sym framed.is)
      (subst (λ (bytes : List ℕ). ArePages bytes (with_frame x.pool page rows).frames.entries x.pool.dirty.items x.sides.items pages) (sym (kept.kept x.pool.dev (λ h. h)).bytes)
      (pages_framed (d.bytes x.pool.dev) x.pool is.is.kept.is_pool x.pool.dirty.items x.sides.items pages (on before) page rows (rows_shown before)))
    where
      before : IsTrue d.told
      before = sym kept.shape.told ∙ told

-- PAGE AFTER PAGE

-- So many pages were passed, from those marked the rows of the range were loaded, and all is as it was, but for frames.
pub record IsLoading (d0 d : View) (x0 x : RowStore) (range : KeyRange) (marks : List Bool) (start now : RowsOf) (n : ℕ) : Type 0 where
  pub same : LooksOn x0 x
  pub kept : KeepsAll d0 d None
  pub cause : HasCause d0 d None
  pub stands : (dev : ℕ) (named : List ℕ) (t : Tables) → IsRowStore d0 x0 dev named t → IsRowStore d x dev named t
  pub pages : (pages : List (List TableRow)) → HasOnPages d0 x0 pages → HasOnPages d x pages
  pub rows : (pages : List (List TableRow)) → HasOnPages d0 x0 pages → HaveOthersNone start.table range marks pages → IsTrue d0.told → now ≡ with_rows (rows_within start.table range (all_rows (take n pages))) start

pub looks_on : (a b c : RowStore) → LooksOn a b → LooksOn b c → LooksOn a c
looks_on a b c first second = record { directory = second.directory ∙ first.directory; sides = second.sides ∙ first.sides }

pub loading_begins : (d : View) (x : RowStore) (range : KeyRange) (marks : List Bool) (start : RowsOf) → IsLoading d d x x range marks start start 0
loading_begins d x range marks start = record {
  same = record { directory = refl; sides = refl };
  kept = keeps_same (λ _. ⊥) d;
  cause = cause_none d;
  stands = λ dev named t is. is;
  pages = λ pages on. on;
  rows = λ pages on none told. sym (with_none start);
}

module _ (d0 d : View) (x0 x : RowStore) (range : KeyRange) (marks : List Bool) (start now : RowsOf) (n : ℕ) (so : IsLoading d0 d x0 x range marks start now n) (count : length marks ≡ length x0.sides.items) (low : n < length marks) where
  pub still_stands : StandsOnPages d0 x0 → StandsOnPages d x
  still_stands s = record { dev = s.dev; named = s.named; t = s.t; is = so.stands s.dev s.named s.t s.is }

  pub page_there : n < length x.sides.items
  page_there = omega (arith, low, count, ap (λ s. length s.items) so.same.sides)

  -- as many pages as are marked or not
  within : (pages : List (List TableRow)) → HasOnPages d0 x0 pages → IsTrue d0.told → n < length pages
  within pages on told = omega (arith, low, count, (on told).count)

  -- a page is looked at
  pub loading_goes : (e : View) (y : RowStore) (new : RowsOf) → LooksOn x y → KeepsAll d e None → HasCause d e None
      → ((dev : ℕ) (named : List ℕ) (t : Tables) → IsRowStore d x dev named t → IsRowStore e y dev named t)
      → ((pages : List (List TableRow)) → HasOnPages d x pages → HasOnPages e y pages)
      → ((pages : List (List TableRow)) → HasOnPages d x pages → IsTrue d.told → new ≡ with_rows (rows_within now.table range (get_or pages n [])) now)
      → IsLoading d0 e x0 y range marks start new (n + 1)
  loading_goes e y new same kept cause stands on came = record {
    same = looks_on x0 x y so.same same;
    kept = keeps_on (λ _. ⊥) d0 d e None so.kept kept;
    cause = cause_on d0 d e None so.cause cause;
    stands = λ dev named t is. stands dev named t (so.stands dev named t is);
    pages = λ pages has. on pages (so.pages pages has);
    rows = λ pages has none told.
        let before = so.rows pages has none told in
        page_loaded start.table range pages start n (within pages has told) now new before
        (subst (λ u. new ≡ with_rows (rows_within u range (get_or pages n [])) now) (ap (λ (r : RowsOf). r.table) before) (came pages (so.pages pages has) (so.kept.shape.told ∙ told)));
  }

  -- or it is not marked
  pub loading_passes : get_or marks n false ≡ false → IsLoading d0 d x0 x range marks start now (n + 1)
  loading_passes unmarked = record {
    same = so.same;
    kept = so.kept;
    cause = so.cause;
    stands = so.stands;
    pages = so.pages;
    rows = λ pages has none told. page_passed start.table range pages start n (within pages has told) now (so.rows pages has none told) (none n (within pages has told) unmarked);
  }

-- all were passed
pub all_loaded : (d0 d : View) (x0 x : RowStore) (range : KeyRange) (marks : List Bool) (start now : RowsOf) (n : ℕ) → IsLoading d0 d x0 x range marks start now n → length marks ≡ length x0.sides.items → length marks ≤ n
    → (pages : List (List TableRow)) → HasOnPages d0 x0 pages → HaveOthersNone start.table range marks pages → IsTrue d0.told → now ≡ with_rows (rows_within start.table range (all_rows pages)) start
all_loaded d0 d x0 x range marks start now n so count end pages on none told =
    so.rows pages on none told ∙ ap (λ (ps : List (List TableRow)). with_rows (rows_within start.table range (all_rows ps)) start) (take_all n pages (omega (arith, end, count, (on told).count)))

-- ROW AFTER ROW

-- These are left of the rows that are seated so. Those before them were loaded, and all is as it was, but for frames.
pub record IsLoadingSeats (d0 d : View) (x0 x : RowStore) (start now : RowsOf) (all left : List Seat) : Type 0 where
  pub same : LooksOn x0 x
  pub kept : KeepsAll d0 d None
  pub cause : HasCause d0 d None
  pub stands : (dev : ℕ) (named : List ℕ) (t : Tables) → IsRowStore d0 x0 dev named t → IsRowStore d x dev named t
  pub table : now.table ≡ start.table
  pub seated : Every (IsSeated start.table x0.directory) left
  pub rows : (dev : ℕ) (named : List ℕ) (t : Tables) → IsRowStore d0 x0 dev named t → IsTrue d0.told
      → (more : List (List Value)) × (now ≡ with_rows more start) × ((behind : List (List Value)) → AreRowsAt start.table t left behind → AreRowsAt start.table t all (more ++ behind))

pub seats_begin : (d : View) (x : RowStore) (start : RowsOf) (all : List Seat) → Every (IsSeated start.table x.directory) all → IsLoadingSeats d d x x start start all all
seats_begin d x start all seated = record {
  same = record { directory = refl; sides = refl };
  kept = keeps_same (λ _. ⊥) d;
  cause = cause_none d;
  stands = λ dev named t is. is;
  table = refl;
  seated = seated;
  rows = λ dev named t is told. ([], sym (with_none start), λ behind are. are);
}

-- the next one, by its number
pub next_seat : (d0 d : View) (x0 x : RowStore) (start now : RowsOf) (all : List Seat) (i : ℕ) (s : Seat) → i < length all → s ≡ get_or all i s → IsLoadingSeats d0 d x0 x start now all (drop i all) → IsLoadingSeats d0 d x0 x start now all (s ∷ drop (i + 1) all)
next_seat d0 d x0 x start now all i s low is so = subst (IsLoadingSeats d0 d x0 x start now all) (drop_more all i s low ∙ ap (λ (k : Seat). k ∷ drop (i + 1) all) (sym is)) so

module _ (d0 d : View) (x0 x : RowStore) (start now : RowsOf) (all : List Seat) (s : Seat) (left : List Seat) (so : IsLoadingSeats d0 d x0 x start now all (s ∷ left)) where
  pub seats_stand : StandsOnPages d0 x0 → StandsOnPages d x
  seats_stand some = record { dev = some.dev; named = some.named; t = some.t; is = so.stands some.dev some.named some.t some.is }

  pub seat_there : page_of x.directory (place now.table s.key) ≡ Some s.page
  seat_there = (λ i. page_of (so.same.directory i) (place (so.table i) s.key)) ∙ so.seated.0

  pub seats_go : (e : View) (y : RowStore) (new : RowsOf) → LooksOn x y → KeepsAll d e None → HasCause d e None
      → ((dev : ℕ) (named : List ℕ) (t : Tables) → IsRowStore d x dev named t → IsRowStore e y dev named t)
      → new.table ≡ now.table
      → ((dev : ℕ) (named : List ℕ) (t : Tables) → IsRowStore d x dev named t → IsTrue d.told → IsRowLoaded t s.key now new)
      → IsLoadingSeats d0 e x0 y start new all left
  seats_go e y new same kept cause stands table row = record {
    same = looks_on x0 x y so.same same;
    kept = keeps_on (λ _. ⊥) d0 d e None so.kept kept;
    cause = cause_on d0 d e None so.cause cause;
    stands = λ dev named t is. stands dev named t (so.stands dev named t is);
    table = table ∙ so.table;
    seated = so.seated.1;
    rows = λ dev named t is told.
        let before = so.rows dev named t is told in
        let made = row dev named t (so.stands dev named t is) (so.kept.shape.told ∙ told) in
        let at : Some made.row ≡ row_at (place start.table s.key) t = made.at ∙ ap (λ u. row_at (place u s.key) t) so.table in (
          before.0 ++ made.row ∷ [],
          made.came ∙ ap (λ (r : RowsOf). with_rows (made.row ∷ []) r) before.1 ∙ with_twice before.0 (made.row ∷ []) start,
          λ behind are. subst (AreRowsAt start.table t all) (sym (append_assoc before.0 (made.row ∷ []) behind)) (before.2 (made.row ∷ behind) (made.own, at, are)),
        );
  }

-- none are left
pub seats_loaded : (d0 d : View) (x0 x : RowStore) (start now : RowsOf) (all : List Seat) (i : ℕ) → length all ≤ i → IsLoadingSeats d0 d x0 x start now all (drop i all) → (dev : ℕ) (named : List ℕ) (t : Tables) → IsRowStore d0 x0 dev named t → IsTrue d0.told
    → (range : KeyRange) → all ≡ seats_in start.table range x0.directory → HasLoaded range t start now
seats_loaded d0 d x0 x start now all i end so dev named t is told range whole =
    let done = (subst (IsLoadingSeats d0 d x0 x start now all) (drop_all i all end) so).rows dev named t is told in
    loaded_seats range x0.directory t start now done.0 (is.is.told told).rows.keys
    (subst (λ (seats : List Seat). AreRowsAt start.table t seats done.0) whole (subst (AreRowsAt start.table t all) (append-nil done.0) (done.2 [] tt))) done.1

-- ALL ROWS OF A RANGE

module _ (d : View) (x : RowStore) (dev : ℕ) (named : List ℕ) (t : Tables) (is : IsRowStore d x dev named t) (told : IsTrue d.told) where
  abbrev pub own_pages : List (List TableRow)
  own_pages = (is.is.told told).pages

  pub on_own : HasOnPages d x own_pages
  on_own _ = subst (λ n. ArePages (d.bytes n) x.pool.frames.entries x.pool.dirty.items x.sides.items own_pages) (sym is.is.device) (is.is.told told).are

  pub marked_none : (u : ℕ) (range : KeyRange) (marks : List Bool) → length marks ≡ length x.sides.items → HaveAllOf u range x.directory marks → HaveOthersNone u range marks own_pages
  marked_none u range marks count all =
      let has = is.is.told told in
      others_none x.directory has.pages t has.rows u range marks (count ∙ sym has.are.count) all

  pub each_marked : (u : ℕ) (range : KeyRange) (marks : List Bool) → length marks ≡ length x.sides.items → ((i : ℕ) → i < length marks → get_or marks i false ≡ true) → HaveOthersNone u range marks own_pages
  each_marked u range marks count all = all_marked u range marks own_pages (count ∙ sym (is.is.told told).are.count) all

  pub range_loaded : (range : KeyRange) (old new : RowsOf) → new ≡ with_rows (rows_within old.table range (all_rows own_pages)) old → HasLoaded range t old new
  range_loaded range old new came =
      let has = is.is.told told in
      loaded_range x.directory has.pages t has.rows range old new came

  -- as many came as the directory has places
  pub range_counted : (range : KeyRange) (old new : RowsOf) → HasLoaded range t old new → length new.rows ≡ length old.rows + count_in old.table range x.directory
  range_counted range old new has = loaded_count range x.directory t old new (is.is.told told).rows.keys has
