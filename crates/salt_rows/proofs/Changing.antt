-- A store behind one change: a row replaced on its page, gone, put beside others, or put on a new page.
use Rattle.salt_values.specs.Value.{key_of}
use Rattle.salt_bytes.specs.Page.{TableRow}
use Rattle.salt_checkpoint.proofs.Moved.{place_of}
use Rattle.salt_disk.specs.Disks.{SameShape, View}
use Rattle.salt_model.specs.Tables.{Tables, place_cmp, put_row, remove_at, row_at}
use Rattle.salt_model.specs.declared.places.Place.{Place}
use Rattle.salt_pool.specs.Pools.{IsPool, with_dirty, with_frame}
use Rattle.salt_directory.proofs.Alike.{own_place}
use Rattle.salt_directory.proofs.Changed.{gone_rows, none_at, page_more, put_rows, replaced_rows}
use Rattle.salt_rows.proofs.Kept.{kept_directory, kept_framed, kept_fresh, kept_marked, pointed_more}
use Rattle.salt_directory.proofs.Keys.{page_put}
use Rattle.salt_rows.proofs.Reading.{row_place, shown_rows}
use Rattle.salt_rows.proofs.Standing.{pages_fresh, pages_marked}
use Rattle.salt_directory.specs.Directories.{HasPagesBelow}
use Rattle.salt_directory.specs.Pages.{AreRowsOf, free_on, page_of}
use Rattle.salt_directory.specs.Rows.{IsExchanged, IsWithout, one_row}
use Rattle.salt_rows.specs.Sides.{spare_side}
use Rattle.salt_rows.specs.Frames.{Frames, shown_page}
use Rattle.salt_rows.specs.Stores.{AreKept, HavePages, IsStanding}
use Rattle.salt_rows.specs.declared.store.RowStore.{RowStore}
use Rattle.salt_stands.proofs.Places.{equal_is, place_same, row_at_set, same_tables}
use Rattle.salt_values.specs.declared.value.Value.{Value}
use Rattle.std.proofs.Common.{Bool, IsTrue, List, None, Option, Some, [], ap, arith, cond, false, get_or, length, refl, set, subst, sym, true, ℕ, ◌++◌, ◌<◌, ◌≡◌, ◌∙◌, ◌∷◌}
use Rattle.std.proofs.lemmas.List.{get_or_push, length-set, length_push, map-set, map_push, set_at}
use Rattle.std.specs.BTreeMap.{insert_entry, is_at}
use Rattle.std.specs.List.{remove}
use Rattle.std.specs.Map.{remove_entry}
use Rattle.std.specs.Ordering.{is_eq}
use Rattle.std.specs.Prelude.{slice_get}

-- THE SAME, by equal parts

pub kept_as : (p p' : Frames) (n n' s s' f f' : List ℕ) (D : List (Place × ℕ)) → p ≡ p' → n ≡ n' → s ≡ s' → f ≡ f' → AreKept p n s f D → AreKept p' n' s' f' D
kept_as p p' n n' s s' f f' D ep en es ef h =
    subst (λ (k : List ℕ). AreKept p' n' s' k D) ef
    (subst (λ (k : List ℕ). AreKept p' n' k f D) es
    (subst (λ (k : List ℕ). AreKept p' k s f D) en
    (subst (λ (k : Frames). AreKept k n s f D) ep h)))

pub have_as : (bytes : List ℕ) (p p' : Frames) (s s' f f' : List ℕ) (D : List (Place × ℕ)) (t : Tables) → p ≡ p' → s ≡ s' → f ≡ f' → HavePages bytes p s f D t → HavePages bytes p' s' f' D t
have_as bytes p p' s s' f f' D t ep es ef h =
    subst (λ (k : List ℕ). HavePages bytes p' s' k D t) ef
    (subst (λ (k : List ℕ). HavePages bytes p' k f D t) es
    (subst (λ (k : Frames). HavePages bytes k s f D t) ep h))

-- TABLES

-- where no row stands at a place, nothing is removed there
pub none_removed : (q : Place) (t : Tables) → row_at q t ≡ None → remove_at q t ≡ t
none_removed q t none = same_tables (remove_at q t) t (λ p. row_at_set p q None t ∙ by p (is_eq (place_cmp p q)) refl)
  where
    by : (p : Place) (b : Bool) → is_eq (place_cmp p q) ≡ b → cond b None (row_at p t) ≡ row_at p t
    by p false e = refl
    by p true e = sym (ap (λ (k : Place). row_at k t) (place_same p q (equal_is (place_cmp p q) e)) ∙ none)

pub gone_there : (q : Place) (t : Tables) → row_at q (remove_at q t) ≡ None
gone_there q t = row_at_set q q None t ∙ ap (λ b. cond b None (row_at q t)) (own_place q)

-- a row that is put where one was taken away
pub put_again : (q : Place) (row : List Value) (t : Tables) → put_row q row (remove_at q t) ≡ put_row q row t
put_again q row t = same_tables (put_row q row (remove_at q t)) (put_row q row t)
    (λ p. row_at_set p q (Some row) (remove_at q t) ∙ ap (λ o. cond (is_eq (place_cmp p q)) (Some row) o) (row_at_set p q None t) ∙ by (is_eq (place_cmp p q)) (row_at p t) ∙ sym (row_at_set p q (Some row) t))
  where
    by : (b : Bool) (o : Option (List Value)) → cond b (Some row) (cond b None o) ≡ cond b (Some row) o
    by true o = refl
    by false o = refl

-- DIRECTORIES

pub below_put : (directory : List (Place × ℕ)) (q : Place) (page n : ℕ) → page < n → HasPagesBelow directory n → HasPagesBelow (insert_entry place_cmp directory q page) n
below_put directory q page n low below p i found = by (is_eq (place_cmp p q)) (sym (page_put p q page directory) ∙ found)
  where
    by : (b : Bool) → cond b (Some page) (page_of directory p) ≡ Some i → i < n
    by true h = subst (λ k. k < n) same low
      where
        same : page ≡ i
        same = cc
    by false h = below p i h

pub below_gone : (before directory : List (Place × ℕ)) (q : Place) (n : ℕ) → ((p : Place) → page_of directory p ≡ cond (is_eq (place_cmp q p)) None (page_of before p)) → HasPagesBelow before n → HasPagesBelow directory n
below_gone before directory q n looked below p i found = by (is_eq (place_cmp q p)) (sym (looked p) ∙ found)
  where
    by : (b : Bool) → cond b None (page_of before p) ≡ Some i → i < n
    by true h = cc
    by false h = below p i h

-- A STORE whose page has other rows, and is marked
module _ (d e : View) (x : RowStore) (dev : ℕ) (named : List ℕ) (t : Tables) (is : IsStanding d x dev named t) (shape : SameShape d e) (same : e.bytes dev ≡ d.bytes dev) where
  module _ (page : ℕ) (low : page < length x.sides.items) (before rows : List TableRow) (free : ℕ) (z : RowStore)
      (pool : z.pool ≡ with_dirty (with_frame x.pool page rows) (record { page = page; side = spare_side x.named page }))
      (sides : z.sides.items ≡ set x.sides.items page (spare_side x.named page))
      (space : z.space ≡ set x.space page free)
      (names : z.named ≡ x.named)
      (framed : IsPool (with_frame x.pool page rows)) (is_pool : IsPool z.pool)
      (below : HasPagesBelow z.directory (length x.sides.items))
      (shown : IsTrue d.told → shown_page (d.bytes x.pool.dev) x.pool.frames.entries page (get_or x.sides.items page 0) ≡ Some before)
      (own : free ≡ free_on rows) (t' : Tables)
      (change : (pages : List (List TableRow)) → AreRowsOf x.directory pages t → page < length pages → before ≡ get_or pages page [] → AreRowsOf z.directory (set pages page rows) t') where
    made : Frames
    made = with_dirty (with_frame x.pool page rows) (record { page = page; side = spare_side x.named page })

    kept : AreKept z.pool z.named z.sides.items z.space z.directory
    unfolding made
    kept =
        kept_as made z.pool x.named z.named (set x.sides.items page (spare_side x.named page)) z.sides.items (set x.space page free) z.space z.directory (sym pool) (sym names) (sym sides) (sym space)
        (kept_directory made x.named (set x.sides.items page (spare_side x.named page)) (set x.space page free) x.directory z.directory
        (kept_marked (with_frame x.pool page rows) x.named x.sides.items x.space x.directory (kept_framed x.pool x.named x.sides.items x.space x.directory is.kept page rows low framed) page free low (subst (λ (p : Frames). IsPool p) pool is_pool))
        (pointed_more z.directory (length x.sides.items) (length (set x.sides.items page (spare_side x.named page))) (omega (arith, length-set x.sides.items page (spare_side x.named page))) below))

    told_so : IsTrue d.told → HavePages (e.bytes dev) z.pool z.sides.items z.space z.directory t'
    unfolding made
    told_so told =
        let has = is.told told in
        let there : page < length has.pages = omega (arith, low, has.are.count) in
        subst (λ (bytes : List ℕ). HavePages bytes z.pool z.sides.items z.space z.directory t') (sym same)
        (have_as (d.bytes dev) made z.pool (set x.sides.items page (spare_side x.named page)) z.sides.items (set x.space page free) z.space z.directory t' (sym pool) (sym sides) (sym space) (record {
          pages = set has.pages page rows;
          are = pages_marked (d.bytes dev) x.pool is.kept.is_pool x.pool.dirty.items x.sides.items has.pages has.are page (spare_side x.named page) rows low;
          rows = change has.pages has.rows there (shown_rows d x dev named t is page low told before (shown told));
          free = (λ i. set (has.free i) page (own i)) ∙ sym (map-set free_on has.pages page rows);
          long = has.long;
        }))

    pub standing_marked : IsStanding e z dev named t'
    standing_marked = record {
      device = ap (λ (p : Frames). p.dev) pool ∙ is.device;
      known = omega (arith, is.known, shape.count);
      names = names ∙ is.names;
      kept = kept;
      told = λ told. told_so (sym shape.told ∙ told);
    }

-- WHAT ROWS BECOME

module _ (directory : List (Place × ℕ)) (pages : List (List TableRow)) (t : Tables) (are : AreRowsOf directory pages t) (page : ℕ) (low : page < length pages) (q : Place) where
  -- the row of q is replaced by another one of its key
  pub replaced : (before rows : List TableRow) (row : List Value) → before ≡ get_or pages page [] → page_of directory q ≡ Some page → key_of row ≡ q.key
      → IsExchanged q.table q.key row before rows → AreRowsOf directory (set pages page rows) (put_row q row t)
  replaced before rows row same placed key done =
      let own = get_or pages page [] in
      let out = done.others in
      let there : slice_get own out.at ≡ Some out.row = subst (λ (l : List TableRow). slice_get l out.at ≡ Some out.row) same out.there in
      let s : TableRow = record { table = q.table; row = row } in
      let r_place : place_of out.row ≡ q = row_place q.table q.key out.row out.of in
      let s_place : place_of s ≡ q = row_place q.table q.key s (refl, key) in
      let others : remove own out.at ≡ done.front ++ done.back = sym (out.is ∙ ap (λ (l : List TableRow). remove l out.at) same) in
      subst (λ (l : List TableRow). AreRowsOf directory (set pages page l) (put_row q row t)) (sym done.is)
      (subst (λ (k : Place). AreRowsOf directory (set pages page (done.front ++ s ∷ done.back)) (put_row k row t)) r_place
      (replaced_rows directory pages t are page low out.at out.row there s (s_place ∙ sym r_place) (ap (page_of directory) r_place ∙ placed) done.front done.back others))

  -- it is gone
  pub gone : (before rows : List TableRow) (directory' : List (Place × ℕ)) → before ≡ get_or pages page [] → IsWithout q.table q.key before rows
      → directory' ≡ remove_entry (is_at (place_cmp q)) directory → ((p : Place) → page_of directory' p ≡ cond (is_eq (place_cmp q p)) None (page_of directory p))
      → AreRowsOf directory' (set pages page rows) (remove_at q t)
  gone before rows directory' same out removed looked =
      let own = get_or pages page [] in
      let there : slice_get own out.at ≡ Some out.row = subst (λ (l : List TableRow). slice_get l out.at ≡ Some out.row) same out.there in
      let r_place : place_of out.row ≡ q = row_place q.table q.key out.row out.of in
      let rows_are : rows ≡ remove own out.at = out.is ∙ ap (λ (l : List TableRow). remove l out.at) same in
      subst (λ (l : List TableRow). AreRowsOf directory' (set pages page l) (remove_at q t)) (sym rows_are)
      (subst (λ (k : Place). AreRowsOf directory' (set pages page (remove own out.at)) (remove_at k t)) r_place
      (gone_rows directory pages t are page low out.at out.row there directory'
      (removed ∙ ap (λ (k : Place). remove_entry (is_at (place_cmp k)) directory) (sym r_place))
      (λ p. looked p ∙ ap (λ (k : Place). cond (is_eq (place_cmp k p)) None (page_of directory p)) (sym r_place))))

  -- a row is put where there is none
  pub put_beside : (before rows : List TableRow) (row : List Value) → before ≡ get_or pages page [] → key_of row ≡ q.key → row_at q t ≡ None → rows ≡ before ++ one_row q.table (Some row)
      → AreRowsOf (insert_entry place_cmp directory q page) (set pages page rows) (put_row q row t)
  put_beside before rows row same key none is =
      let own = get_or pages page [] in
      let s : TableRow = record { table = q.table; row = row } in
      let s_place : place_of s ≡ q = row_place q.table q.key s (refl, key) in
      let rows_are : rows ≡ own ++ s ∷ [] = is ∙ ap (λ (l : List TableRow). l ++ s ∷ []) same in
      subst (λ (l : List TableRow). AreRowsOf (insert_entry place_cmp directory q page) (set pages page l) (put_row q row t)) (sym rows_are)
      (subst (λ (k : Place). AreRowsOf (insert_entry place_cmp directory k page) (set pages page (own ++ s ∷ [])) (put_row k row t)) s_place
      (put_rows directory pages t are page low s (ap (λ (k : Place). row_at k t) s_place ∙ none)))

-- A NEW PAGE
module _ (d : View) (x : RowStore) (dev : ℕ) (named : List ℕ) (t : Tables) (is : IsStanding d x dev named t) where
  module _ (q : Place) (row : List Value) (rows : List TableRow) (free : ℕ) (z : RowStore) (key : key_of row ≡ q.key) (none : row_at q t ≡ None) (made_of : rows ≡ one_row q.table (Some row)) (own : free ≡ free_on rows)
      (pool : z.pool ≡ with_dirty (with_frame x.pool (length x.sides.items) rows) (record { page = length x.sides.items; side = 0 }))
      (sides : z.sides.items ≡ x.sides.items ++ 0 ∷ [])
      (space : z.space ≡ x.space ++ free ∷ [])
      (names : z.named ≡ x.named)
      (entries : z.directory ≡ insert_entry place_cmp x.directory q (length x.sides.items))
      (is_pool : IsPool z.pool) where
    made_fresh : Frames
    made_fresh = with_dirty (with_frame x.pool (length x.sides.items) rows) (record { page = length x.sides.items; side = 0 })

    kept_now : AreKept z.pool z.named z.sides.items z.space z.directory
    unfolding made_fresh
    kept_now =
        kept_as made_fresh z.pool x.named z.named (x.sides.items ++ 0 ∷ []) z.sides.items (x.space ++ free ∷ []) z.space z.directory (sym pool) (sym names) (sym sides) (sym space)
        (kept_directory made_fresh x.named (x.sides.items ++ 0 ∷ []) (x.space ++ free ∷ []) x.directory z.directory
        (kept_fresh x.pool x.named x.sides.items x.space x.directory is.kept rows free (subst (λ (p : Frames). IsPool p) pool is_pool))
        (subst (λ (D : List (Place × ℕ)). HasPagesBelow D (length (x.sides.items ++ 0 ∷ []))) (sym entries)
        (below_put x.directory q (length x.sides.items) (length (x.sides.items ++ 0 ∷ [])) (omega (arith, length_push x.sides.items 0)) (pointed_more x.directory (length x.sides.items) (length (x.sides.items ++ 0 ∷ [])) (omega (arith, length_push x.sides.items 0)) is.kept.pointed))))

    told_fresh : IsTrue d.told → HavePages (d.bytes dev) z.pool z.sides.items z.space z.directory (put_row q row t)
    unfolding made_fresh
    told_fresh told =
        let has = is.told told in
        let wide = has.pages ++ [] ∷ [] in
        let count : length has.pages ≡ length x.sides.items = has.are.count in
        let more : AreRowsOf x.directory wide t = page_more x.directory has.pages t has.rows (λ p i found. omega (arith, is.kept.pointed p i found, count)) in
        let empty : [] ≡ get_or wide (length x.sides.items) [] = sym (get_or_push has.pages [] [] (length x.sides.items) count) in
        let put = put_beside x.directory wide t more (length x.sides.items) (omega (arith, count, length_push has.pages [])) q [] rows row empty key none made_of in
        have_as (d.bytes dev) made_fresh z.pool (x.sides.items ++ 0 ∷ []) z.sides.items (x.space ++ free ∷ []) z.space z.directory (put_row q row t) (sym pool) (sym sides) (sym space) (record {
          pages = has.pages ++ rows ∷ [];
          are = pages_fresh (d.bytes dev) x.pool is.kept.is_pool x.pool.dirty.items x.sides.items has.pages has.are 0 rows;
          rows = subst (λ (D : List (Place × ℕ)). AreRowsOf D (has.pages ++ rows ∷ []) (put_row q row t)) (sym entries)
              (subst (λ (ps : List (List TableRow)). AreRowsOf (insert_entry place_cmp x.directory q (length x.sides.items)) ps (put_row q row t)) (set_at has.pages [] [] rows (length x.sides.items) count) put);
          free = (λ i. has.free i ++ own i ∷ []) ∙ sym (map_push free_on has.pages rows);
          long = has.long;
        })

    pub standing_fresh : IsStanding d z dev named (put_row q row t)
    standing_fresh = record {
      device = ap (λ (p : Frames). p.dev) pool ∙ is.device;
      known = is.known;
      names = names ∙ is.names;
      kept = kept_now;
      told = told_fresh;
    }

-- NOTHING TO DO

-- a place that the directory lacks
pub store_without : (d : View) (x : RowStore) (dev : ℕ) (named : List ℕ) (t : Tables) (q : Place) → IsStanding d x dev named t → page_of x.directory q ≡ None → IsStanding d x dev named (remove_at q t)
store_without d x dev named t q is lacks = record {
  device = is.device;
  known = is.known;
  names = is.names;
  kept = is.kept;
  told = λ told.
      let has = is.told told in
      subst (λ (u : Tables). HavePages (d.bytes dev) x.pool x.sides.items x.space x.directory u) (sym (none_removed q t (none_at x.directory has.pages t has.rows q lacks))) has;
}
