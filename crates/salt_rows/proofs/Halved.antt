-- A store behind a page that was split.
use Rattle.salt_bytes.specs.Page.{TableRow}
use Rattle.salt_directory.proofs.Changed.{page_more}
use Rattle.salt_directory.proofs.Halved.{halved}
use Rattle.salt_directory.specs.Directories.{HasPagesBelow}
use Rattle.salt_directory.specs.Halves.{HaveGone, IsHalved, placed_on}
use Rattle.salt_directory.specs.Pages.{AreRowsOf, free_on}
use Rattle.salt_directory.specs.declared.halving.Half.{Half}
use Rattle.salt_disk.specs.Disks.{KeepsAll, View}
use Rattle.salt_model.specs.Tables.{Tables, place_cmp}
use Rattle.salt_model.specs.declared.places.Place.{Place}
use Rattle.salt_pool.specs.Dirtied.{put_dirty}
use Rattle.salt_pool.specs.Pools.{IsPool, with_dirty, with_frame}
use Rattle.salt_pool.specs.declared.places.Dirty.{Dirty}
use Rattle.salt_rows.proofs.Changing.{below_put, have_as, kept_as}
use Rattle.salt_rows.proofs.Kept.{kept_directory, kept_framed, kept_fresh, kept_marked, pointed_more}
use Rattle.salt_rows.proofs.Reading.{shown_rows}
use Rattle.salt_rows.proofs.Replaced.{framed_pool, marked_pool, same_entries, shown_before}
use Rattle.salt_rows.proofs.Standing.{pages_fresh, pages_marked}
use Rattle.salt_rows.specs.Changing.{IsHalfPut, IsMarked}
use Rattle.salt_rows.specs.Frames.{Frames, HasFramed}
use Rattle.salt_rows.specs.Sides.{ArePages, spare_side}
use Rattle.salt_rows.specs.Stores.{AreKept, HavePages, IsKept, IsRowStore, IsStanding}
use Rattle.salt_rows.specs.declared.store.RowStore.{RowStore}
use Rattle.std.proofs.Common.{Bool, IsTrue, List, None, [], ap, arith, cond, false, get_or, length, nat_eq, set, subst, sym, true, ℕ, ◌+◌, ◌++◌, ◌<◌, ◌≡◌, ◌≤◌, ◌∙◌, ◌∷◌}
use Rattle.std.proofs.lemmas.List.{length-set, length_push, map-set, map_push}
use Rattle.std.specs.BTreeMap.{insert_entry}
use Rattle.std.specs.Prelude.{nat_lt}

-- places that come to a page below the last one
below_placed : (page n : ℕ) (qs : List Place) (directory : List (Place × ℕ)) → page < n → HasPagesBelow directory n → HasPagesBelow (placed_on page qs directory) n
below_placed page n [] directory low below = below
below_placed page n (q ∷ qs) directory low below = below_placed page n qs (insert_entry place_cmp directory q page) low (below_put directory q page n low below)

-- one page more is to be written
pub put_most : (k : Dirty) (ds : List Dirty) → length (put_dirty k ds) ≤ length ds + 1
put_most k [] = omega arith
put_most k (e ∷ ds) = by (nat_lt e.page k.page) (nat_eq e.page k.page) (put_most k ds)
  where
    by : (a b : Bool) → length (put_dirty k ds) ≤ length ds + 1 → length (cond a (e ∷ put_dirty k ds) (cond b (k ∷ ds) (k ∷ e ∷ ds))) ≤ length (e ∷ ds) + 1
    by true b most = omega (arith, most)
    by false true most = omega arith
    by false false most = omega arith

-- ON A NEW PAGE

pub half_made : (half : Half) (x z : RowStore) (page : ℕ) → page ≡ length x.sides.items → z.pool ≡ with_dirty (with_frame x.pool page half.page) (record { page = page; side = 0 }) → IsPool z.pool
    → z.sides.items ≡ x.sides.items ++ 0 ∷ [] → z.space ≡ x.space ++ half.free ∷ [] → z.named ≡ x.named → z.directory ≡ placed_on page half.places.items x.directory → IsHalfPut half x z
half_made half x z page at pool is_pool sides space names entries = record {
  pool = pool ∙ λ i. with_dirty (with_frame x.pool (at i) half.page) (record { page = at i; side = 0 });
  is_pool = is_pool;
  sides = sides;
  space = space;
  named = names;
  directory = entries ∙ ap (λ n. placed_on n half.places.items x.directory) at;
}

module _ (d e : View) (x : RowStore) (pool : Frames) (dev : ℕ) (named : List ℕ) (t : Tables) (is : IsRowStore d x dev named t) (kept : KeepsAll d e None) (page side : ℕ) (low : page < length x.sides.items) (at : side ≡ get_or x.sides.items page 0)
    (before rows : List TableRow) (framed : HasFramed d x.pool pool page side before rows) (half : Half) (split : IsHalved before rows half) (y : RowStore) (marked : IsMarked (record x { pool = pool }) y page half.left) where
  abbrev spare : ℕ
  spare = spare_side x.named page

  abbrev pool_marked : Frames
  pool_marked = with_dirty (with_frame x.pool page rows) (record { page = page; side = spare })

  is_marked : y.pool ≡ pool_marked
  is_marked = marked_pool d e x pool dev named t is kept page side low at before rows framed half.left y marked

  is_entries : y.directory ≡ x.directory
  is_entries = same_entries d e x pool dev named t is kept page side low at before rows framed half.left y marked

  kept_so : AreKept pool_marked x.named (set x.sides.items page spare) (set x.space page half.left) x.directory
  kept_so =
      kept_marked (with_frame x.pool page rows) x.named x.sides.items x.space x.directory
      (kept_framed x.pool x.named x.sides.items x.space x.directory is.is.kept page rows low (framed_pool d e x pool dev named t is kept page side low at before rows framed half.left y marked))
      page half.left low (subst (λ (p : Frames). IsPool p) is_marked marked.is_pool)

  pub kept_between : IsKept y
  kept_between =
      subst (λ (D : List (Place × ℕ)). AreKept y.pool y.named y.sides.items y.space D) (sym is_entries)
      (kept_as pool_marked y.pool x.named y.named (set x.sides.items page spare) y.sides.items (set x.space page half.left) y.space x.directory (sym is_marked) (sym marked.named) (sym marked.sides) (sym marked.space) kept_so)

  -- and one more may be
  pub fewer_between : length x.pool.dirty.items + 2 ≤ 64 → length y.pool.dirty.items < 64
  fewer_between room = subst (λ (p : Frames). length p.dirty.items < 64) (sym is_marked) (omega (arith, room, put_most (record { page = page; side = spare }) x.pool.dirty.items))

  module _ (z : RowStore) (put : IsHalfPut half y z) where
    abbrev sides_now : List ℕ
    sides_now = set x.sides.items page spare

    abbrev last : ℕ
    last = length sides_now

    abbrev pool_now : Frames
    pool_now = with_dirty (with_frame pool_marked last half.page) (record { page = last; side = 0 })

    abbrev entries_now : List (Place × ℕ)
    entries_now = placed_on last half.places.items x.directory

    is_pool_now : z.pool ≡ pool_now
    is_pool_now = put.pool ∙ λ i. with_dirty (with_frame (is_marked i) (length (marked.sides i)) half.page) (record { page = length (marked.sides i); side = 0 })

    is_sides : z.sides.items ≡ sides_now ++ 0 ∷ []
    is_sides = put.sides ∙ ap (λ (l : List ℕ). l ++ 0 ∷ []) marked.sides

    is_space : z.space ≡ set x.space page half.left ++ half.free ∷ []
    is_space = put.space ∙ ap (λ (l : List ℕ). l ++ half.free ∷ []) marked.space

    is_now : z.directory ≡ entries_now
    is_now = put.directory ∙ λ i. placed_on (length (marked.sides i)) half.places.items (is_entries i)

    count : last ≡ length x.sides.items
    count = length-set x.sides.items page spare

    kept_now : IsKept z
    kept_now =
        subst (λ (D : List (Place × ℕ)). AreKept z.pool z.named z.sides.items z.space D) (sym is_now)
        (kept_as pool_now z.pool x.named z.named (sides_now ++ 0 ∷ []) z.sides.items (set x.space page half.left ++ half.free ∷ []) z.space entries_now (sym is_pool_now) (sym (put.named ∙ marked.named)) (sym is_sides) (sym is_space)
        (kept_directory pool_now x.named (sides_now ++ 0 ∷ []) (set x.space page half.left ++ half.free ∷ []) x.directory entries_now
        (kept_fresh pool_marked x.named sides_now (set x.space page half.left) x.directory kept_so half.page half.free (subst (λ (p : Frames). IsPool p) is_pool_now put.is_pool))
        (below_placed last (length (sides_now ++ 0 ∷ [])) half.places.items x.directory (omega (arith, length_push sides_now 0))
        (pointed_more x.directory (length x.sides.items) (length (sides_now ++ 0 ∷ [])) (omega (arith, count, length_push sides_now 0)) is.is.kept.pointed))))

    told_so : IsTrue d.told → HavePages (e.bytes dev) z.pool z.sides.items z.space z.directory t
    told_so told =
        let has = is.is.told told in
        let there : page < length has.pages = omega (arith, low, has.are.count) in
        let pages = set has.pages page rows in
        let own : before ≡ get_or has.pages page [] = shown_rows d x dev named t is.is page low told before (shown_before d e x pool dev named t is kept page side low at before rows framed told) in
        let are : ArePages (d.bytes dev) pool_marked.frames.entries pool_marked.dirty.items sides_now pages = pages_marked (d.bytes dev) x.pool is.is.kept.is_pool x.pool.dirty.items x.sides.items has.pages has.are page spare rows low in
        let more : AreRowsOf x.directory (has.pages ++ [] ∷ []) t = page_more x.directory has.pages t has.rows (λ p i found. omega (arith, is.is.kept.pointed p i found, has.are.count)) in
        let gone : HaveGone half.places.items (get_or has.pages page []) [] rows half.page = subst (λ (l : List TableRow). HaveGone half.places.items l [] rows half.page) own split.gone in
        let moved : AreRowsOf (placed_on (length has.pages) half.places.items x.directory) (pages ++ half.page ∷ []) t = halved half.places.items x.directory has.pages t page [] rows half.page there more gone in
        subst (λ (D : List (Place × ℕ)). HavePages (e.bytes dev) z.pool z.sides.items z.space D t) (sym is_now)
        (subst (λ (bytes : List ℕ). HavePages bytes z.pool z.sides.items z.space entries_now t) (sym (kept.kept dev (λ h. h)).bytes)
        (have_as (d.bytes dev) pool_now z.pool (sides_now ++ 0 ∷ []) z.sides.items (set x.space page half.left ++ half.free ∷ []) z.space entries_now t (sym is_pool_now) (sym is_sides) (sym is_space) (record {
          pages = pages ++ half.page ∷ [];
          are = pages_fresh (d.bytes dev) pool_marked kept_so.is_pool pool_marked.dirty.items sides_now pages are 0 half.page;
          rows = subst (λ n. AreRowsOf (placed_on n half.places.items x.directory) (pages ++ half.page ∷ []) t) (has.are.count ∙ sym count) moved;
          free = (λ i. set (has.free i) page (split.left i) ++ split.free i ∷ []) ∙ (λ i. sym (map-set free_on has.pages page rows) i ++ free_on half.page ∷ []) ∙ sym (map_push free_on pages half.page);
          long = has.long;
        })))

    pub standing_halved : IsStanding e z dev named t
    standing_halved = record {
      device = ap (λ (p : Frames). p.dev) is_pool_now ∙ is.is.device;
      known = omega (arith, is.is.known, kept.shape.count);
      names = put.named ∙ marked.named ∙ is.is.names;
      kept = kept_now;
      told = λ told. told_so (sym kept.shape.told ∙ told);
    }
