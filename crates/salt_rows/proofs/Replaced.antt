-- A store behind a page on which a row was replaced or put, or from which it is gone.
use Rattle.salt_bytes.specs.Page.{TableRow}
use Rattle.salt_directory.specs.Bytes.{row_bytes}
use Rattle.salt_directory.specs.Directories.{HasPagesBelow}
use Rattle.salt_directory.specs.Pages.{AreRowsOf, free_on, page_of}
use Rattle.salt_directory.specs.Rows.{IsExchanged, IsPut, IsReplaced, IsRowFound}
use Rattle.salt_directory.specs.Space.{HasRoom}
use Rattle.salt_directory.specs.declared.page.Replaced.TheVariants.{Gone, Put}
use Rattle.salt_disk.specs.Disks.{KeepsAll, View}
use Rattle.salt_gatelog.proofs.Entries.{not_told}
use Rattle.salt_model.specs.Tables.{Tables, place_cmp, put_row, remove_at, row_at, set_row}
use Rattle.salt_model.specs.declared.places.Place.{Place}
use Rattle.salt_pages.specs.Pages.{used_by}
use Rattle.salt_pool.specs.Pools.{IsPool, with_dirty, with_frame}
use Rattle.salt_rows.proofs.Changing.{below_gone, below_put, gone, put_beside, replaced, standing_marked}
use Rattle.salt_rows.proofs.Reading.{found_row_there, shown_rows}
use Rattle.salt_rows.specs.Changing.{IsMarked, NamesKey}
use Rattle.salt_rows.specs.Frames.{Frames, HasFramed, shown_page}
use Rattle.salt_rows.specs.Sides.{spare_side}
use Rattle.salt_rows.specs.Stores.{IsRowStore, IsStanding}
use Rattle.salt_rows.specs.declared.store.RowStore.{RowStore}
use Rattle.salt_values.specs.Value.{key_of}
use Rattle.salt_values.specs.declared.value.Value.{Value}
use Rattle.std.proofs.Common.{IsTrue, List, None, Option, Some, [], ap, arith, cond, false, get_or, length, set, subst, sym, ℕ, ◌+◌, ◌<◌, ◌≡◌, ◌≤◌, ◌∙◌}
use Rattle.std.proofs.lemmas.List.{get_or-map}
use Rattle.std.specs.BTreeMap.{insert_entry, is_at}
use Rattle.std.specs.Map.{remove_entry}
use Rattle.std.specs.Ordering.{is_eq}

-- a row that fits into the free bytes of a page is not refused
fits : (rows : List TableRow) (size : ℕ) → size ≤ free_on rows → 1 ≤ size → 8190 < used_by rows + size → ⊥
fits rows size less some full = omega (arith, less, some, full)

none_given : (row : List Value) → None ≡ Some row → ⊥
none_given row e = cc

given_exchanged : (table : ℕ) (key : Value) (row : List Value) (before rows : List TableRow) → (own : List Value) × (Some row ≡ Some own) × IsExchanged table key own before rows → IsExchanged table key row before rows
given_exchanged table key row before rows done = subst (λ (l : List Value). IsExchanged table key l before rows) same done.2
  where
    same : done.0 ≡ row
    same =
        let given : Some row ≡ Some done.0 = done.1 in
        cc

module _ (d e : View) (x : RowStore) (pool : Frames) (dev : ℕ) (named : List ℕ) (t : Tables) (is : IsRowStore d x dev named t) (kept : KeepsAll d e None) (page side : ℕ) (low : page < length x.sides.items) (at : side ≡ get_or x.sides.items page 0)
    (before rows : List TableRow) (framed : HasFramed d x.pool pool page side before rows) where
  pub shown_before : IsTrue d.told → shown_page (d.bytes x.pool.dev) x.pool.frames.entries page (get_or x.sides.items page 0) ≡ Some before
  shown_before = subst (λ s. IsTrue d.told → shown_page (d.bytes x.pool.dev) x.pool.frames.entries page s ≡ Some before) at framed.shown

  -- where the page lacks the row that the directory has on it, the disks do not tell
  pub missing_told : (q : Place) → page_of x.directory q ≡ Some page → IsRowFound q.table q.key before None → d.told ≡ false
  missing_told q placed none = not_told d.told (λ told. found_row_there d x dev named t is.is page low told q.table q.key before (shown_rows d x dev named t is.is page low told before (shown_before told)) placed none)

  module _ (free : ℕ) (z : RowStore) (marked : IsMarked (record x { pool = pool }) z page free) where
    pub marked_pool : z.pool ≡ with_dirty (with_frame x.pool page rows) (record { page = page; side = spare_side x.named page })
    marked_pool = marked.pool ∙ ap (λ (p : Frames). with_dirty p (record { page = page; side = spare_side x.named page })) framed.is

    pub framed_pool : IsPool (with_frame x.pool page rows)
    framed_pool = subst (λ (p : Frames). IsPool p) framed.is framed.pool

    pub same_entries : z.directory ≡ x.directory
    same_entries = marked.directory

    module _ (q : Place) (placed : page_of x.directory q ≡ Some page) where
      pub put_here : (row : Option (List Value)) → NamesKey q row → IsReplaced q.table q.key row before rows (Put free) → IsStanding e z dev named (set_row q row t)
      put_here None key done = absurd (none_given done.0.0 done.0.1)
      put_here (Some row) key done =
          standing_marked d e x dev named t is.is kept.shape (kept.kept dev (λ h. h)).bytes page low before rows free z marked_pool marked.sides marked.space marked.named framed_pool marked.is_pool
          (subst (λ (D : List (Place × ℕ)). HasPagesBelow D (length x.sides.items)) (sym same_entries) is.is.kept.pointed) shown_before done.1 (put_row q row t)
          (λ pages are there same. subst (λ (D : List (Place × ℕ)). AreRowsOf D (set pages page rows) (put_row q row t)) (sym same_entries) (replaced x.directory pages t are page there q before rows row same placed key (given_exchanged q.table q.key row before rows done.0)))

      -- the directory lacks it then
      pub gone_here : (row : Option (List Value)) (w : RowStore) → w.pool ≡ z.pool → w.sides.items ≡ z.sides.items → w.space ≡ z.space → w.named ≡ z.named → w.directory ≡ remove_entry (is_at (place_cmp q)) z.directory
          → ((p : Place) → page_of w.directory p ≡ cond (is_eq (place_cmp q p)) None (page_of z.directory p)) → IsReplaced q.table q.key row before rows (Gone free) → IsStanding e w dev named (remove_at q t)
      gone_here row w pools sides spaces names removed looked done =
          let here : (p : Place) → page_of w.directory p ≡ cond (is_eq (place_cmp q p)) None (page_of x.directory p) =
          λ p. looked p ∙ ap (λ (D : List (Place × ℕ)). cond (is_eq (place_cmp q p)) None (page_of D p)) same_entries in
          standing_marked d e x dev named t is.is kept.shape (kept.kept dev (λ h. h)).bytes page low before rows free w (pools ∙ marked_pool) (sides ∙ marked.sides) (spaces ∙ marked.space) (names ∙ marked.named) framed_pool
          (subst (λ (p : Frames). IsPool p) (sym pools) marked.is_pool) (below_gone x.directory w.directory q (length x.sides.items) here is.is.kept.pointed) shown_before done.1 (remove_at q t)
          (λ pages are there same. gone x.directory pages t are page there q before rows w.directory same done.0 (removed ∙ ap (λ (D : List (Place × ℕ)). remove_entry (is_at (place_cmp q)) D) same_entries) here)

    -- a row was put beside others, where there was none
    pub beside_here : (q : Place) (row : List Value) (w : RowStore) → w.pool ≡ z.pool → w.sides.items ≡ z.sides.items → w.space ≡ z.space → w.named ≡ z.named → w.directory ≡ insert_entry place_cmp z.directory q page
        → key_of row ≡ q.key → row_at q t ≡ None → IsPut q.table row before rows (Some free) → IsStanding e w dev named (put_row q row t)
    beside_here q row w pools sides spaces names inserted key none done =
        let entries : w.directory ≡ insert_entry place_cmp x.directory q page = inserted ∙ ap (λ (D : List (Place × ℕ)). insert_entry place_cmp D q page) same_entries in
        standing_marked d e x dev named t is.is kept.shape (kept.kept dev (λ h. h)).bytes page low before rows free w (pools ∙ marked_pool) (sides ∙ marked.sides) (spaces ∙ marked.space) (names ∙ marked.named) framed_pool
        (subst (λ (p : Frames). IsPool p) (sym pools) marked.is_pool)
        (subst (λ (D : List (Place × ℕ)). HasPagesBelow D (length x.sides.items)) (sym entries) (below_put x.directory q page (length x.sides.items) low is.is.kept.pointed)) shown_before done.1 (put_row q row t)
        (λ pages are there same. subst (λ (D : List (Place × ℕ)). AreRowsOf D (set pages page rows) (put_row q row t)) (sym entries) (put_beside x.directory pages t are page there q before rows row same key none done.0))

  -- a page on which the directory has room for a row has it, where the disks tell
  pub no_room_told : (table : ℕ) (row : List Value) → HasRoom x.space (row_bytes row) (Some page) → IsPut table row before rows None → d.told ≡ false
  no_room_told table row room full = not_told d.told (λ told.
      let has = is.is.told told in
      let own : before ≡ get_or has.pages page [] = shown_rows d x dev named t is.is page low told before (shown_before told) in
      let free : get_or x.space page 0 ≡ free_on before = ap (λ (l : List ℕ). get_or l page 0) has.free ∙ get_or-map free_on has.pages page [] 0 (omega (arith, low, has.are.count)) ∙ ap free_on (sym own) in
      fits before (row_bytes row) (omega (arith, room.1, free)) (omega arith) full.1)
