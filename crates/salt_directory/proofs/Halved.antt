-- Rows that went from a page to another one are the same tables' still.
use Rattle.salt_bytes.specs.Page.{TableRow}
use Rattle.salt_checkpoint.proofs.Moved.{place_of}
use Rattle.salt_directory.proofs.Alike.{own_place, turned}
use Rattle.salt_directory.proofs.Changed.{found_on, gone_rows, put_rows}
use Rattle.salt_directory.proofs.Keys.{keys_put, keys_stay, page_gone, page_put}
use Rattle.salt_directory.specs.Halves.{HaveGone, place_of_row, placed_on}
use Rattle.salt_directory.specs.Pages.{AreRowsOf, page_of}
use Rattle.salt_model.specs.Tables.{Tables, place_cmp, put_row, remove_at, row_at}
use Rattle.salt_model.specs.declared.places.Place.{Place}
use Rattle.salt_stands.proofs.Places.{equal_is, place_same, row_at_set, same_tables}
use Rattle.salt_values.specs.declared.value.Value.{Value}
use Rattle.std.proofs.Common.{Bool, List, None, Some, [], ap, append_assoc, arith, cond, drop, false, get_or, length, refl, set, subst, suc, sym, true, zero, ℕ, ◌+◌, ◌++◌, ◌<◌, ◌≡◌, ◌∙◌, ◌∷◌}
use Rattle.std.proofs.lemmas.List.{get_or-set_same, get_or_append_left, get_or_push, length-set, length_push, set-append_left, set-get_or, set-set, set_at}
use Rattle.std.specs.BTreeMap.{insert_entry, is_at}
use Rattle.std.specs.List.{remove}
use Rattle.std.specs.Map.{remove_entry}
use Rattle.std.specs.Ordering.{is_eq}
use Rattle.std.specs.Prelude.{is_some, slice_get}

-- one more row goes
pub gone_more : (qs : List Place) (from to mid to_mid : List TableRow) (i : ℕ) (r : TableRow) (q : Place) → HaveGone qs from to mid to_mid → slice_get mid i ≡ Some r → place_of_row r ≡ q → HaveGone (qs ++ q ∷ []) from to (remove mid i) (to_mid ++ r ∷ [])
gone_more [] from to mid to_mid i r q h there of = (
  i,
  r,
  subst (λ (l : List TableRow). slice_get l i ≡ Some r) h.0 there,
  of,
  (ap (λ (l : List TableRow). remove l i) h.0, ap (λ (l : List TableRow). l ++ r ∷ []) h.1),
)
gone_more (p ∷ ps) from to mid to_mid i r q h there of = (h.0, h.1, h.2, h.3, gone_more ps (remove from h.0) (to ++ h.1 ∷ []) mid to_mid i r q h.4 there of)

-- PARTED, one row after another: those behind stand behind the lower ones still

row_at_seam : (xs : List TableRow) (r : TableRow) (ys : List TableRow) → slice_get (xs ++ r ∷ ys) (length xs) ≡ Some r
row_at_seam [] r ys = refl
row_at_seam (x ∷ xs) r ys = row_at_seam xs r ys

without_seam : (xs : List TableRow) (r : TableRow) (ys : List TableRow) → remove (xs ++ r ∷ ys) (length xs) ≡ xs ++ ys
without_seam [] r ys = refl
without_seam (x ∷ xs) r ys = ap (λ (l : List TableRow). x ∷ l) (without_seam xs r ys)

-- the next row, and those behind it
rows_from : (rows : List TableRow) (i : ℕ) (r : TableRow) → slice_get rows i ≡ Some r → drop i rows ≡ r ∷ drop (i + 1) rows
rows_from [] i r is = cc
rows_from (x ∷ rows) zero r is = ap (λ (y : TableRow). y ∷ rows) same
  where
    same : x ≡ r
    same = cc
rows_from (x ∷ rows) (suc i) r is =
    let next : suc (i + 1) ≡ suc i + 1 = omega arith in
    rows_from rows i r is ∙ ap (λ (n : ℕ). r ∷ drop n (x ∷ rows)) next

module _ (qs : List Place) (page lower upper : List TableRow) (i : ℕ) (r : TableRow) (so_far : HaveGone qs page [] (lower ++ drop i page) upper) (there : slice_get page i ≡ Some r) (qs' : List Place) (lower' upper' : List TableRow) where
  now : HaveGone qs page [] (lower ++ r ∷ drop (i + 1) page) upper
  now = subst (λ (l : List TableRow). HaveGone qs page [] (lower ++ l) upper) (rows_from page i r there) so_far

  told_so : (ps : List Place) (rows rows' others : List TableRow) → qs' ≡ ps → rows' ≡ rows → upper' ≡ others → HaveGone ps page [] rows others → HaveGone qs' page [] rows' upper'
  told_so ps rows rows' others a b c h =
      subst (λ (l : List Place). HaveGone l page [] rows' upper') (sym a) (subst (λ (l : List TableRow). HaveGone ps page [] l upper') (sym b) (subst (λ (l : List TableRow). HaveGone ps page [] rows l) (sym c) h))

  pub next_stays : qs' ≡ qs → lower' ≡ lower ++ r ∷ [] → upper' ≡ upper → HaveGone qs' page [] (lower' ++ drop (i + 1) page) upper'
  next_stays a b c = told_so qs (lower ++ r ∷ drop (i + 1) page) (lower' ++ drop (i + 1) page) upper a (ap (λ (l : List TableRow). l ++ drop (i + 1) page) b ∙ append_assoc lower (r ∷ []) (drop (i + 1) page)) c now

  pub next_goes : (q : Place) → place_of_row r ≡ q → qs' ≡ qs ++ q ∷ [] → lower' ≡ lower → upper' ≡ upper ++ r ∷ [] → HaveGone qs' page [] (lower' ++ drop (i + 1) page) upper'
  next_goes q of a b c =
      told_so (qs ++ q ∷ []) (remove (lower ++ r ∷ drop (i + 1) page) (length lower)) (lower' ++ drop (i + 1) page) (upper ++ r ∷ []) a
      (ap (λ (l : List TableRow). l ++ drop (i + 1) page) b ∙ sym (without_seam lower r (drop (i + 1) page))) c
      (gone_more qs page [] (lower ++ r ∷ drop (i + 1) page) upper (length lower) r q now (row_at_seam lower r (drop (i + 1) page)) of)

-- one more place comes
pub placed_more : (page : ℕ) (qs : List Place) (q : Place) (directory : List (Place × ℕ)) → placed_on page (qs ++ q ∷ []) directory ≡ insert_entry place_cmp (placed_on page qs directory) q page
placed_more page [] q directory = refl
placed_more page (p ∷ ps) q directory = placed_more page ps q (insert_entry place_cmp directory p page)

-- ONE ROW

-- a row that is put again
again : (q : Place) (row : List Value) (t : Tables) → row_at q t ≡ Some row → put_row q row (remove_at q t) ≡ t
again q row t here = same_tables (put_row q row (remove_at q t)) t (λ p. row_at_set p q (Some row) (remove_at q t) ∙ ap (λ o. cond (is_eq (place_cmp p q)) (Some row) o) (row_at_set p q None t) ∙ by p (is_eq (place_cmp p q)) refl)
  where
    by : (p : Place) (b : Bool) → is_eq (place_cmp p q) ≡ b → cond b (Some row) (cond b None (row_at p t)) ≡ row_at p t
    by p true at = sym (ap (λ (k : Place). row_at k t) (place_same p q (equal_is (place_cmp p q) at)) ∙ here)
    by p false at = refl

module _ (directory : List (Place × ℕ)) (pages : List (List TableRow)) (t : Tables) (are : AreRowsOf directory pages t) (page : ℕ) (low : page < length pages) (i : ℕ) (r : TableRow) (is : slice_get (get_or pages page []) i ≡ Some r) where
  abbrev out : List (Place × ℕ)
  out = remove_entry (is_at (place_cmp (place_of r))) directory

  abbrev without : List (List TableRow)
  without = set pages page (remove (get_or pages page []) i)

  here : row_at (place_of r) t ≡ Some r.row
  here = found_on directory pages t are page low i r is

  gone : AreRowsOf out without (remove_at (place_of r) t)
  gone = gone_rows directory pages t are page low i r is out refl (λ p. page_gone (place_of r) p directory t.list t.sorted are.keys)

  lacks : row_at (place_of r) (remove_at (place_of r) t) ≡ None
  lacks = row_at_set (place_of r) (place_of r) None t ∙ ap (λ b. cond b None (row_at (place_of r) t)) (own_place (place_of r))

  module _ (other : ℕ) (within : other < length pages) where
    put : AreRowsOf (insert_entry place_cmp out (place_of r) other) (set without other (get_or without other [] ++ r ∷ [])) (put_row (place_of r) r.row (remove_at (place_of r) t))
    put = put_rows out without (remove_at (place_of r) t) gone other (omega (arith, within, length-set pages page (remove (get_or pages page []) i))) r lacks

    same : (p : Place) → page_of (insert_entry place_cmp directory (place_of r) other) p ≡ page_of (insert_entry place_cmp out (place_of r) other) p
    same p =
        page_put p (place_of r) other directory
        ∙ by (is_eq (place_cmp p (place_of r))) refl
        ∙ ap (λ o. cond (is_eq (place_cmp p (place_of r))) (Some other) o) (sym (page_gone (place_of r) p directory t.list t.sorted are.keys))
        ∙ sym (page_put p (place_of r) other out)
      where
        by : (b : Bool) → is_eq (place_cmp p (place_of r)) ≡ b → cond b (Some other) (page_of directory p) ≡ cond b (Some other) (cond (is_eq (place_cmp (place_of r) p)) None (page_of directory p))
        by true at = refl
        by false at = sym (ap (λ c. cond c None (page_of directory p)) (turned (place_of r) p ∙ at))

    pub moved : AreRowsOf (insert_entry place_cmp directory (place_of r) other) (set (set pages page (remove (get_or pages page []) i)) other (get_or (set pages page (remove (get_or pages page []) i)) other [] ++ r ∷ [])) t
    moved = record {
      apart = put.apart;
      tables = put.tables ∙ again (place_of r) r.row t here;
      keys = keys_put (place_of r) other r.row directory t.list are.keys ∙ keys_stay (place_of r) r.row t.list t.sorted (ap is_some here);
      placed = λ p k found. put.placed p k (sym (same p) ∙ found);
    }

-- SEVERAL ROWS, to the last page

pub halved : (qs : List Place) (directory : List (Place × ℕ)) (pages : List (List TableRow)) (t : Tables) (page : ℕ) (to from_new to_new : List TableRow) → page < length pages → AreRowsOf directory (pages ++ to ∷ []) t
    → HaveGone qs (get_or pages page []) to from_new to_new → AreRowsOf (placed_on (length pages) qs directory) (set pages page from_new ++ to_new ∷ []) t
halved [] directory pages t page to from_new to_new low are h = subst (λ (ps : List (List TableRow)). AreRowsOf directory ps t) same are
  where
    same : pages ++ to ∷ [] ≡ set pages page from_new ++ to_new ∷ []
    same = λ j. (sym (ap (set pages page) h.0 ∙ set-get_or pages page []) j) ++ sym h.1 j ∷ []
halved (q ∷ qs) directory pages t page to from_new to_new low are h =
    let n = length pages in
    let wide = pages ++ to ∷ [] in
    let left = remove (get_or pages page []) h.0 in
    let one = set pages page left in
    let own : get_or wide page [] ≡ get_or pages page [] = get_or_append_left pages (to ∷ []) [] page low in
    let first : set wide page (remove (get_or wide page []) h.0) ≡ one ++ to ∷ [] = ap (λ (l : List TableRow). set wide page (remove l h.0)) own ∙ set-append_left pages (to ∷ []) page left low in
    let count : length one ≡ n = length-set pages page left in
    let step = moved directory wide t are page (omega (arith, low, length_push pages to)) h.0 h.1 (subst (λ (l : List TableRow). slice_get l h.0 ≡ Some h.1) (sym own) h.2) n (omega (arith, length_push pages to)) in
    let both : set (set wide page (remove (get_or wide page []) h.0)) n (get_or (set wide page (remove (get_or wide page []) h.0)) n [] ++ h.1 ∷ []) ≡ one ++ (to ++ h.1 ∷ []) ∷ [] =
    ap (λ (ps : List (List TableRow)). set ps n (get_or ps n [] ++ h.1 ∷ [])) first
    ∙ ap (λ (l : List TableRow). set (one ++ to ∷ []) n (l ++ h.1 ∷ [])) (get_or_push one to [] n count)
    ∙ set_at one to [] (to ++ h.1 ∷ []) n count in
    let stepped : AreRowsOf (insert_entry place_cmp directory q n) (one ++ (to ++ h.1 ∷ []) ∷ []) t =
    subst (λ (k : Place). AreRowsOf (insert_entry place_cmp directory k n) (one ++ (to ++ h.1 ∷ []) ∷ []) t) h.3
    (subst (λ (ps : List (List TableRow)). AreRowsOf (insert_entry place_cmp directory (place_of h.1) n) ps t) both step) in
    let rest = halved qs (insert_entry place_cmp directory q n) one t page (to ++ h.1 ∷ []) from_new to_new (omega (arith, low, count)) stepped
    (subst (λ (l : List TableRow). HaveGone qs l (to ++ h.1 ∷ []) from_new to_new) (sym (get_or-set_same pages page left [] low)) h.4) in
    subst (λ (ps : List (List TableRow)). AreRowsOf (placed_on n qs (insert_entry place_cmp directory q n)) (ps ++ to_new ∷ []) t) (set-set pages page left from_new)
    (subst (λ m. AreRowsOf (placed_on m qs (insert_entry place_cmp directory q n)) (set one page from_new ++ to_new ∷ []) t) count rest)
