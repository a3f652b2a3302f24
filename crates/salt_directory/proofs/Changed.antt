-- Rows on pages with one of them changed: put, replaced or gone.
use Rattle.salt_bytes.specs.Page.{TableRow}
use Rattle.salt_checkpoint.proofs.Moved.{apart_gone, apart_put, are_apart, are_away, found_gone, found_put, place_of}
use Rattle.salt_checkpoint.proofs.Rows.{found_changed, row_found}
use Rattle.salt_checkpoint.specs.Rows.{found_row, is_row_at}
use Rattle.salt_model.specs.Tables.{Tables, no_rows, place_cmp, put_row, remove_at, row_at, set_row, with_changes}
use Rattle.salt_model.specs.declared.places.Place.{Place}
use Rattle.salt_directory.proofs.Alike.{apart_behind, apart_front, away_none, found_at, found_beside, found_front, found_still, found_there, turned}
use Rattle.salt_directory.proofs.Keys.{keys_gone, keys_put, keys_stay, page_alike, page_put}
use Rattle.salt_directory.proofs.Split.{Split, own_rows, parted, rows_push, split}
use Rattle.salt_directory.specs.Pages.{AreRowsOf, IsOn, all_rows, page_of}
use Rattle.salt_stands.proofs.Places.{equal_is, place_same}
use Rattle.salt_stands.specs.Tables.{change_of_row}
use Rattle.salt_values.specs.declared.value.Value.{Value}
use Rattle.std.proofs.Common.{Bool, List, None, Option, Some, [], ap, append_assoc, cond, drop, false, get_or, get_or-set_other, get_or-set_same, inl, inr, is_some, length, map, refl, set, subst, suc, sym, take, true, ℕ, ◌++◌, ◌<◌, ◌≡◌, ◌⊎◌, ◌∙◌, ◌∷◌}
use Rattle.std.proofs.lemmas.Bool.{cases_eq}
use Rattle.std.proofs.lemmas.List.{append-nil, get_or_append_left}
use Rattle.std.specs.BTreeMap.{insert_entry, is_at}
use Rattle.std.specs.List.{remove}
use Rattle.std.specs.Map.{keys_of, remove_entry}
use Rattle.std.specs.Ordering.{is_eq}
use Rattle.std.specs.Prelude.{slice_get}

-- what is found on a page is found among all rows
pub row_on_page : (directory : List (Place × ℕ)) (pages : List (List TableRow)) (t : Tables) → AreRowsOf directory pages t → (q : Place) → row_at q t ≡ found_row q (all_rows pages)
row_on_page directory pages t are q = ap (row_at q) (sym are.tables) ∙ row_found q (all_rows pages) are.apart

module _ (directory : List (Place × ℕ)) (pages : List (List TableRow)) (t : Tables) (are : AreRowsOf directory pages t) where
  -- no row stands at a place that the directory lacks
  pub none_at : (q : Place) → page_of directory q ≡ None → row_at q t ≡ None
  none_at q none = by (row_at q t) (sym (page_alike q directory t.list are.keys) ∙ ap is_some none)
    where
      by : (o : Option (List Value)) → is_some o ≡ false → o ≡ None
      by None h = refl
      by (Some row) h = cc

  pub lacks_at : (q : Place) → row_at q t ≡ None → page_of directory q ≡ None
  lacks_at q none = by (page_of directory q) (page_alike q directory t.list are.keys ∙ ap is_some none)
    where
      by : (o : Option ℕ) → is_some o ≡ false → o ≡ None
      by None h = refl
      by (Some page) h = cc

  pub away_at : (q : Place) → row_at q t ≡ None → are_away q (all_rows pages) ≡ true
  away_at q none = away_none q (all_rows pages) (sym (row_on_page directory pages t are q) ∙ none)

  module _ (page : ℕ) (low : page < length pages) where
    abbrev here : Split pages page
    here = split pages page low

    abbrev old : List TableRow
    old = get_or pages page []

    abbrev rest : List TableRow
    rest = here.behind

    was : all_rows pages ≡ here.before ++ (old ++ rest)
    was = own_rows pages page here

    -- rows of one page are apart
    pub page_apart : are_apart (get_or pages page []) ≡ true
    page_apart = apart_front old rest (apart_behind here.before (old ++ rest) (subst (λ (l : List TableRow). are_apart l ≡ true) was are.apart))

    -- a row of it is that of its place
    pub found_on : (i : ℕ) (r : TableRow) → slice_get (get_or pages page []) i ≡ Some r → row_at (place_of r) t ≡ Some r.row
    found_on i r is =
        let front = take i old in
        let back = drop (suc i) old in
        let around : all_rows pages ≡ (here.before ++ front) ++ r ∷ (back ++ rest) =
        was ∙ ap (λ (l : List TableRow). here.before ++ (l ++ rest)) (parted old i r is)
        ∙ ap (λ (l : List TableRow). here.before ++ l) (append_assoc front (r ∷ back) rest) ∙ sym (append_assoc here.before front (r ∷ (back ++ rest))) in
        row_on_page directory pages t are (place_of r)
        ∙ ap (found_row (place_of r)) around
        ∙ found_there (here.before ++ front) (back ++ rest) r (subst (λ (l : List TableRow). are_apart l ≡ true) around are.apart)

    -- ONE PAGE with other rows
    module _ (q : Place) (row : Option (List Value)) (rows : List TableRow) (directory' : List (Place × ℕ))
        (apart : are_apart (all_rows (set pages page rows)) ≡ true)
        (found : (p : Place) → found_row p (all_rows (set pages page rows)) ≡ cond (is_eq (place_cmp p q)) row (found_row p (all_rows pages)))
        (others : (p : Place) → is_eq (place_cmp p q) ≡ false → is_some (found_row p old) ≡ true → is_some (found_row p rows) ≡ true)
        (keys : keys_of directory' ≡ keys_of (set_row q row t).list)
        (places : (p : Place) (i : ℕ) → page_of directory' p ≡ Some i → ((is_eq (place_cmp p q) ≡ false) × (page_of directory p ≡ Some i)) ⊎ ((i ≡ page) × (is_some (found_row p rows) ≡ true))) where
      there : (p : Place) → is_some (found_row p rows) ≡ true → IsOn p page (set pages page rows)
      there p some = ap (λ (l : List TableRow). is_some (found_row p l)) (get_or-set_same pages page rows [] low) ∙ some

      changed : AreRowsOf directory' (set pages page rows) (set_row q row t)
      changed = record {
        apart = apart;
        tables = found_changed (all_rows pages) (all_rows (set pages page rows)) q row are.apart apart found ∙ ap (set_row q row) are.tables;
        keys = keys;
        placed = λ p i is. by p i (places p i is);
      }
        where
          by : (p : Place) (i : ℕ) → ((is_eq (place_cmp p q) ≡ false) × (page_of directory p ≡ Some i)) ⊎ ((i ≡ page) × (is_some (found_row p rows) ≡ true)) → IsOn p i (set pages page rows)
          by p i (inr h) = subst (λ k. IsOn p k (set pages page rows)) (sym h.0) (there p h.1)
          by p i (inl h) = on (cases_eq i page)
            where
              on : (i ≡ page) ⊎ (i ≡ page → ⊥) → IsOn p i (set pages page rows)
              on (inl same) = subst (λ k. IsOn p k (set pages page rows)) (sym same) (there p (others p h.0 (subst (λ k. IsOn p k pages) same (are.placed p i h.1))))
              on (inr other) = ap (λ (l : List TableRow). is_some (found_row p l)) (get_or-set_other pages page i rows [] other) ∙ are.placed p i h.1

    -- PUT behind the others, where none stands at its place
    module _ (r : TableRow) (none : row_at (place_of r) t ≡ None) where
      abbrev put_on : List TableRow
      put_on = old ++ r ∷ []

      whole_put : all_rows (set pages page put_on) ≡ (here.before ++ old) ++ r ∷ rest
      whole_put = here.is put_on ∙ ap (λ (l : List TableRow). here.before ++ l) (append_assoc old (r ∷ []) rest) ∙ sym (append_assoc here.before old (r ∷ rest))

      was_put : all_rows pages ≡ (here.before ++ old) ++ rest
      was_put = was ∙ sym (append_assoc here.before old rest)

      away : are_away (place_of r) ((here.before ++ old) ++ rest) ≡ true
      away = subst (λ (l : List TableRow). are_away (place_of r) l ≡ true) was_put (away_at (place_of r) none)

      pub put_rows : AreRowsOf (insert_entry place_cmp directory (place_of r) page) (set pages page (get_or pages page [] ++ r ∷ [])) (put_row (place_of r) r.row t)
      put_rows = changed (place_of r) (Some r.row) put_on (insert_entry place_cmp directory (place_of r) page)
          (subst (λ (l : List TableRow). are_apart l ≡ true) (sym whole_put) (apart_put (here.before ++ old) rest r (subst (λ (l : List TableRow). are_apart l ≡ true) was_put are.apart) away))
          (λ p. ap (found_row p) whole_put ∙ found_put p (here.before ++ old) rest r away ∙ ap (λ (l : List TableRow). cond (is_row_at p r) (Some r.row) (found_row p l)) (sym was_put))
          (λ p other some. found_front p old (r ∷ []) some)
          (keys_put (place_of r) page r.row directory t.list are.keys)
          places
        where
          places : (p : Place) (i : ℕ) → page_of (insert_entry place_cmp directory (place_of r) page) p ≡ Some i
              → ((is_eq (place_cmp p (place_of r)) ≡ false) × (page_of directory p ≡ Some i)) ⊎ ((i ≡ page) × (is_some (found_row p put_on) ≡ true))
          places p i is = by (is_eq (place_cmp p (place_of r))) refl (sym (page_put p (place_of r) page directory) ∙ is)
            where
              by : (b : Bool) → is_eq (place_cmp p (place_of r)) ≡ b → cond b (Some page) (page_of directory p) ≡ Some i
                  → ((is_eq (place_cmp p (place_of r)) ≡ false) × (page_of directory p ≡ Some i)) ⊎ ((i ≡ page) × (is_some (found_row p put_on) ≡ true))
              by true at h = inr (same, found_at p old [] r at)
                where
                  same : i ≡ page
                  same = cc
              by false at h = inl (at, h)

    -- one row of the page
    module _ (i : ℕ) (r : TableRow) (is : slice_get (get_or pages page []) i ≡ Some r) where
      abbrev front : List TableRow
      front = take i old

      abbrev back : List TableRow
      back = drop (suc i) old

      own : old ≡ front ++ r ∷ back
      own = parted old i r is

      around : all_rows pages ≡ (here.before ++ front) ++ r ∷ (back ++ rest)
      around =
          was ∙ ap (λ (l : List TableRow). here.before ++ (l ++ rest)) own
          ∙ ap (λ (l : List TableRow). here.before ++ l) (append_assoc front (r ∷ back) rest)
          ∙ sym (append_assoc here.before front (r ∷ (back ++ rest)))

      without : all_rows (set pages page (remove old i)) ≡ (here.before ++ front) ++ (back ++ rest)
      without = here.is (front ++ back) ∙ ap (λ (l : List TableRow). here.before ++ l) (append_assoc front back rest) ∙ sym (append_assoc here.before front (back ++ rest))

      parts : (are_apart ((here.before ++ front) ++ (back ++ rest)) ≡ true) × (are_away (place_of r) ((here.before ++ front) ++ (back ++ rest)) ≡ true)
      parts = apart_gone (here.before ++ front) (back ++ rest) r (subst (λ (l : List TableRow). are_apart l ≡ true) around are.apart)

      others_gone : (p : Place) → is_eq (place_cmp p (place_of r)) ≡ false → is_some (found_row p old) ≡ true → is_some (found_row p (remove old i)) ≡ true
      others_gone p other some = found_still p front back r other (ap (λ (l : List TableRow). is_some (found_row p l)) (sym own) ∙ some)

      found_without : (p : Place) → found_row p (all_rows (set pages page (remove old i))) ≡ cond (is_eq (place_cmp p (place_of r))) None (found_row p (all_rows pages))
      found_without p =
          ap (found_row p) without ∙ found_gone p (here.before ++ front) (back ++ rest) r parts.1
          ∙ ap (λ (l : List TableRow). cond (is_row_at p r) None (found_row p l)) (sym around)

      apart_without : are_apart (all_rows (set pages page (remove old i))) ≡ true
      apart_without = subst (λ (l : List TableRow). are_apart l ≡ true) (sym without) parts.0

      -- GONE
      pub gone_rows : (directory' : List (Place × ℕ)) → directory' ≡ remove_entry (is_at (place_cmp (place_of r))) directory
          → ((p : Place) → page_of directory' p ≡ cond (is_eq (place_cmp (place_of r) p)) None (page_of directory p))
          → AreRowsOf directory' (set pages page (remove (get_or pages page []) i)) (remove_at (place_of r) t)
      gone_rows directory' removed looked = changed (place_of r) None (remove old i) directory' apart_without found_without others_gone
          (ap (λ (l : List (Place × ℕ)). keys_of l) removed ∙ keys_gone (place_of r) directory t.list t.sorted are.keys)
          (λ p k found. by p k (is_eq (place_cmp p (place_of r))) refl (sym (looked p ∙ ap (λ b. cond b None (page_of directory p)) (turned (place_of r) p)) ∙ found))
        where
          by : (p : Place) (k : ℕ) (b : Bool) → is_eq (place_cmp p (place_of r)) ≡ b → cond b None (page_of directory p) ≡ Some k
              → ((is_eq (place_cmp p (place_of r)) ≡ false) × (page_of directory p ≡ Some k)) ⊎ ((k ≡ page) × (is_some (found_row p (remove old i)) ≡ true))
          by p k true at h = cc
          by p k false at h = inl (at, h)

      -- REPLACED by another one of its place, which stands anywhere among the others
      module _ (s : TableRow) (same : place_of s ≡ place_of r) (placed : page_of directory (place_of r) ≡ Some page) (xs ys : List TableRow) (others : remove (get_or pages page []) i ≡ xs ++ ys) where
        abbrev swapped : List TableRow
        swapped = xs ++ s ∷ ys

        whole : all_rows (set pages page swapped) ≡ (here.before ++ xs) ++ s ∷ (ys ++ rest)
        whole = here.is swapped ∙ ap (λ (l : List TableRow). here.before ++ l) (append_assoc xs (s ∷ ys) rest) ∙ sym (append_assoc here.before xs (s ∷ (ys ++ rest)))

        -- without both
        bare : (here.before ++ front) ++ (back ++ rest) ≡ (here.before ++ xs) ++ (ys ++ rest)
        bare =
            append_assoc here.before front (back ++ rest)
            ∙ ap (λ (l : List TableRow). here.before ++ l) (sym (append_assoc front back rest) ∙ ap (λ (l : List TableRow). l ++ rest) others ∙ append_assoc xs ys rest)
            ∙ sym (append_assoc here.before xs (ys ++ rest))

        away_s : are_away (place_of s) ((here.before ++ xs) ++ (ys ++ rest)) ≡ true
        away_s = subst (λ q. are_away q ((here.before ++ xs) ++ (ys ++ rest)) ≡ true) (sym same) (subst (λ (l : List TableRow). are_away (place_of r) l ≡ true) bare parts.1)

        apart_s : are_apart (all_rows (set pages page swapped)) ≡ true
        apart_s = subst (λ (l : List TableRow). are_apart l ≡ true) (sym whole) (apart_put (here.before ++ xs) (ys ++ rest) s (subst (λ (l : List TableRow). are_apart l ≡ true) bare parts.0) away_s)

        at_s : (p : Place) → is_row_at p s ≡ is_eq (place_cmp p (place_of r))
        at_s p = ap (λ (q : Place). is_eq (place_cmp p q)) same

        twice : (b : Bool) (x y : Option (List Value)) → cond b x (cond b None y) ≡ cond b x y
        twice true x y = refl
        twice false x y = refl

        found_s : (p : Place) → found_row p (all_rows (set pages page swapped)) ≡ cond (is_eq (place_cmp p (place_of r))) (Some s.row) (found_row p (all_rows pages))
        found_s p =
            ap (found_row p) whole
            ∙ found_put p (here.before ++ xs) (ys ++ rest) s away_s
            ∙ (λ j. cond (at_s p j) (Some s.row) (found_row p (sym bare j)))
            ∙ ap (λ o. cond (is_eq (place_cmp p (place_of r))) (Some s.row) o) (ap (found_row p) (sym without) ∙ found_without p)
            ∙ twice (is_eq (place_cmp p (place_of r))) (Some s.row) (found_row p (all_rows pages))

        there_r : is_some (row_at (place_of r) t) ≡ true
        there_r = ap is_some (found_on i r is)

        pub replaced_rows : AreRowsOf directory (set pages page (xs ++ s ∷ ys)) (put_row (place_of r) s.row t)
        replaced_rows = changed (place_of r) (Some s.row) swapped directory apart_s found_s
            (λ p other some. found_beside p xs ys s (ap (λ (l : List TableRow). is_some (found_row p l)) (sym others) ∙ others_gone p other some))
            (are.keys ∙ sym (keys_stay (place_of r) s.row t.list t.sorted there_r))
            (λ p k found. by p k (is_eq (place_cmp p (place_of r))) refl found)
          where
            by : (p : Place) (k : ℕ) (b : Bool) → is_eq (place_cmp p (place_of r)) ≡ b → page_of directory p ≡ Some k
                → ((is_eq (place_cmp p (place_of r)) ≡ false) × (page_of directory p ≡ Some k)) ⊎ ((k ≡ page) × (is_some (found_row p swapped) ≡ true))
            by p k false at found = inl (at, found)
            by p k true at found = inr (own_page, found_at p xs ys s (at_s p ∙ at))
              where
                q_is : p ≡ place_of r
                q_is = place_same p (place_of r) (equal_is (place_cmp p (place_of r)) at)

                own_page : k ≡ page
                own_page =
                    let both : Some k ≡ Some page = sym found ∙ ap (λ (q : Place). page_of directory q) q_is ∙ placed in
                    cc

-- AN EMPTY PAGE MORE
module _ (directory : List (Place × ℕ)) (pages : List (List TableRow)) (t : Tables) (are : AreRowsOf directory pages t) (below : (q : Place) (page : ℕ) → page_of directory q ≡ Some page → page < length pages) where
  same_rows : all_rows (pages ++ [] ∷ []) ≡ all_rows pages
  same_rows = rows_push pages [] ∙ append-nil (all_rows pages)

  front_page : (xs : List (List TableRow)) (i : ℕ) → i < length xs → get_or (xs ++ [] ∷ []) i [] ≡ get_or xs i []
  front_page xs i low = get_or_append_left xs ([] ∷ []) [] i low

  pub page_more : AreRowsOf directory (pages ++ [] ∷ []) t
  page_more = record {
    apart = subst (λ (l : List TableRow). are_apart l ≡ true) (sym same_rows) are.apart;
    tables = ap (λ (l : List TableRow). with_changes (map change_of_row l) no_rows) same_rows ∙ are.tables;
    keys = are.keys;
    placed = λ q page is. ap (λ (l : List TableRow). is_some (found_row q l)) (front_page pages page (below q page is)) ∙ are.placed q page is;
  }
