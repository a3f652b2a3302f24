-- The rows of a range on all pages make the part of the tables that is in it.
use Rattle.salt_bytes.specs.Page.{TableRow}
use Rattle.salt_checkpoint.proofs.Moved.{are_apart, are_away, found_away, place_of}
use Rattle.salt_checkpoint.proofs.Rows.{row_found}
use Rattle.salt_checkpoint.specs.Rows.{found_row, is_row_at}
use Rattle.salt_directory.proofs.Alike.{away_behind, apart_behind, found_at, found_behind, found_front, own_place, turned}
use Rattle.salt_directory.proofs.Changed.{found_on}
use Rattle.salt_directory.proofs.Keys.{page_alike}
use Rattle.salt_directory.proofs.Loading.{with_twice, within_append}
use Rattle.salt_directory.proofs.Split.{parted, rows_push}
use Rattle.salt_directory.specs.Directories.{is_in}
use Rattle.salt_directory.specs.Loading.{HasLoaded, HaveAllOf, HaveOthersNone, count_in, is_row_in, part_of, rows_within}
use Rattle.salt_directory.specs.Pages.{AreRowsOf, all_rows, page_of}
use Rattle.salt_eval.proofs.InOrder.{row_at-tables_of}
use Rattle.salt_eval.proofs.Nexts.{and_true, same_table}
use Rattle.salt_eval.proofs.Points.{point-rows}
use Rattle.salt_eval.specs.Scans.{point_of, row_list}
use Rattle.salt_loaded.specs.Rows as loaded
use Rattle.salt_loaded.specs.Rows.{RowsOf, entries_in, tables_in, with_rows}
use Rattle.salt_model.specs.Tables.{Entry, Tables, no_rows, place, place_cmp, row_at, with_changes}
use Rattle.salt_model.specs.declared.places.Place.{Place}
use Rattle.salt_ranges.specs.Ranges.{has_key}
use Rattle.salt_ranges.specs.declared.range.KeyRange.{KeyRange}
use Rattle.salt_stands.proofs.Booleans.{join, left, right}
use Rattle.salt_stands.proofs.Places.{equal_is, place_same, same_tables}
use Rattle.salt_stands.specs.Partition.{is_at_other}
use Rattle.salt_stands.specs.Tables.{change_of_row}
use Rattle.salt_values.specs.Value.{is_same_value, key_of}
use Rattle.salt_values.specs.declared.value.Value.{Value}
use Rattle.std.proofs.Common.{Bool, Equal, Greater, Less, List, None, Option, Ordering, Some, [], ap, arith, cond, drop, eqb-true, false, filter, get_or, is_some, length, length-append, map, not, refl, subst, suc, sym, take, true, zero, ℕ, ◌&&◌, ◌+◌, ◌++◌, ◌<◌, ◌==◌, ◌≡◌, ◌∙◌, ◌∷◌}
use Rattle.std.proofs.lemmas.Bool.{eq-eqb}
use Rattle.std.proofs.lemmas.List.{append-nil, take_more}
use Rattle.std.specs.BTreeMap.{is_at}
use Rattle.std.specs.FinMap.Entries.{by_order, find, find-where_key, put, where_key}
use Rattle.std.specs.List.{list_all}
use Rattle.std.specs.Map.{keys_of, lookup}
use Rattle.std.specs.Ordering.{is_eq}
use Rattle.std.specs.Prelude.{slice_get}

values : List TableRow → List (List Value)
values rows = map (λ (r : TableRow). r.row) rows

module _ (t : ℕ) (range : KeyRange) where
  abbrev kept : List TableRow → List TableRow
  kept rows = filter (is_row_in t range) rows

  -- APART

  -- a row of the table, whose place no other one has, has a key that no other one has
  key_apart : (r : TableRow) (rows : List TableRow) → (t == r.table) ≡ true → are_away (place_of r) rows ≡ true
      → list_all (λ other. not (is_same_value (key_of r.row) (key_of other))) (rows_within t range rows) ≡ true
  key_apart r [] here away = refl
  key_apart r (s ∷ rows) here away =
      by (t == s.table) refl (has_key range (key_of s.row)) (key_apart r rows here (right (is_at_other (place_of r) (change_of_row s)) (are_away (place_of r) rows) away))
    where
      other : List Value → Bool
      other row = not (is_same_value (key_of r.row) (key_of row))

      apart : (t == s.table) ≡ true → other s.row ≡ true
      apart there =
          let same : (r.table == s.table) ≡ true = eq-eqb r.table s.table (sym (eqb-true t r.table here) ∙ eqb-true t s.table there) in
          ap (λ o. not (is_eq o)) (sym (same_table r.table (key_of r.row) (place_of s) same)) ∙ left (is_at_other (place_of r) (change_of_row s)) (are_away (place_of r) rows) away

      by : (a : Bool) → (t == s.table) ≡ a → (b : Bool) → list_all other (rows_within t range rows) ≡ true → list_all other (map (λ (q : TableRow). q.row) (cond (a && b) (s ∷ kept rows) (kept rows))) ≡ true
      by true there true more = join (other s.row) (list_all other (rows_within t range rows)) (apart there) more
      by true there false more = more
      by false there b more = more

  pub within_apart : (rows : List TableRow) → are_apart rows ≡ true → loaded.are_apart (rows_within t range rows) ≡ true
  within_apart [] h = refl
  within_apart (r ∷ rows) h = by (t == r.table) refl (has_key range (key_of r.row)) (within_apart rows (right (are_away (place_of r) rows) (are_apart rows) h))
    where
      other : List Value → Bool
      other row = not (is_same_value (key_of r.row) (key_of row))

      by : (a : Bool) → (t == r.table) ≡ a → (b : Bool) → loaded.are_apart (rows_within t range rows) ≡ true → loaded.are_apart (map (λ (q : TableRow). q.row) (cond (a && b) (r ∷ kept rows) (kept rows))) ≡ true
      by true here true more = join (list_all other (rows_within t range rows)) (loaded.are_apart (rows_within t range rows)) (key_apart r rows here (left (are_away (place_of r) rows) (are_apart rows) h)) more
      by true here false more = more
      by false here b more = more

  -- FOUND

  found_within : (q : Place) (rows : List TableRow) → lookup (is_at (place_cmp q)) (entries_in t (rows_within t range rows)) ≡ cond (is_in t range q) (found_row q rows) None
  found_within q [] = by (is_in t range q)
    where
      none : Option (List Value)
      none = None

      by : (b : Bool) → none ≡ cond b none none
      by true = refl
      by false = refl
  found_within q (r ∷ rows) = by (is_row_in t range r) refl (is_row_at q r) refl (found_within q rows)
    where
      looked : List TableRow → Option (List Value)
      looked rs = lookup (is_at (place_cmp q)) (entries_in t (map (λ (s : TableRow). s.row) rs))

      -- a row that is in the range stands at the place of its key
      own : is_row_in t range r ≡ true → is_eq (place_cmp q (place t (key_of r.row))) ≡ is_row_at q r
      own within = ap (λ (n : ℕ). is_eq (place_cmp q (place n (key_of r.row)))) (eqb-true t r.table (left (t == r.table) (has_key range (key_of r.row)) within))

      there : is_row_at q r ≡ true → is_in t range q ≡ is_row_in t range r
      there at = ap (is_in t range) (place_same q (place_of r) (equal_is (place_cmp q (place_of r)) at))

      by : (a : Bool) → is_row_in t range r ≡ a → (b : Bool) → is_row_at q r ≡ b → looked (kept rows) ≡ cond (is_in t range q) (found_row q rows) None
          → looked (cond a (r ∷ kept rows) (kept rows)) ≡ cond (is_in t range q) (cond b (Some r.row) (found_row q rows)) None
      by true within true at more = ap (λ c. cond c (Some r.row) (looked (kept rows))) (own within ∙ at) ∙ ap (λ c. cond c (Some r.row) None) (sym (there at ∙ within))
      by true within false at more = ap (λ c. cond c (Some r.row) (looked (kept rows))) (own within ∙ at) ∙ more
      by false within true at more = more ∙ ap (λ c. cond c (found_row q rows) None) (there at ∙ within) ∙ ap (λ c. cond c (Some r.row) None) (sym (there at ∙ within))
      by false within false at more = more

  pub row_in_part : (q : Place) (es : Tables) → row_at q (part_of t range es) ≡ cond (is_in t range q) (row_at q es) None
  row_in_part q es = find-where_key place_cmp (is_in t range) q (λ x tie. ap (is_in t range) (sym (place_same q x tie))) es.list

  pub within_part : (rows : List TableRow) → are_apart rows ≡ true → tables_in t (rows_within t range rows) ≡ part_of t range (with_changes (map change_of_row rows) no_rows)
  within_part rows apart =
      let es = with_changes (map change_of_row rows) no_rows in
      same_tables (tables_in t (rows_within t range rows)) (part_of t range es) (λ q.
      row_at-tables_of q (entries_in t (rows_within t range rows))
      ∙ found_within q rows
      ∙ ap (λ o. cond (is_in t range q) o None) (sym (row_found q rows apart))
      ∙ sym (row_in_part q es))

  -- ONE KEY

  in_point : (key : Value) → point_of range ≡ Some key → (q : Place) → is_in t range q ≡ is_eq (place_cmp (place t key) q)
  in_point key is q = sym (and_true (is_in t range q)) ∙ same (is_in t range q && true) (is_eq (place_cmp (place t key) q)) (point-rows t range key (record { list = (q, []) ∷ []; sorted = tt }) is)
    where
      same : (a b : Bool) → map (λ (e : Entry). e.1) (cond a ((q, []) ∷ []) []) ≡ row_list (cond b (Some []) None) → a ≡ b
      same true true h = refl
      same true false h = cc
      same false true h = cc
      same false false h = refl

  pub point_part : (key : Value) (row : Option (List Value)) (es : Tables) → point_of range ≡ Some key → row ≡ row_at (place t key) es → ((own : List Value) → row ≡ Some own → key_of own ≡ key) → tables_in t (row_list row) ≡ part_of t range es
  point_part key row es is at keyed = same_tables (tables_in t (row_list row)) (part_of t range es) (λ q.
      row_at-tables_of q (entries_in t (row_list row))
      ∙ by q (is_eq (place_cmp (place t key) q)) refl row refl
      ∙ ap (λ c. cond c (row_at q es) None) (sym (in_point key is q))
      ∙ sym (row_in_part q es))
    where
      by : (q : Place) (b : Bool) → is_eq (place_cmp (place t key) q) ≡ b → (o : Option (List Value)) → row ≡ o → lookup (is_at (place_cmp q)) (entries_in t (row_list o)) ≡ cond b (row_at q es) None
      by q true tied o same =
          let here : place t key ≡ q = place_same (place t key) q (equal_is (place_cmp (place t key) q) tied) in
          own o same ∙ sym same ∙ at ∙ ap (λ (p : Place). row_at p es) here
        where
          own : (o : Option (List Value)) → row ≡ o → lookup (is_at (place_cmp q)) (entries_in t (row_list o)) ≡ o
          own None same = refl
          own (Some r) same = ap (λ c. cond c (Some r) None) (ap (λ (k : Value). is_eq (place_cmp q (place t k))) (keyed r same) ∙ turned q (place t key) ∙ tied)
      by q false other None same = refl
      by q false other (Some r) same = ap (λ c. cond c (Some r) None) (ap (λ (k : Value). is_eq (place_cmp q (place t k))) (keyed r same) ∙ turned q (place t key) ∙ other)

-- the row of a key was loaded, where there is one
pub loaded_point : (range : KeyRange) (key : Value) (row : Option (List Value)) (es : Tables) (old new : RowsOf) → point_of range ≡ Some key → row ≡ row_at (place old.table key) es → ((own : List Value) → row ≡ Some own → key_of own ≡ key)
    → new ≡ with_rows (row_list row) old → HasLoaded range es old new
loaded_point range key row es old new is at keyed came = record { more = row_list row; came = came; apart = alone row; rows = point_part old.table range key row es is at keyed }
  where
    alone : (o : Option (List Value)) → loaded.are_apart (row_list o) ≡ true
    alone None = refl
    alone (Some r) = refl

-- HOW MANY

put_new : (q : Place) (row : List Value) (es : List Entry) → find place_cmp q es ≡ None → length (put place_cmp q row es) ≡ suc (length es)
put_new q row [] none = refl
put_new q row (e ∷ es) none = by (place_cmp q e.0) none (λ h. put_new q row es h)
  where
    by : (o : Ordering) → cond (is_eq o) (Some e.1) (find place_cmp q es) ≡ None → (find place_cmp q es ≡ None → length (put place_cmp q row es) ≡ suc (length es))
        → length (by_order o ((q, row) ∷ e ∷ es) ((e.0, row) ∷ es) (e ∷ put place_cmp q row es)) ≡ suc (suc (length es))
    by Less h on = refl
    by Equal h on = cc
    by Greater h on = ap suc (on h)

-- no row stands at the place of a key that none of them has
key_absent : (t : ℕ) (key : Value) (rows : List (List Value)) → list_all (λ other. not (is_same_value key (key_of other))) rows ≡ true → lookup (is_at (place_cmp (place t key))) (entries_in t rows) ≡ None
key_absent t key [] apart = refl
key_absent t key (row ∷ rows) apart =
    ap (λ b. cond b (Some row) (lookup (is_at (place_cmp (place t key))) (entries_in t rows))) away
    ∙ key_absent t key rows (right (not (is_same_value key (key_of row))) (list_all (λ other. not (is_same_value key (key_of other))) rows) apart)
  where
    off : (b : Bool) → not b ≡ true → b ≡ false
    off true h = cc
    off false h = refl

    away : is_eq (place_cmp (place t key) (place t (key_of row))) ≡ false
    away =
        ap is_eq (same_table t key (place t (key_of row)) (eq-eqb t t refl))
        ∙ off (is_same_value key (key_of row)) (left (not (is_same_value key (key_of row))) (list_all (λ other. not (is_same_value key (key_of other))) rows) apart)

-- rows whose keys differ are as many as their entries
as_many : (t : ℕ) (rows : List (List Value)) → loaded.are_apart rows ≡ true → length (tables_in t rows).list ≡ length rows
as_many t [] apart = refl
as_many t (row ∷ rows) apart =
    let away = left (list_all (λ other. not (is_same_value (key_of row) (key_of other))) rows) (loaded.are_apart rows) apart in
    put_new (place t (key_of row)) row (tables_in t rows).list (row_at-tables_of (place t (key_of row)) (entries_in t rows) ∙ key_absent t (key_of row) rows away)
    ∙ ap suc (as_many t rows (right (list_all (λ other. not (is_same_value (key_of row) (key_of other))) rows) (loaded.are_apart rows) apart))

-- of lists with the same keys as many pass
many_keys : {X Y : Type 0} (p : Place → Bool) (ds : List (Place × X)) (es : List (Place × Y)) → keys_of ds ≡ keys_of es → length (where_key place_cmp p ds) ≡ length (where_key place_cmp p es)
many_keys p [] [] same = refl
many_keys p [] (e ∷ es) same = cc
many_keys p (d ∷ ds) [] same = cc
many_keys p (d ∷ ds) (e ∷ es) same =
    ap (λ (k : Place). length (cond (p k) (d ∷ where_key place_cmp p ds) (where_key place_cmp p ds))) head
    ∙ by (p e.0) (many_keys p ds es tail)
  where
    head : d.0 ≡ e.0
    head = cc

    tail : keys_of ds ≡ keys_of es
    tail = cc

    by : (b : Bool) → length (where_key place_cmp p ds) ≡ length (where_key place_cmp p es) → length (cond b (d ∷ where_key place_cmp p ds) (where_key place_cmp p ds)) ≡ length (cond b (e ∷ where_key place_cmp p es) (where_key place_cmp p es))
    by true h = ap suc h
    by false h = h

-- as many rows came as the directory has places in the range
pub loaded_count : (range : KeyRange) (directory : List (Place × ℕ)) (es : Tables) (old new : RowsOf) → keys_of directory ≡ keys_of es.list → HasLoaded range es old new → length new.rows ≡ length old.rows + count_in old.table range directory
loaded_count range directory es old new keys has =
    ap (λ (r : RowsOf). length r.rows) has.came
    ∙ length-append old.rows has.more
    ∙ ap (λ n. length old.rows + n)
    (sym (as_many old.table has.more has.apart) ∙ ap (λ (t : Tables). length t.list) has.rows ∙ sym (many_keys (is_in old.table range) directory es.list keys))

-- EACH PLACE ON ONE PAGE

found_page : (q : Place) (pages : List (List TableRow)) (page : ℕ) → is_some (found_row q (get_or pages page [])) ≡ true → is_some (found_row q (all_rows pages)) ≡ true
found_page q [] page some = cc
found_page q (rows ∷ pages) zero some = found_front q rows (all_rows pages) some
found_page q (rows ∷ pages) (suc page) some = found_behind q rows (all_rows pages) (found_page q pages page some)

not_both : (q : Place) (xs ys : List TableRow) → are_apart (xs ++ ys) ≡ true → is_some (found_row q xs) ≡ true → is_some (found_row q ys) ≡ true → ⊥
not_both q [] ys apart one two = cc
not_both q (x ∷ xs) ys apart one two = by (is_row_at q x) refl one (λ h. not_both q xs ys (right (are_away (place_of x) (xs ++ ys)) (are_apart (xs ++ ys)) apart) h two)
  where
    clash : true ≡ false → ⊥
    clash h = cc

    by : (b : Bool) → is_row_at q x ≡ b → is_some (cond b (Some x.row) (found_row q xs)) ≡ true → (is_some (found_row q xs) ≡ true → ⊥) → ⊥
    by true at h on =
        let here : q ≡ place_of x = place_same q (place_of x) (equal_is (place_cmp q (place_of x)) at) in
        let away = away_behind (place_of x) xs ys (left (are_away (place_of x) (xs ++ ys)) (are_apart (xs ++ ys)) apart) in
        clash (sym two ∙ ap is_some (found_away q ys (subst (λ p. are_away p ys ≡ true) (sym here) away)))
    by false at h on = on h

one_page : (q : Place) (pages : List (List TableRow)) (a b : ℕ) → are_apart (all_rows pages) ≡ true → is_some (found_row q (get_or pages a [])) ≡ true → is_some (found_row q (get_or pages b [])) ≡ true → a ≡ b
one_page q [] a b apart one two = cc
one_page q (rows ∷ pages) zero zero apart one two = refl
one_page q (rows ∷ pages) zero (suc b) apart one two = absurd (not_both q rows (all_rows pages) apart one (found_page q pages b two))
one_page q (rows ∷ pages) (suc a) zero apart one two = absurd (not_both q rows (all_rows pages) apart two (found_page q pages a one))
one_page q (rows ∷ pages) (suc a) (suc b) apart one two = ap suc (one_page q pages a b (apart_behind rows (all_rows pages) apart) one two)

nothing_within : (t : ℕ) (range : KeyRange) (rows : List TableRow) → ((i : ℕ) (r : TableRow) → slice_get rows i ≡ Some r → is_row_in t range r ≡ false) → rows_within t range rows ≡ []
nothing_within t range [] none = refl
nothing_within t range (r ∷ rows) none =
    ap (λ b. map (λ (s : TableRow). s.row) (cond b (r ∷ filter (is_row_in t range) rows) (filter (is_row_in t range) rows))) (none 0 r refl)
    ∙ nothing_within t range rows (λ i s at. none (suc i) s at)

module _ (directory : List (Place × ℕ)) (pages : List (List TableRow)) (es : Tables) (are : AreRowsOf directory pages es) where
  -- the directory has the page of each row
  pub page_of_row : (page : ℕ) → page < length pages → (i : ℕ) (r : TableRow) → slice_get (get_or pages page []) i ≡ Some r → page_of directory (place_of r) ≡ Some page
  page_of_row page low i r at = by (page_of directory (place_of r)) refl (page_alike (place_of r) directory es.list are.keys ∙ ap is_some (found_on directory pages es are page low i r at))
    where
      rows : List TableRow
      rows = get_or pages page []

      here : is_some (found_row (place_of r) (get_or pages page [])) ≡ true
      here =
          ap (λ (l : List TableRow). is_some (found_row (place_of r) l)) (parted rows i r at)
          ∙ found_at (place_of r) (take i rows) (drop (suc i) rows) r (own_place (place_of r))

      by : (o : Option ℕ) → page_of directory (place_of r) ≡ o → is_some o ≡ true → o ≡ Some page
      by None is some = cc
      by (Some other) is some = ap (λ (n : ℕ). Some n) (one_page (place_of r) pages other page are.apart (are.placed (place_of r) other is) here)

  -- where each page with a row of the range is marked, the others have none
  pub others_none : (t : ℕ) (range : KeyRange) (marks : List Bool) → length marks ≡ length pages → HaveAllOf t range directory marks → HaveOthersNone t range marks pages
  others_none t range marks count all page low unmarked = nothing_within t range (get_or pages page []) (λ i r at. by i r at (is_row_in t range r) refl)
    where
      clash : true ≡ false → ⊥
      clash h = cc

      by : (i : ℕ) (r : TableRow) → slice_get (get_or pages page []) i ≡ Some r → (b : Bool) → is_row_in t range r ≡ b → is_row_in t range r ≡ false
      by i r at false is = is
      by i r at true is = absurd (clash (sym (all (place_of r) page (page_of_row page low i r at) is (omega (arith, low, count))) ∙ unmarked))

  -- all that is in the range was loaded
  pub loaded_range : (range : KeyRange) (old new : RowsOf) → new ≡ with_rows (rows_within old.table range (all_rows pages)) old → HasLoaded range es old new
  loaded_range range old new came = record {
    more = rows_within old.table range (all_rows pages);
    came = came;
    apart = within_apart old.table range (all_rows pages) are.apart;
    rows = within_part old.table range (all_rows pages) are.apart ∙ ap (part_of old.table range) are.tables;
  }

-- ALL PAGES

-- all are marked
pub all_marked : (t : ℕ) (range : KeyRange) (marks : List Bool) (pages : List (List TableRow)) → length marks ≡ length pages → ((i : ℕ) → i < length marks → get_or marks i false ≡ true) → HaveOthersNone t range marks pages
all_marked t range marks pages count all page low unmarked = absurd (clash (sym (all page (omega (arith, low, count))) ∙ unmarked))
  where
    clash : true ≡ false → ⊥
    clash h = cc

module _ (t : ℕ) (range : KeyRange) (pages : List (List TableRow)) (start : RowsOf) where
  page_more : (n : ℕ) → n < length pages → rows_within t range (all_rows (take (n + 1) pages)) ≡ rows_within t range (all_rows (take n pages)) ++ rows_within t range (get_or pages n [])
  page_more n low =
      ap (λ (ps : List (List TableRow)). rows_within t range (all_rows ps)) (take_more pages n [] low)
      ∙ ap (rows_within t range) (rows_push (take n pages) (get_or pages n []))
      ∙ within_append t range (all_rows (take n pages)) (get_or pages n [])

  -- a page more was looked at
  pub page_loaded : (n : ℕ) → n < length pages → (now new : RowsOf) → now ≡ with_rows (rows_within t range (all_rows (take n pages))) start → new ≡ with_rows (rows_within t range (get_or pages n [])) now
      → new ≡ with_rows (rows_within t range (all_rows (take (n + 1) pages))) start
  page_loaded n low now new so more =
      more ∙ ap (λ (s : RowsOf). with_rows (rows_within t range (get_or pages n [])) s) so
      ∙ with_twice (rows_within t range (all_rows (take n pages))) (rows_within t range (get_or pages n [])) start
      ∙ ap (λ (l : List (List Value)). with_rows l start) (sym (page_more n low))

  -- and one that has none was passed
  pub page_passed : (n : ℕ) → n < length pages → (now : RowsOf) → now ≡ with_rows (rows_within t range (all_rows (take n pages))) start → rows_within t range (get_or pages n []) ≡ []
      → now ≡ with_rows (rows_within t range (all_rows (take (n + 1) pages))) start
  page_passed n low now so none =
      so ∙ ap (λ (l : List (List Value)). with_rows l start) (sym (page_more n low ∙ ap (λ (l : List (List Value)). rows_within t range (all_rows (take n pages)) ++ l) none ∙ append-nil (rows_within t range (all_rows (take n pages)))))
