-- How many bytes rows take, and how many pages they fill.
use Rattle.salt_bytes.specs.Page.{TableRow, spell_table_row}
use Rattle.salt_bytes.specs.Spellable.{Every}
use Rattle.salt_checkpoint.proofs.Flushed.{few_pages, sum_of}
use Rattle.salt_checkpoint.proofs.Moved.{are_apart, are_away, place_of}
use Rattle.salt_model.specs.Tables.{Entry, Tables, changed_at, is_other, make_change, no_rows, place_cmp, put_row, remove_at, row_at, set_row, with_changes}
use Rattle.salt_model.specs.declared.places.Place.{Place}
use Rattle.salt_pages.specs.Pages.{used_by}
use Rattle.salt_directory.proofs.Alike.{turned}
use Rattle.salt_directory.specs.Bytes.{IsWithin, bytes_of_entries, bytes_put, row_bytes}
use Rattle.salt_directory.specs.Pages.{AreRowsOf, all_rows, free_on}
use Rattle.salt_directory.specs.Space.{HasRoom, may_grow}
use Rattle.salt_stands.proofs.Booleans.{left, right}
use Rattle.salt_stands.proofs.Places.{row_at_set}
use Rattle.salt_stands.specs.Partition.{is_at_other}
use Rattle.salt_stands.specs.Tables.{change_of_row}
use Rattle.salt_values.specs.declared.change.Change.{Change}
use Rattle.salt_values.specs.declared.value.Value.{Value}
use Rattle.std.proofs.Common.{Bool, Equal, Greater, Less, List, None, Option, Ordering, Some, [], ap, arith, cond, false, get_or, length, length-append, map, not, refl, subst, suc, sum, sym, true, ℕ, ◌*◌, ◌+◌, ◌++◌, ◌/◌, ◌<◌, ◌≡◌, ◌≤◌, ◌∙◌, ◌∷◌}
use Rattle.std.proofs.lemmas.Bool.{leb-true}
use Rattle.std.proofs.lemmas.List.Sums.{sum_by-cons}
use Rattle.std.proofs.lemmas.List.{get_or-map, length-map}
use Rattle.std.specs.FinMap.Entries.{by_order, find, put, where_key}
use Rattle.std.specs.List.{flat_map}
use Rattle.std.specs.Ordering.{is_eq}

-- BYTES OF ROWS

pub rows_bytes : List TableRow → ℕ
rows_bytes [] = 0
rows_bytes (r ∷ rows) = row_bytes r.row + rows_bytes rows

pub used_is : (rows : List TableRow) → used_by rows ≡ rows_bytes rows
unfolding rows_bytes
used_is [] = refl
used_is (r ∷ rows) = omega (arith, used_is rows, length-append (spell_table_row r) (flat_map spell_table_row rows))

bytes_append : (xs ys : List TableRow) → rows_bytes (xs ++ ys) ≡ rows_bytes xs + rows_bytes ys
unfolding rows_bytes
bytes_append [] ys = omega arith
bytes_append (x ∷ xs) ys = omega (arith, bytes_append xs ys)

pub pages_bytes : (pages : List (List TableRow)) → sum_of (map used_by pages) ≡ rows_bytes (all_rows pages)
unfolding rows_bytes
pages_bytes [] = refl
pages_bytes (rows ∷ pages) = omega (arith, used_is rows, pages_bytes pages, bytes_append rows (all_rows pages))

-- BYTES OF TABLES

put_bytes : (q : Place) (row : List Value) (es : List Entry) → find place_cmp q es ≡ None → bytes_of_entries (put place_cmp q row es) ≡ bytes_of_entries es + row_bytes row
put_bytes q row [] none = omega arith
put_bytes q row (e ∷ es) none = by (place_cmp q e.0) none (λ h. put_bytes q row es h)
  where
    by : (o : Ordering) → cond (is_eq o) (Some e.1) (find place_cmp q es) ≡ None → (find place_cmp q es ≡ None → bytes_of_entries (put place_cmp q row es) ≡ bytes_of_entries es + row_bytes row)
        → bytes_of_entries (by_order o ((q, row) ∷ e ∷ es) ((e.0, row) ∷ es) (e ∷ put place_cmp q row es)) ≡ bytes_of_entries (e ∷ es) + row_bytes row
    by Less h on = omega arith
    by Equal h on = cc
    by Greater h on = omega (arith, on h)

pub put_most : (q : Place) (row : List Value) (es : List Entry) → bytes_of_entries (put place_cmp q row es) ≤ bytes_of_entries es + row_bytes row
put_most q row [] = omega arith
put_most q row (e ∷ es) = by (place_cmp q e.0) (put_most q row es)
  where
    by : (o : Ordering) → bytes_of_entries (put place_cmp q row es) ≤ bytes_of_entries es + row_bytes row → bytes_of_entries (by_order o ((q, row) ∷ e ∷ es) ((e.0, row) ∷ es) (e ∷ put place_cmp q row es)) ≤ bytes_of_entries (e ∷ es) + row_bytes row
    by Less on = omega arith
    by Equal on = omega arith
    by Greater on = omega (arith, on)

where_most : (p : Place → Bool) (es : List Entry) → bytes_of_entries (where_key place_cmp p es) ≤ bytes_of_entries es
where_most p [] = omega arith
where_most p (e ∷ es) = by (p e.0) (where_most p es)
  where
    by : (b : Bool) → bytes_of_entries (where_key place_cmp p es) ≤ bytes_of_entries es → bytes_of_entries (cond b (e ∷ where_key place_cmp p es) (where_key place_cmp p es)) ≤ bytes_of_entries (e ∷ es)
    by true on = omega (arith, on)
    by false on = omega (arith, on)

pub removed_most : (q : Place) (t : Tables) → bytes_of_entries (remove_at q t).list ≤ bytes_of_entries t.list
removed_most q t = where_most (is_other q) t.list

pub change_most : (c : Change) (t : Tables) → bytes_of_entries (make_change c t).list ≤ bytes_of_entries t.list + bytes_put c.row
change_most c t = by c.row
  where
    by : (row : Option (List Value)) → bytes_of_entries (set_row (changed_at c) row t).list ≤ bytes_of_entries t.list + bytes_put row
    by None = omega (arith, removed_most (changed_at c) t)
    by (Some row) = put_most (changed_at c) row t.list

-- of rows that are put where none stands
made_bytes : (rows : List TableRow) (t : Tables) → are_apart rows ≡ true → Every (λ r. row_at (place_of r) t ≡ None) rows → bytes_of_entries (with_changes (map change_of_row rows) t).list ≡ bytes_of_entries t.list + rows_bytes rows
unfolding with_changes rows_bytes
made_bytes [] t apart none = omega arith
made_bytes (r ∷ rows) t apart none =
    let rest : bytes_of_entries (with_changes (map change_of_row rows) (put_row (place_of r) r.row t)).list ≡ bytes_of_entries (put_row (place_of r) r.row t).list + rows_bytes rows =
    made_bytes rows (put_row (place_of r) r.row t) (right (are_away (place_of r) rows) (are_apart rows) apart) (others rows (left (are_away (place_of r) rows) (are_apart rows) apart) none.1) in
    let one : bytes_of_entries (put_row (place_of r) r.row t).list ≡ bytes_of_entries t.list + row_bytes r.row = put_bytes (place_of r) r.row t.list none.0 in
    rest ∙ omega (arith, one)
  where
    un : (b : Bool) → not b ≡ true → b ≡ false
    un true h = cc
    un false h = refl

    others : (ss : List TableRow) → are_away (place_of r) ss ≡ true → Every (λ s. row_at (place_of s) t ≡ None) ss → Every (λ s. row_at (place_of s) (put_row (place_of r) r.row t) ≡ None) ss
    others [] away none = tt
    others (s ∷ ss) away none = (
      row_at_set (place_of s) (place_of r) (Some r.row) t
          ∙ ap (λ b. cond b (Some r.row) (row_at (place_of s) t)) (turned (place_of s) (place_of r) ∙ un (is_eq (place_cmp (place_of r) (place_of s))) (left (is_at_other (place_of r) (change_of_row s)) (are_away (place_of r) ss) away))
          ∙ none.0,
      others ss (right (is_at_other (place_of r) (change_of_row s)) (are_away (place_of r) ss) away) none.1,
    )

none_yet : (rows : List TableRow) → Every (λ r. row_at (place_of r) no_rows ≡ None) rows
none_yet [] = tt
none_yet (r ∷ rows) = (refl, none_yet rows)

-- what stands on pages takes as many bytes as the tables
pub tables_bytes : (directory : List (Place × ℕ)) (pages : List (List TableRow)) (t : Tables) → AreRowsOf directory pages t → bytes_of_entries t.list ≡ rows_bytes (all_rows pages)
tables_bytes directory pages t are = ap (λ (u : Tables). bytes_of_entries u.list) (sym are.tables) ∙ made_bytes (all_rows pages) no_rows are.apart (none_yet (all_rows pages)) ∙ omega arith

-- PAGES

every_index : {A : Type 0} (P : A → Type 0) (none : A) (xs : List A) → ((i : ℕ) → i < length xs → P (get_or xs i none)) → Every P xs
every_index P none [] each = tt
every_index P none (x ∷ xs) each = (each 0 (omega arith), every_index P none xs (λ i low. each (suc i) (omega (arith, low))))

full_page : (rows : List TableRow) (size : ℕ) → free_on rows < size → 8190 < used_by rows + size
full_page rows size less = omega (arith, less)

-- where none of the pages has room, they are few
pub few : (pages : List (List TableRow)) (free : List ℕ) (size : ℕ) → free ≡ map free_on pages → size ≤ 4115 → HasRoom free size None → 4076 * length pages ≤ rows_bytes (all_rows pages)
few pages free size is small none =
    let each : Every (λ n. 8190 < n + size) (map used_by pages) =
    every_index (λ n. 8190 < n + size) 0 (map used_by pages) (λ i low.
    let within : i < length pages = omega (arith, low, length-map pages used_by) in
    subst (λ n. 8190 < n + size) (sym (get_or-map used_by pages i [] 0 within))
    (full_page (get_or pages i []) size (subst (λ n. n < size) (ap (λ (l : List ℕ). get_or l i 0) is ∙ get_or-map free_on pages i [] 0 within) (none i (omega (arith, within, ap length is, length-map pages free_on)))))) in
    let sum : 4076 * length (map used_by pages) ≤ sum_of (map used_by pages) = few_pages size small (map used_by pages) each in
    omega (arith, sum, length-map pages used_by, pages_bytes pages)

-- bytes that are not free are used
least_used : (pages : List (List TableRow)) → 8190 * length pages ≤ sum (map free_on pages) + rows_bytes (all_rows pages)
unfolding rows_bytes
least_used [] = omega arith
least_used (rows ∷ pages) = omega (arith, least_used pages, own rows, used_is rows, bytes_append rows (all_rows pages), sum_by-cons (λ n. n) (free_on rows) (map free_on pages))
  where
    own : (rows : List TableRow) → 8190 ≤ free_on rows + used_by rows
    own rows = omega arith

-- where there may be one page more, they are few
pub few_grown : (pages : List (List TableRow)) (free : List ℕ) → free ≡ map free_on pages → may_grow free ≡ true → 4076 * length pages ≤ rows_bytes (all_rows pages)
few_grown pages free is grows =
    let most : sum free ≤ length free * 4114 = leb-true (sum free) (length free * 4114) grows in
    let least = least_used pages in
    omega (arith, subst (λ (l : List ℕ). sum l ≤ length l * 4114) is most, length-map pages free_on, least)

-- WITHIN

pub one_page_more : (n bytes : ℕ) → 4076 * n ≤ bytes → n + 1 ≤ bytes / 4076 + 1
one_page_more n bytes less = omega (arith, less)

pub within_same : (n bytes m : ℕ) → m ≡ n → IsWithin n bytes m
within_same n bytes m same = omega (arith, same)

pub within_one : (n bytes m : ℕ) → 4076 * n ≤ bytes → m ≤ n + 1 → IsWithin n bytes m
within_one n bytes m less few = let one = one_page_more n bytes less in omega (arith, one, few)

pub within_more : (n bytes most m : ℕ) → bytes ≤ most → IsWithin n bytes m → IsWithin n most m
within_more n bytes most m less within = omega (arith, less, within)

pub within_on : (n k m bytes : ℕ) → IsWithin n bytes k → IsWithin k bytes m → IsWithin n bytes m
within_on n k m bytes first second = omega (arith, first, second)
