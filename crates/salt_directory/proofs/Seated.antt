-- The rows of a range are listed with their pages, and loaded one by one.
use Rattle.salt_bytes.specs.Spellable.{Every}
use Rattle.salt_directory.proofs.Keys.{first, second}
use Rattle.salt_directory.proofs.Marking.{all_pass, in_from, narrowed, none_behind}
use Rattle.salt_directory.proofs.Placed.{found_filtered, less_apart, page_there}
use Rattle.salt_directory.specs.Directories.{is_in}
use Rattle.salt_directory.specs.Loading.{HasLoaded, IsSeated, count_in, part_of, seat_of, seats_in}
use Rattle.salt_directory.specs.Pages.{page_of}
use Rattle.salt_directory.specs.declared.seats.Seat.{Seat}
use Rattle.salt_eval.proofs.InOrder.{parted, tables_of-list}
use Rattle.salt_eval.proofs.Nexts.{from, same_table}
use Rattle.salt_eval.specs.Views.{start_of, tables_of}
use Rattle.salt_loaded.specs.Rows.{RowsOf, are_apart, entries_in, tables_in, with_rows}
use Rattle.salt_model.specs.Tables.{Entry, Tables, place, place_cmp, row_at}
use Rattle.salt_model.specs.declared.places.Place.{Place}
use Rattle.salt_ranges.specs.Ranges.{has_key}
use Rattle.salt_ranges.specs.declared.range.KeyRange.{KeyRange}
use Rattle.salt_stands.proofs.Booleans.{join, left, right}
use Rattle.salt_stands.proofs.Places.{same_tables}
use Rattle.salt_values.specs.Value.{is_same_value, key_of}
use Rattle.salt_values.specs.declared.value.Value.{Value}
use Rattle.std.proofs.Common.{Bool, List, None, Some, [], ap, append_assoc, arith, cond, eqb-true, false, length, map, not, refl, subst, suc, sym, take, true, zero, ℕ, ◌+◌, ◌++◌, ◌<◌, ◌==◌, ◌≡◌, ◌∙◌, ◌∷◌}
use Rattle.std.proofs.lemmas.Bool.{eq-eqb}
use Rattle.std.proofs.lemmas.List.{append-nil}
use Rattle.std.specs.BTreeMap.Range.{entries_between}
use Rattle.std.specs.FinMap.Entries.{below_all, find, is_sorted, is_sorted-where_key, where_key}
use Rattle.std.specs.List.{list_all}
use Rattle.std.specs.Map.{keys_of}
use Rattle.std.specs.Ordering.{is_eq, is_lt}
use Rattle.std.specs.Prelude.{slice_get, ⊤}
use Rattle.std.specs.declared.ops.Bound.TheVariants.{Unbounded}
use lib.Dec.{T}

module _ (t : ℕ) (range : KeyRange) where
  abbrev within : List (Place × ℕ) → List (Place × ℕ)
  within es = where_key place_cmp (is_in t range) es

  -- COUNTED

  -- What is left of the directory comes in order, at or behind the lower end. What is in the range is counted, or is left.
  pub record IsCounting (directory : List (Place × ℕ)) (count : ℕ) (rest : List (Place × ℕ)) : Type 0 where
    pub in_order : T (is_sorted place_cmp rest)
    pub begun : list_all (λ (e : Place × ℕ). from t range None e.0) rest ≡ true
    pub counted : count + count_in t range rest ≡ count_in t range directory

  pub counting_begins : (directory rest : List (Place × ℕ)) → T (is_sorted place_cmp directory) → rest ≡ entries_between place_cmp (start_of t range.lo None) Unbounded directory → IsCounting directory 0 rest
  counting_begins directory rest sorted is = subst (IsCounting directory 0) (sym is) (record {
    in_order = is_sorted-where_key place_cmp (from t range None) directory sorted;
    begun = all_pass (from t range None) directory;
    counted = omega (arith, ap (λ (l : List (Place × ℕ)). length l) (narrowed (is_in t range) (from t range None) (in_from t range) directory));
  })

  module _ (directory : List (Place × ℕ)) (count : ℕ) (rest : List (Place × ℕ)) (so : IsCounting directory count rest) where
    -- a row of the range is counted
    pub counting_goes : (e : Place × ℕ) (left_over : List (Place × ℕ)) → rest ≡ e ∷ left_over → is_in t range e.0 ≡ true → IsCounting directory (count + 1) left_over
    counting_goes e left_over is inside = by (subst (IsCounting directory count) is so)
      where
        more : count_in t range (e ∷ left_over) ≡ suc (count_in t range left_over)
        more = ap (λ b. length (cond b (e ∷ within left_over) (within left_over))) inside

        by : IsCounting directory count (e ∷ left_over) → IsCounting directory (count + 1) left_over
        by h = record {
          in_order = (parted (below_all place_cmp e.0 left_over) (is_sorted place_cmp left_over) h.in_order).1;
          begun = right (from t range None e.0) (list_all (λ (f : Place × ℕ). from t range None f.0) left_over) h.begun;
          counted = omega (arith, h.counted, more);
        }

    counted_all : within rest ≡ [] → count ≡ count_in t range directory
    counted_all none = omega (arith, so.counted, ap (λ (l : List (Place × ℕ)). length l) none)

    -- the directory is at its end
    pub counting_ends : rest ≡ [] → count ≡ count_in t range directory
    counting_ends done = counted_all (ap within done)

    -- or what comes is behind the range
    pub counting_stops : (e : Place × ℕ) (left_over : List (Place × ℕ)) → rest ≡ e ∷ left_over → is_in t range e.0 ≡ false → count ≡ count_in t range directory
    counting_stops e left_over is outside = counted_all (ap within is ∙ by (subst (IsCounting directory count) is so))
      where
        by : IsCounting directory count (e ∷ left_over) → within (e ∷ left_over) ≡ []
        by h = none_behind t range e left_over h.in_order h.begun outside

  -- LISTED

  -- rows that come in order, at or behind the lower end: those of the range come first
  front : (rows : List (Place × ℕ)) → T (is_sorted place_cmp rows) → list_all (λ (e : Place × ℕ). from t range None e.0) rows ≡ true → take (count_in t range rows) rows ≡ within rows
  front [] sorted begun = refl
  front (e ∷ rows) sorted begun =
      by (is_in t range e.0) refl (front rows (parted (below_all place_cmp e.0 rows) (is_sorted place_cmp rows) sorted).1 (right (from t range None e.0) (list_all (λ (f : Place × ℕ). from t range None f.0) rows) begun))
    where
      by : (b : Bool) → is_in t range e.0 ≡ b → take (count_in t range rows) rows ≡ within rows → take (count_in t range (e ∷ rows)) (e ∷ rows) ≡ within (e ∷ rows)
      by true inside more =
          let is : within (e ∷ rows) ≡ e ∷ within rows = ap (λ b. cond b (e ∷ within rows) (within rows)) inside in
          ap (λ (l : List (Place × ℕ)). take (length l) (e ∷ rows)) is ∙ ap (λ (l : List (Place × ℕ)). e ∷ l) more ∙ sym is
      by false outside more =
          let is : within (e ∷ rows) ≡ [] = none_behind t range e rows sorted begun outside in
          ap (λ (l : List (Place × ℕ)). take (length l) (e ∷ rows)) is ∙ sym is

  -- so many rows as the range has, from its lower end on, are its rows
  pub first_seats : (directory rows : List (Place × ℕ)) (count : ℕ) → T (is_sorted place_cmp directory) → rows ≡ entries_between place_cmp (start_of t range.lo None) Unbounded directory → count ≡ count_in t range directory → map seat_of (take count rows) ≡ seats_in t range directory
  first_seats directory rows count sorted is all =
      let begun = counting_begins directory rows sorted is in
      let same : count_in t range directory ≡ count_in t range rows = omega (arith, begun.counted) in
      ap (λ n. map seat_of (take n rows)) (all ∙ same)
      ∙ ap (map seat_of) (front rows begun.in_order begun.begun)
      ∙ ap (λ (l : List (Place × ℕ)). map seat_of (within l)) is
      ∙ ap (map seat_of) (narrowed (is_in t range) (from t range None) (in_from t range) directory)

  -- so many of the rows are left to be listed
  pub seating_goes : (directory rows left_over : List (Place × ℕ)) (n m : ℕ) (seats new : List Seat) (e : Place × ℕ) → seats ++ map seat_of (take n rows) ≡ seats_in t range directory → rows ≡ e ∷ left_over → m + 1 ≡ n → new ≡ seats ++ seat_of e ∷ [] → new ++ map seat_of (take m left_over) ≡ seats_in t range directory
  seating_goes directory rows left_over n m seats new e listed is one made =
      ap (λ l. l ++ map seat_of (take m left_over)) made
      ∙ append_assoc seats (seat_of e ∷ []) (map seat_of (take m left_over))
      ∙ ap (λ (l : List (Place × ℕ)). seats ++ map seat_of l) first
      ∙ listed
    where
      next : suc m ≡ n
      next = omega (arith, one)

      first : e ∷ take m left_over ≡ take n rows
      first = ap (λ (l : List (Place × ℕ)). take (suc m) l) (sym is) ∙ ap (λ k. take k rows) next

  -- none is left
  pub seating_ends : (directory rows : List (Place × ℕ)) (n : ℕ) (seats : List Seat) → seats ++ map seat_of (take n rows) ≡ seats_in t range directory → (0 < n → rows ≡ []) → seats ≡ seats_in t range directory
  seating_ends directory rows n seats listed done = sym (append-nil seats) ∙ ap (λ (l : List (Place × ℕ)). seats ++ map seat_of l) (sym (none n done)) ∙ listed
    where
      none : (k : ℕ) → (0 < k → rows ≡ []) → take k rows ≡ []
      none zero done = refl
      none (suc k) done = ap (λ (l : List (Place × ℕ)). take (suc k) l) (done (omega arith))

  own_place : (q : Place) → is_in t range q ≡ true → place t q.key ≡ q
  own_place q inside = λ i. place (eqb-true t q.table (left (t == q.table) (has_key range q.key) inside) i) q.key

  -- each stands on its page
  seated_on : (directory es : List (Place × ℕ)) → list_all (λ (e : Place × ℕ). is_in t range e.0) es ≡ true → ((i : ℕ) (e : Place × ℕ) → slice_get es i ≡ Some e → page_of directory e.0 ≡ Some e.1) → Every (IsSeated t directory) (map seat_of es)
  seated_on directory [] inside found = tt
  seated_on directory (e ∷ es) inside found = (
    ap (page_of directory) (own_place e.0 (left (is_in t range e.0) (list_all (λ (f : Place × ℕ). is_in t range f.0) es) inside)) ∙ found 0 e refl,
    seated_on directory es (right (is_in t range e.0) (list_all (λ (f : Place × ℕ). is_in t range f.0) es) inside) (λ i f at. found (suc i) f at),
  )

  pub seated : (directory : List (Place × ℕ)) → T (is_sorted place_cmp directory) → Every (IsSeated t directory) (seats_in t range directory)
  seated directory sorted = seated_on directory (within directory) (all_pass (is_in t range) directory) (λ i e at. page_there (is_in t range) directory sorted i e at)

-- LOADED

-- these are the rows that the tables have at these keys
abbrev pub AreRowsAt : ℕ → Tables → List Seat → List (List Value) → Type 0
AreRowsAt t es [] [] = ⊤
AreRowsAt t es [] (row ∷ rows) = ⊥
AreRowsAt t es (s ∷ seats) [] = ⊥
AreRowsAt t es (s ∷ seats) (row ∷ rows) = (key_of row ≡ s.key) × (Some row ≡ row_at (place t s.key) es) × AreRowsAt t es seats rows

-- of lists with the same keys the same ones pass
same_within : {X Y : Type 0} (p : Place → Bool) (ds : List (Place × X)) (es : List (Place × Y)) → keys_of ds ≡ keys_of es → keys_of (where_key place_cmp p ds) ≡ keys_of (where_key place_cmp p es)
same_within p [] [] same = refl
same_within p [] (e ∷ es) same = cc
same_within p (d ∷ ds) [] same = cc
same_within p (d ∷ ds) (e ∷ es) same =
    ap (λ (k : Place). keys_of (cond (p k) (d ∷ where_key place_cmp p ds) (where_key place_cmp p ds))) head
    ∙ by (p e.0) (same_within p ds es tail)
  where
    head : d.0 ≡ e.0
    head = cc

    tail : keys_of ds ≡ keys_of es
    tail = cc

    by : (b : Bool) → keys_of (where_key place_cmp p ds) ≡ keys_of (where_key place_cmp p es) → keys_of (cond b (d ∷ where_key place_cmp p ds) (where_key place_cmp p ds)) ≡ keys_of (cond b (e ∷ where_key place_cmp p es) (where_key place_cmp p es))
    by true h = λ i. head i ∷ h i
    by false h = h

-- rows whose keys rise are apart
below_apart : (t : ℕ) (key : Value) (rows : List (List Value)) → T (below_all place_cmp (place t key) (entries_in t rows)) → list_all (λ other. not (is_same_value key (key_of other))) rows ≡ true
below_apart t key [] below = refl
below_apart t key (row ∷ rows) below =
    join (not (is_same_value key (key_of row))) (list_all (λ other. not (is_same_value key (key_of other))) rows)
    (ap not (sym (ap is_eq (same_table t key (place t (key_of row)) (eq-eqb t t refl))) ∙ less_apart (place_cmp (place t key) (place t (key_of row))) (first (is_lt (place_cmp (place t key) (place t (key_of row)))) _ below)))
    (below_apart t key rows (second (is_lt (place_cmp (place t key) (place t (key_of row)))) _ below))

sorted_apart : (t : ℕ) (rows : List (List Value)) → T (is_sorted place_cmp (entries_in t rows)) → are_apart rows ≡ true
sorted_apart t [] sorted = refl
sorted_apart t (row ∷ rows) sorted =
    join (list_all (λ other. not (is_same_value (key_of row) (key_of other))) rows) (are_apart rows)
    (below_apart t (key_of row) rows (first (below_all place_cmp (place t (key_of row)) (entries_in t rows)) _ sorted))
    (sorted_apart t rows (second (below_all place_cmp (place t (key_of row)) (entries_in t rows)) _ sorted))

module _ (t : ℕ) (range : KeyRange) (es : Tables) where
  -- rows at the keys of these entries are theirs
  own_entries : (ds : List (Place × ℕ)) (fs : List Entry) → keys_of ds ≡ keys_of fs → list_all (λ (d : Place × ℕ). is_in t range d.0) ds ≡ true → ((i : ℕ) (f : Entry) → slice_get fs i ≡ Some f → row_at f.0 es ≡ Some f.1)
      → (rows : List (List Value)) → AreRowsAt t es (map seat_of ds) rows → entries_in t rows ≡ fs
  own_entries [] [] same inside found [] are = refl
  own_entries [] [] same inside found (row ∷ rows) are = absurd are
  own_entries [] (f ∷ fs) same inside found rows are = cc
  own_entries (d ∷ ds) [] same inside found rows are = cc
  own_entries (d ∷ ds) (f ∷ fs) same inside found [] are = absurd are
  own_entries (d ∷ ds) (f ∷ fs) same inside found (row ∷ rows) are =
      by (λ tail. own_entries ds fs tail (right (is_in t range d.0) (list_all (λ (g : Place × ℕ). is_in t range g.0) ds) inside) (λ i g is. found (suc i) g is) rows are.2)
    where
      head : d.0 ≡ f.0
      head = cc

      tail : keys_of ds ≡ keys_of fs
      tail = cc

      here : place t d.0.key ≡ f.0
      here = own_place t range d.0 (left (is_in t range d.0) (list_all (λ (g : Place × ℕ). is_in t range g.0) ds) inside) ∙ head

      at : place t (key_of row) ≡ f.0
      at = ap (place t) are.0 ∙ here

      some_same : (x y : List Value) → Some x ≡ Some y → x ≡ y
      some_same x y e = cc

      own : row ≡ f.1
      own = some_same row f.1 (are.1 ∙ ap (λ (q : Place). row_at q es) here ∙ found 0 f refl)

      by : (keys_of ds ≡ keys_of fs → entries_in t rows ≡ fs) → entries_in t (row ∷ rows) ≡ f ∷ fs
      by rest = λ i. (at i, own i) ∷ rest tail i

-- all rows of the range were loaded, one by one
pub loaded_seats : (range : KeyRange) (directory : List (Place × ℕ)) (es : Tables) (old new : RowsOf) (more : List (List Value)) → keys_of directory ≡ keys_of es.list → AreRowsAt old.table es (seats_in old.table range directory) more → new ≡ with_rows more old
    → HasLoaded range es old new
loaded_seats range directory es old new more keys are came = record {
  more = more;
  came = came;
  apart = sorted_apart old.table more (subst (λ (l : List Entry). T (is_sorted place_cmp l)) (sym own) (part_of old.table range es).sorted);
  rows = same_tables (tables_in old.table more) (part_of old.table range es) (λ q. ap (find place_cmp q) listed);
}
  where
    own : entries_in old.table more ≡ (part_of old.table range es).list
    own = own_entries old.table range es (where_key place_cmp (is_in old.table range) directory) (where_key place_cmp (is_in old.table range) es.list) (same_within (is_in old.table range) directory es.list keys)
        (all_pass (is_in old.table range) directory) (λ i f at. found_filtered (is_in old.table range) es.list es.sorted i f at) more are

    listed : (tables_in old.table more).list ≡ (part_of old.table range es).list
    listed = ap (λ (l : List Entry). (tables_of l).list) own ∙ tables_of-list (part_of old.table range es).list (part_of old.table range es).sorted
