-- The rows of a range of one key.
use Rattle.salt_eval.proofs.InOrder.{less_is, parted}
use Rattle.salt_eval.proofs.Nexts.{and_true, same_table}
use Rattle.salt_eval.specs.Scans.{point_of, row_list}
use Rattle.salt_eval.specs.Views.{is_next, next_row, range_rows, rows_after}
use Rattle.salt_model.specs.Tables.{Entry, Tables, place, place_cmp, place_total, row_at}
use Rattle.salt_model.specs.Words.{first_of_list}
use Rattle.salt_model.specs.declared.places.Place.{Place}
use Rattle.salt_ranges.specs.Ranges.{has_key}
use Rattle.salt_ranges.specs.declared.range.KeyRange.{KeyRange}
use Rattle.salt_values.specs.Value.{value_cmp, value_total}
use Rattle.salt_values.specs.declared.value.Value.{Value}
use Rattle.std.proofs.Common.{ap, sym, ◌∙◌}
use Rattle.std.proofs.lemmas.Cmp.{alike_right}
use Rattle.std.specs.FinMap.Entries.{below_all, find, is_sorted}
use Rattle.std.specs.List.{filter}
use Rattle.std.specs.Ordering.{eq_by_cmp, is_eq, is_gt, ordering_reverse, ordering_then}
use Rattle.std.specs.Prelude.{Bool, List, None, Option, Some, [], cond, false, map, nat_lt, not, option_map, refl, true, ℕ, ◌&&◌, ◌==◌, ◌∷◌, ◌≡◌}
use Rattle.std.specs.declared.cmp.Ordering.TheVariants.{Equal, Greater, Less}
use Rattle.std.specs.declared.cmp.Ordering.{Ordering}
use lib.Dec.{T}

equal_is : (o : Ordering) → is_eq o ≡ true → o ≡ Equal
equal_is Less h = absurd cc
equal_is Equal h = refl
equal_is Greater h = absurd cc

other_table : (t : ℕ) (k : Value) (x : Place) → (t == x.table) ≡ false → is_eq (place_cmp (place t k) x) ≡ false
other_table t k x h = ap (λ b. is_eq (ordering_then (cond (nat_lt t x.table) Less (cond b Equal Greater)) (value_cmp k x.key))) h ∙ by (nat_lt t x.table)
  where
    by : (b : Bool) → is_eq (ordering_then (cond b Less Greater) (value_cmp k x.key)) ≡ false
    by true = refl
    by false = refl

between-equal : (a b k : Value) → value_cmp a b ≡ Equal → (not (is_gt (value_cmp a k)) && not (is_gt (value_cmp k b))) ≡ is_eq (value_cmp a k)
between-equal a b k tied = ap (λ o. not (is_gt (value_cmp a k)) && not (is_gt o)) (sym (alike_right value_total a b k tied) ∙ value_total.antisymm k a) ∙ by (value_cmp a k)
  where
    by : (o : Ordering) → (not (is_gt o) && not (is_gt (ordering_reverse o))) ≡ is_eq o
    by Less = refl
    by Equal = refl
    by Greater = refl

pub filter-alike : {A : Type 0} (p q : A → Bool) → ((x : A) → p x ≡ q x) → (xs : List A) → filter p xs ≡ filter q xs
filter-alike p q h [] = refl
filter-alike p q h (x ∷ xs) = ap (λ b. cond b (x ∷ filter p xs) (filter p xs)) (h x) ∙ ap (λ more. cond (q x) (x ∷ more) more) (filter-alike p q h xs)

none-at : (q k : Place) → place_cmp q k ≡ Equal → (es : List Entry) → T (below_all place_cmp k es) → filter (λ e. eq_by_cmp place_cmp q e.0) es ≡ []
none-at q k tied [] h = refl
none-at q k tied (e ∷ es) h =
    ap (λ o. cond (is_eq o) (e ∷ filter (λ e. eq_by_cmp place_cmp q e.0) es) (filter (λ e. eq_by_cmp place_cmp q e.0) es)) (place_total.congr q k e.0 tied ∙ less_is _ (parted _ _ h).0)
    ∙ none-at q k tied es (parted _ _ h).1

-- of entries in order, one at most stands at a place
filter-find : (q : Place) (es : List Entry) → T (is_sorted place_cmp es) → map (λ e. e.1) (filter (λ e. eq_by_cmp place_cmp q e.0) es) ≡ row_list (find place_cmp q es)
filter-find q [] h = refl
filter-find q (e ∷ es) h = by (place_cmp q e.0) refl (filter-find q es (parted _ _ h).1)
  where
    by : (o : Ordering) → place_cmp q e.0 ≡ o → map (λ e. e.1) (filter (λ e. eq_by_cmp place_cmp q e.0) es) ≡ row_list (find place_cmp q es)
        → map (λ e. e.1) (cond (is_eq o) (e ∷ filter (λ e. eq_by_cmp place_cmp q e.0) es) (filter (λ e. eq_by_cmp place_cmp q e.0) es)) ≡ row_list (cond (is_eq o) (Some e.1) (find place_cmp q es))
    by Less is more = more
    by Equal is more = ap (λ (l : List Entry). e.1 ∷ map (λ e. e.1) l) (none-at q e.0 is es (parted _ _ h).0)
    by Greater is more = more

pub point-rows : (t : ℕ) (range : KeyRange) (key : Value) (es : Tables) → point_of range ≡ Some key → range_rows t range es ≡ row_list (row_at (place t key) es)
point-rows t range key es is = by range.lo range.hi refl refl is
  where
    at : (lo hi : Value) → range.lo ≡ Some lo → range.hi ≡ Some hi → value_cmp lo hi ≡ Equal → (x : Place) → is_next t range None x ≡ eq_by_cmp place_cmp (place t lo) x
    at lo hi low high tied x = on (t == x.table) refl
      where
        on : (b : Bool) → (t == x.table) ≡ b → ((b && has_key range x.key) && true) ≡ is_eq (place_cmp (place t lo) x)
        on true h = and_true _ ∙ rw (low, high) (between-equal lo hi x.key tied ∙ ap is_eq (sym (same_table t lo x h)))
        on false h = sym (other_table t lo x h)

    by : (lo hi : Option Value) → range.lo ≡ lo → range.hi ≡ hi → point_of range ≡ Some key → range_rows t range es ≡ row_list (row_at (place t key) es)
    by None hi low high is = let none : point_of range ≡ None = rw (low) refl in absurd cc
    by (Some lo) None low high is = let none : point_of range ≡ None = rw (low, high) refl in absurd cc
    by (Some lo) (Some hi) low high is = tied (value_cmp lo hi) refl
      where
        tied : (o : Ordering) → value_cmp lo hi ≡ o → range_rows t range es ≡ row_list (row_at (place t key) es)
        tied Less o = let none : point_of range ≡ None = rw (low, high, o) refl in absurd cc
        tied Greater o = let none : point_of range ≡ None = rw (low, high, o) refl in absurd cc
        tied Equal o =
            let some : point_of range ≡ Some lo = rw (low, high, o) refl in
            let same : lo ≡ key = cc in
            ap (map (λ (e : Entry). e.1)) (filter-alike (λ (e : Entry). is_next t range None e.0) (λ (e : Entry). eq_by_cmp place_cmp (place t lo) e.0) (λ e. at lo hi low high o e.0) es.list)
            ∙ filter-find (place t lo) es.list es.sorted
            ∙ ap (λ k. row_list (row_at (place t k) es)) same

first-row : (l : List Entry) → option_map (λ (e : Entry). e.1) (first_of_list l) ≡ first_of_list (map (λ (e : Entry). e.1) l)
first-row [] = refl
first-row (e ∷ l) = refl

first-listed : (row : Option (List Value)) → first_of_list (row_list row) ≡ row
first-listed None = refl
first-listed (Some row) = refl

-- the first row of a range of one key is that of the key
pub point-first : (t : ℕ) (range : KeyRange) (key : Value) (es : Tables) → point_of range ≡ Some key → row_at (place t key) es ≡ next_row t range None es
point-first t range key es is = sym (first-row (rows_after t range None es) ∙ ap first_of_list (point-rows t range key es is) ∙ first-listed (row_at (place t key) es))
