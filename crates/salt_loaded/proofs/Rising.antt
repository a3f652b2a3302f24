-- Rows in order of their keys, rows of which no two have the same, and the tables that they make.
use Rattle.salt_eval.proofs.InOrder.{joined, row_at-tables_of, tables_of-list}
use Rattle.salt_loaded.specs.Rows.{are_apart, entries_in, have_twins, is_rising, tables_in}
use Rattle.salt_model.specs.Tables.{place, place_cmp}
use Rattle.salt_model.specs.declared.places.Place.{Place}
use Rattle.salt_stands.proofs.Booleans.{all_weaker, left, right}
use Rattle.salt_stands.proofs.Places.{equal_is, place_same, same_tables}
use Rattle.salt_values.specs.Value.{is_same_value, is_value_below, key_of, value_cmp, value_total}
use Rattle.salt_values.specs.declared.value.Value.{Value}
use Rattle.std.proofs.Common.{Bool, List, None, Option, Some, [], ap, arith, cond, false, get_or, length, refl, subst, suc, sym, true, zero, ℕ, ◌+◌, ◌<◌, ◌≡◌, ◌≤◌, ◌∙◌, ◌∷◌}
use Rattle.std.proofs.lemmas.Cmp.{eq_by_cmp_equiv, nat_cmp_total, tied_itself}
use Rattle.std.proofs.lemmas.List.Sorted.{Contains-permutation, list_any-IsPermutation, sum_by-IsPermutation}
use Rattle.std.proofs.lemmas.List.Sums.{sum_by-cons}
use Rattle.std.specs.BTreeMap.{is_at}
use Rattle.std.specs.FinMap.Entries.{below_all, is_sorted}
use Rattle.std.specs.List.Sorted.{IsPermutation}
use Rattle.std.specs.List.{Contains, list_all, list_any, sum_by}
use Rattle.std.specs.Map.{lookup}
use Rattle.std.specs.Ordering.{is_eq, is_lt, nat_cmp, ordering_reverse, ordering_then}
use Rattle.std.specs.Prelude.{not, ◌&&◌, ◌||◌}
use Rattle.std.specs.declared.cmp.Ordering.TheVariants.{Equal, Greater, Less}
use Rattle.std.specs.declared.cmp.Ordering.{Ordering}
use lib.Dec.{T}

abbrev pub Rows : Type 0
Rows = List (List Value)

value_same : (v w : Value) → is_same_value v w ≡ true → v ≡ w
value_same v w h = ap (λ (p : Place). p.key) (place_same (place 0 v) (place 0 w) (equal_is (value_cmp v w) h))

not_true : (b : Bool) → not b ≡ true → b ≡ false
not_true true h = cc
not_true false h = refl

both : (a b : Bool) → a ≡ true → b ≡ true → (a && b) ≡ true
both a b e f = ap (λ x. x && b) e ∙ f

same_itself : (v : Value) → is_same_value v v ≡ true
same_itself v = ap is_eq (tied_itself value_total v)

pub same_turned : (v w : Value) → is_same_value v w ≡ is_same_value w v
same_turned v w = (eq_by_cmp_equiv value_total).symm v w

-- ---- no two with the same key

-- how many rows have a key
abbrev one_at : Value → List Value → ℕ
one_at k r = cond (is_same_value k (key_of r)) 1 0

abbrev count_at : Value → Rows → ℕ
count_at k rows = sum_by (one_at k) rows

abbrev is_other_key : Value → List Value → Bool
is_other_key k r = not (is_same_value k (key_of r))

none_at : (k : Value) (rows : Rows) → list_all (is_other_key k) rows ≡ true → count_at k rows ≡ 0
none_at k [] h = refl
none_at k (r ∷ rows) h =
    sum_by-cons (one_at k) r rows ∙ by (is_same_value k (key_of r)) (left (is_other_key k r) (list_all (is_other_key k) rows) h) (none_at k rows (right (is_other_key k r) (list_all (is_other_key k) rows) h))
  where
    by : (b : Bool) → not b ≡ true → count_at k rows ≡ 0 → cond b 1 0 + count_at k rows ≡ 0
    by true e more = absurd cc
    by false e more = omega (arith, more)

none_back : (k : Value) (rows : Rows) → count_at k rows ≡ 0 → list_all (is_other_key k) rows ≡ true
none_back k [] h = refl
none_back k (r ∷ rows) h = by (is_same_value k (key_of r)) (none_back k rows) (sym (sum_by-cons (one_at k) r rows) ∙ h)
  where
    by : (b : Bool) → (count_at k rows ≡ 0 → list_all (is_other_key k) rows ≡ true) → cond b 1 0 + count_at k rows ≡ 0 → (not b && list_all (is_other_key k) rows) ≡ true
    by true more e = absurd (omega (arith, e))
    by false more e = more (omega (arith, e))

at_most_one : (rows : Rows) → are_apart rows ≡ true → (k : Value) → count_at k rows ≤ 1
at_most_one [] h k = omega arith
at_most_one (r ∷ rows) h k =
    subst (λ n. n ≤ 1) (sym (sum_by-cons (one_at k) r rows)) (by (is_same_value k (key_of r)) refl (at_most_one rows (right (list_all (is_other_key (key_of r)) rows) (are_apart rows) h) k))
  where
    by : (b : Bool) → is_same_value k (key_of r) ≡ b → count_at k rows ≤ 1 → cond b 1 0 + count_at k rows ≤ 1
    by true e more =
        let alone : count_at (key_of r) rows ≡ 0 = none_at (key_of r) rows (left (list_all (is_other_key (key_of r)) rows) (are_apart rows) h) in
        let none : count_at k rows ≡ 0 = ap (λ v. count_at v rows) (value_same k (key_of r) e) ∙ alone in
        omega (arith, none)
    by false e more = omega (arith, more)

apart_back : (rows : Rows) → ((k : Value) → count_at k rows ≤ 1) → are_apart rows ≡ true
apart_back [] h = refl
apart_back (r ∷ rows) h =
    both (list_all (is_other_key (key_of r)) rows) (are_apart rows)
    (none_back (key_of r) rows (alone (subst (λ n. n ≤ 1) (sum_by-cons (one_at (key_of r)) r rows ∙ ap (λ b. cond b 1 0 + count_at (key_of r) rows) (same_itself (key_of r))) (h (key_of r)))))
    (apart_back rows (λ k. fewer (is_same_value k (key_of r)) (count_at k rows) (subst (λ n. n ≤ 1) (sum_by-cons (one_at k) r rows) (h k))))
  where
    alone : {n : ℕ} → 1 + n ≤ 1 → n ≡ 0
    alone h = omega arith

    fewer : (b : Bool) (n : ℕ) → cond b 1 0 + n ≤ 1 → n ≤ 1
    fewer true n h = omega arith
    fewer false n h = omega arith

pub apart_moved : (xs ys : Rows) → IsPermutation xs ys → are_apart xs ≡ true → are_apart ys ≡ true
apart_moved xs ys moved h = apart_back ys (λ k. subst (λ n. n ≤ 1) (sym (sum_by-IsPermutation (one_at k) xs ys moved)) (at_most_one xs h k))

-- ---- the row of a key

abbrev pub found : Value → Rows → Option (List Value)
found k [] = None
found k (r ∷ rows) = cond (is_same_value k (key_of r)) (Some r) (found k rows)

found_in : (k : Value) (rows : Rows) (r : List Value) → found k rows ≡ Some r → Contains rows r × (is_same_value k (key_of r) ≡ true)
found_in k [] r h = absurd cc
found_in k (x ∷ rows) r h = by (is_same_value k (key_of x)) refl (found_in k rows r) h
  where
    by : (b : Bool) → is_same_value k (key_of x) ≡ b → (found k rows ≡ Some r → Contains rows r × (is_same_value k (key_of r) ≡ true)) → cond b (Some x) (found k rows) ≡ Some r → Contains (x ∷ rows) r × (is_same_value k (key_of r) ≡ true)
    by true e behind h =
        let same : x ≡ r = cc in
        ((0, omega arith, same), ap (λ y. is_same_value k (key_of y)) (sym same) ∙ e)
    by false e behind h =
        let more = behind h in
        let below : more.0.0 < length rows = more.0.1 in
        ((suc more.0.0, omega arith, more.0.2), more.1)

found_nowhere : (k : Value) (rows : Rows) → found k rows ≡ None → list_any (λ r. is_same_value k (key_of r)) rows ≡ false
found_nowhere k [] h = refl
found_nowhere k (x ∷ rows) h = by (is_same_value k (key_of x)) (found_nowhere k rows) h
  where
    by : (b : Bool) → (found k rows ≡ None → list_any (λ r. is_same_value k (key_of r)) rows ≡ false) → cond b (Some x) (found k rows) ≡ None → (b || list_any (λ r. is_same_value k (key_of r)) rows) ≡ false
    by true more h = absurd cc
    by false more h = more h

nowhere_found : (k : Value) (rows : Rows) → list_any (λ r. is_same_value k (key_of r)) rows ≡ false → found k rows ≡ None
nowhere_found k [] h = refl
nowhere_found k (x ∷ rows) h = by (is_same_value k (key_of x)) (nowhere_found k rows) h
  where
    by : (b : Bool) → (list_any (λ r. is_same_value k (key_of r)) rows ≡ false → found k rows ≡ None) → (b || list_any (λ r. is_same_value k (key_of r)) rows) ≡ false → cond b (Some x) (found k rows) ≡ None
    by true more h = absurd cc
    by false more h = more h

all_at : (k : Value) (rows : Rows) (i : ℕ) (r : List Value) → list_all (is_other_key k) rows ≡ true → i < length rows → get_or rows i r ≡ r → is_same_value k (key_of r) ≡ false
all_at k [] i r h within is = absurd (omega arith)
all_at k (x ∷ rows) zero r h within is = ap (λ y. is_same_value k (key_of y)) (sym is) ∙ not_true _ (left (is_other_key k x) (list_all (is_other_key k) rows) h)
all_at k (x ∷ rows) (suc i) r h within is = all_at k rows i r (right (is_other_key k x) (list_all (is_other_key k) rows) h) (omega arith) is

found_at : (rows : Rows) (i : ℕ) (r : List Value) → are_apart rows ≡ true → i < length rows → get_or rows i r ≡ r → found (key_of r) rows ≡ Some r
found_at [] i r h within is = absurd (omega arith)
found_at (x ∷ rows) zero r h within is = ap (λ b. cond b (Some x) (found (key_of r) rows)) (ap (λ y. is_same_value (key_of r) (key_of y)) is ∙ same_itself (key_of r)) ∙ ap (λ y. Some y) is
found_at (x ∷ rows) (suc i) r h within is =
    let other : is_same_value (key_of x) (key_of r) ≡ false = all_at (key_of x) rows i r (left (list_all (is_other_key (key_of x)) rows) (are_apart rows) h) (omega arith) is in
    ap (λ b. cond b (Some x) (found (key_of r) rows)) (same_turned (key_of r) (key_of x) ∙ other)
    ∙ found_at rows i r (right (list_all (is_other_key (key_of x)) rows) (are_apart rows) h) (omega arith) is

found_moved : (k : Value) (xs ys : Rows) → IsPermutation xs ys → are_apart ys ≡ true → found k xs ≡ found k ys
found_moved k xs ys moved h = by (found k xs) refl
  where
    by : (o : Option (List Value)) → found k xs ≡ o → o ≡ found k ys
    by None e = sym (nowhere_found k ys (sym (list_any-IsPermutation (λ r. is_same_value k (key_of r)) xs ys moved) ∙ found_nowhere k xs e))
    by (Some r) e =
        let f = found_in k xs r e in
        let c = Contains-permutation xs ys r moved f.0 in
        sym (ap (λ v. found v ys) (value_same k (key_of r) f.1) ∙ found_at ys c.0 r h c.1 c.2)

-- the row at a place is the one of its key, in its table
looked_up : (t : ℕ) (q : Place) (rows : Rows) (o : Ordering) → nat_cmp q.table t ≡ o → lookup (is_at (place_cmp q)) (entries_in t rows) ≡ cond (is_eq o) (found q.key rows) None
looked_up t q [] Less e = refl
looked_up t q [] Equal e = refl
looked_up t q [] Greater e = refl
looked_up t q (r ∷ rows) o e = ap (λ p. cond (is_eq (ordering_then p (value_cmp q.key (key_of r)))) (Some r) (lookup (is_at (place_cmp q)) (entries_in t rows))) e ∙ by o (looked_up t q rows o e)
  where
    by : (o : Ordering) → lookup (is_at (place_cmp q)) (entries_in t rows) ≡ cond (is_eq o) (found q.key rows) None
        → cond (is_eq (ordering_then o (value_cmp q.key (key_of r)))) (Some r) (lookup (is_at (place_cmp q)) (entries_in t rows)) ≡ cond (is_eq o) (found q.key (r ∷ rows)) None
    by Less more = more
    by Equal more = ap (cond (is_same_value q.key (key_of r)) (Some r)) more
    by Greater more = more

-- rows that are apart make the same tables in whatever order
pub tables_moved : (t : ℕ) (xs ys : Rows) → IsPermutation xs ys → are_apart ys ≡ true → tables_in t xs ≡ tables_in t ys
tables_moved t xs ys moved h =
    same_tables (tables_in t xs) (tables_in t ys)
    (λ q. row_at-tables_of q (entries_in t xs) ∙ looked_up t q xs (nat_cmp q.table t) refl ∙ ap (λ o. cond (is_eq (nat_cmp q.table t)) o None) (found_moved q.key xs ys moved h)
    ∙ sym (row_at-tables_of q (entries_in t ys) ∙ looked_up t q ys (nat_cmp q.table t) refl))

-- ---- rows in order

abbrev pub is_above_key : Value → List Value → Bool
is_above_key k r = is_value_below k (key_of r)

other_below : (o : Ordering) → is_lt o ≡ true → not (is_eq o) ≡ true
other_below Less h = refl
other_below Equal h = cc
other_below Greater h = cc

pub rising_apart : (rows : Rows) → is_rising rows ≡ true → are_apart rows ≡ true
rising_apart [] h = refl
rising_apart (r ∷ rows) h =
    both (list_all (is_other_key (key_of r)) rows) (are_apart rows)
    (all_weaker (is_above_key (key_of r)) (is_other_key (key_of r)) (λ x. other_below (value_cmp (key_of r) (key_of x))) rows (left (list_all (is_above_key (key_of r)) rows) (is_rising rows) h))
    (rising_apart rows (right (list_all (is_above_key (key_of r)) rows) (is_rising rows) h))

pub in_table : (t : ℕ) (a b : Value) → place_cmp (place t a) (place t b) ≡ value_cmp a b
in_table t a b = ap (λ o. ordering_then o (value_cmp a b)) (tied_itself nat_cmp_total t)

entries_below : (t : ℕ) (k : Value) (rows : Rows) → list_all (is_above_key k) rows ≡ true → T (below_all place_cmp (place t k) (entries_in t rows))
entries_below t k [] h = tt
entries_below t k (r ∷ rows) h =
    joined _ _ (subst T (sym (ap is_lt (in_table t k (key_of r)) ∙ left (is_above_key k r) (list_all (is_above_key k) rows) h)) tt) (entries_below t k rows (right (is_above_key k r) (list_all (is_above_key k) rows) h))

pub entries_rise : (t : ℕ) (rows : Rows) → is_rising rows ≡ true → T (is_sorted place_cmp (entries_in t rows))
entries_rise t [] h = tt
entries_rise t (r ∷ rows) h =
    joined _ _ (entries_below t (key_of r) rows (left (list_all (is_above_key (key_of r)) rows) (is_rising rows) h)) (entries_rise t rows (right (list_all (is_above_key (key_of r)) rows) (is_rising rows) h))

-- the entries of rows in order, as they stand
pub listed : (t : ℕ) (rows : Rows) → is_rising rows ≡ true → (tables_in t rows).list ≡ entries_in t rows
listed t rows h = tables_of-list (entries_in t rows) (entries_rise t rows h)

-- twins are not apart
pub twins_meet : (rows : Rows) → have_twins rows ≡ true → are_apart rows ≡ false
twins_meet [] h = absurd cc
twins_meet (r ∷ []) h = absurd cc
twins_meet (r ∷ other ∷ rows) h = by (is_same_value (key_of r) (key_of other)) (twins_meet (other ∷ rows)) h
  where
    last : (a b : Bool) → b ≡ false → (a && b) ≡ false
    last true b e = e
    last false b e = refl

    by : (b : Bool) → (have_twins (other ∷ rows) ≡ true → are_apart (other ∷ rows) ≡ false) → (b || have_twins (other ∷ rows)) ≡ true → ((not b && list_all (is_other_key (key_of r)) rows) && are_apart (other ∷ rows)) ≡ false
    by true more e = refl
    by false more e = last (list_all (is_other_key (key_of r)) rows) (are_apart (other ∷ rows)) (more e)

-- no key is below the one before it
abbrev pub is_climbing : Rows → Bool
is_climbing [] = true
is_climbing (r ∷ []) = true
is_climbing (r ∷ other ∷ rows) = not (is_value_below (key_of other) (key_of r)) && is_climbing (other ∷ rows)

above_both : (a b : Value) → value_cmp a b ≡ Less → (rows : Rows) → list_all (is_above_key b) rows ≡ true → list_all (is_above_key a) rows ≡ true
above_both a b less rows h = all_weaker (is_above_key b) (is_above_key a) (λ x e. ap is_lt (value_total.trans a b (key_of x) less (less_of (value_cmp b (key_of x)) e))) rows h
  where
    less_of : (o : Ordering) → is_lt o ≡ true → o ≡ Less
    less_of Less e = refl
    less_of Equal e = cc
    less_of Greater e = cc

pub climbs : (rows : Rows) → is_climbing rows ≡ true → have_twins rows ≡ false → is_rising rows ≡ true
climbs [] h apart = refl
climbs (r ∷ []) h apart = refl
climbs (r ∷ other ∷ rows) h apart =
    let up : is_value_below (key_of other) (key_of r) ≡ false = not_true _ (left (not (is_value_below (key_of other) (key_of r))) (is_climbing (other ∷ rows)) h) in
    let two = neither (is_same_value (key_of r) (key_of other)) (have_twins (other ∷ rows)) apart in
    let less : value_cmp (key_of r) (key_of other) ≡ Less = by (value_cmp (key_of r) (key_of other)) refl two.0 up in
    let rest : is_rising (other ∷ rows) ≡ true = climbs (other ∷ rows) (right (not (is_value_below (key_of other) (key_of r))) (is_climbing (other ∷ rows)) h) two.1 in
    both (is_above_key (key_of r) other && list_all (is_above_key (key_of r)) rows) (is_rising (other ∷ rows))
    (both (is_above_key (key_of r) other) (list_all (is_above_key (key_of r)) rows) (ap is_lt less)
    (above_both (key_of r) (key_of other) less rows (left (list_all (is_above_key (key_of other)) rows) (is_rising rows) rest)))
    rest
  where
    neither : (a b : Bool) → (a || b) ≡ false → (a ≡ false) × (b ≡ false)
    neither true b h = absurd cc
    neither false b h = (refl, h)

    by : (o : Ordering) → value_cmp (key_of r) (key_of other) ≡ o → is_eq o ≡ false → is_value_below (key_of other) (key_of r) ≡ false → o ≡ Less
    by Less e n u = refl
    by Equal e n u = absurd cc
    by Greater e n u = let down : is_value_below (key_of other) (key_of r) ≡ true = ap is_lt (value_total.antisymm (key_of other) (key_of r) ∙ ap ordering_reverse e) in absurd cc
