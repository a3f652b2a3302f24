-- What is shown of tables whose entries stand in order, all of one table.
use Rattle.salt_eval.proofs.InOrder.{less_is, parted}
use Rattle.salt_eval.specs.Views.{is_next, range_rows, shown_where}
use Rattle.salt_loaded.proofs.Counted.{mapped_long}
use Rattle.salt_loaded.proofs.Rising.{same_turned}
use Rattle.salt_loaded.specs.Loaded.{CountsRows, IsOfTable, rows_of}
use Rattle.salt_loaded.specs.Shown.{row_at_number, rows_between}
use Rattle.salt_model.specs.Tables.{Entry, Tables, place, place_cmp, row_at}
use Rattle.salt_ranges.specs.Ranges.{has_key, is_above_low, is_below_high}
use Rattle.salt_ranges.specs.declared.range.KeyRange.{KeyRange}
use Rattle.salt_values.specs.Value.{is_same_value, is_value_below, value_cmp, value_total}
use Rattle.salt_values.specs.declared.value.Value.{Value}
use Rattle.std.proofs.Common.{Bool, List, None, Some, [], ap, arith, cond, drop, false, get_or, length, refl, suc, sym, take, true, zero, ℕ, ◌+◌, ◌-◌, ◌<◌, ◌≡◌, ◌≤◌, ◌∙◌, ◌∷◌}
use Rattle.std.proofs.lemmas.Bool.{eq-eqb, eqb-true}
use Rattle.std.proofs.lemmas.Cmp.{nat_cmp_total, tied_itself}
use Rattle.std.specs.FinMap.{nat_cmp-IsAntisymmetric}
use Rattle.std.specs.FinMap.Entries.{below_all, find, is_sorted}
use Rattle.std.specs.List.Sorted.{IsPartitionPoint}
use Rattle.std.specs.List.{filter}
use Rattle.std.specs.Ordering.{is_eq, is_lt, nat_cmp, ordering_reverse, ordering_then}
use Rattle.std.specs.Prelude.{map, not, slice_get, unwrap_or, ◌&&◌, ◌==◌}
use Rattle.std.specs.declared.cmp.Ordering.TheVariants.{Equal, Greater, Less}
use Rattle.std.specs.declared.cmp.Ordering.{Ordering}
use lib.Dec.{T}

-- ---- rows by their numbers

none_left : {A : Type 0} (n : ℕ) → take {A = A} n [] ≡ []
none_left zero = refl
none_left (suc n) = refl

none_behind : {A : Type 0} (n : ℕ) → drop {A = A} n [] ≡ []
none_behind zero = refl
none_behind (suc n) = refl

mapped_take : {A B : Type 0} (f : A → B) (n : ℕ) (xs : List A) → map f (take n xs) ≡ take n (map f xs)
mapped_take f zero xs = refl
mapped_take f (suc n) [] = refl
mapped_take f (suc n) (x ∷ xs) = ap (λ l. f x ∷ l) (mapped_take f n xs)

mapped_drop : {A B : Type 0} (f : A → B) (n : ℕ) (xs : List A) → map f (drop n xs) ≡ drop n (map f xs)
mapped_drop f zero xs = refl
mapped_drop f (suc n) [] = refl
mapped_drop f (suc n) (x ∷ xs) = mapped_drop f n xs

first_of : (n : ℕ) (rows : List (List Value)) → n < length rows → drop n rows ≡ unwrap_or (slice_get rows n) [] ∷ drop (n + 1) rows
first_of n [] h = absurd (omega arith)
first_of zero (r ∷ rows) h = refl
first_of (suc n) (r ∷ rows) h = let m : suc n + 1 ≡ suc (n + 1) = omega arith in first_of n rows (omega arith) ∙ ap (λ l. unwrap_or (slice_get rows n) [] ∷ l) (ap (λ (k : ℕ). drop k (r ∷ rows)) (sym m))

-- the first row of those between two numbers
pub stepped : (es : Tables) (next end : ℕ) → next < end → end ≤ length es.list → rows_between es next end ≡ row_at_number es next ∷ rows_between es (next + 1) end
stepped es next end low high =
    let n : end - next ≡ suc (end - (next + 1)) = omega arith in
    let within : next < length (rows_of es) = omega (arith, mapped_long (λ (e : Entry). e.1) es.list) in
    ap (λ (k : ℕ). take k (drop next (rows_of es))) n ∙ ap (take (suc (end - (next + 1)))) (first_of next (rows_of es) within)

-- ---- a row by its key

-- all stand in one table
abbrev pub AreOfTable : List Entry → ℕ → Type 0
AreOfTable es t = (i : ℕ) → IsOfTable (slice_get es i) t

there : (t u : ℕ) (e : Entry) (k : Value) → e.0.table ≡ u → (t ≡ u → ⊥) → is_eq (place_cmp (place t k) e.0) ≡ false
there t u e k at other = by (nat_cmp t e.0.table) refl
  where
    by : (o : Ordering) → nat_cmp t e.0.table ≡ o → is_eq (ordering_then o (value_cmp k e.0.key)) ≡ false
    by Less h = refl
    by Equal h = absurd (other (nat_cmp-IsAntisymmetric t e.0.table h ∙ at))
    by Greater h = refl

pub found_elsewhere : (t u : ℕ) (k : Value) (es : List Entry) → AreOfTable es u → (t ≡ u → ⊥) → find place_cmp (place t k) es ≡ None
found_elsewhere t u k [] are other = refl
found_elsewhere t u k (e ∷ es) are other = ap (λ b. cond b (Some e.1) (find place_cmp (place t k) es)) (there t u e k (are 0) other) ∙ found_elsewhere t u k es (λ i. are (suc i)) other

here : (t : ℕ) (e : Entry) (k : Value) → e.0.table ≡ t → place_cmp (place t k) e.0 ≡ value_cmp k e.0.key
here t e k at = ap (λ o. ordering_then o (value_cmp k e.0.key)) (ap (nat_cmp t) at ∙ tied_itself nat_cmp_total t)

-- none behind a greater key
none_greater : (t : ℕ) (k : Value) (e : Entry) (es : List Entry) → AreOfTable (e ∷ es) t → value_cmp k e.0.key ≡ Less → T (below_all place_cmp e.0 es) → find place_cmp (place t k) es ≡ None
none_greater t k e [] are less h = refl
none_greater t k e (f ∷ es) are less h =
    let up : value_cmp e.0.key f.0.key ≡ Less = sym (above e f (are 0) (are 1)) ∙ less_is _ (parted _ _ h).0 in
    let far : value_cmp k f.0.key ≡ Less = value_total.trans k e.0.key f.0.key less up in
    ap (λ o. cond (is_eq o) (Some f.1) (find place_cmp (place t k) es)) (here t f k (are 1) ∙ far)
    ∙ none_greater t k e es (passed are) less (parted _ _ h).1
  where
    above : (e f : Entry) → e.0.table ≡ t → f.0.table ≡ t → place_cmp e.0 f.0 ≡ value_cmp e.0.key f.0.key
    above e f a b = ap (λ o. ordering_then o (value_cmp e.0.key f.0.key)) ((λ i. nat_cmp (a i) (b i)) ∙ tied_itself nat_cmp_total t)

    passed : AreOfTable (e ∷ f ∷ es) t → AreOfTable (e ∷ es) t
    passed are zero = are 0
    passed are (suc i) = are (suc (suc i))

module _ (t : ℕ) (k : Value) where
  abbrev Counted : List Entry → ℕ → Type 0
  Counted es n = IsPartitionPoint (λ (e : Entry). is_value_below e.0.key k ≡ true) (λ (e : Entry). is_value_below e.0.key k ≡ false) es n

  fewer : (e : Entry) (es : List Entry) (n : ℕ) → Counted (e ∷ es) (suc n) → Counted es n
  fewer e es n c = (λ i d low high. c.0 (suc i) d (omega arith) (omega arith), λ i d low high. c.1 (suc i) d (omega arith) (omega arith))

  none_first : (e : Entry) → e.0.table ≡ t → is_value_below e.0.key k ≡ true → is_eq (place_cmp (place t k) e.0) ≡ false
  none_first e at below = ap is_eq (here t e k at) ∙ same_turned k e.0.key ∙ less_not (value_cmp e.0.key k) below
    where
      less_not : (o : Ordering) → is_lt o ≡ true → is_eq o ≡ false
      less_not Less h = refl
      less_not Equal h = absurd cc
      less_not Greater h = absurd cc

  pub found_at : (es : List Entry) (n : ℕ) (e : Entry) → T (is_sorted place_cmp es) → AreOfTable es t → Counted es n → slice_get es n ≡ Some e → find place_cmp (place t k) es ≡ shown_where (is_same_value e.0.key k) e.1
  found_at [] n e up are counted at = absurd cc
  found_at (f ∷ es) (suc n) e up are counted at =
      ap (λ b. cond b (Some f.1) (find place_cmp (place t k) es)) (none_first f (are 0) (counted.0 0 f (omega arith) (omega arith)))
      ∙ found_at es n e (parted _ _ up).1 (λ i. are (suc i)) (fewer f es n counted) at
  found_at (f ∷ es) zero e up are counted at =
      let same : f ≡ e = cc in
      by (value_cmp f.0.key k) refl (counted.1 0 f (omega arith) (omega arith))
      ∙ ap (λ (x : Entry). shown_where (is_same_value x.0.key k) x.1) same
    where
      by : (o : Ordering) → value_cmp f.0.key k ≡ o → is_lt (value_cmp f.0.key k) ≡ false → find place_cmp (place t k) (f ∷ es) ≡ shown_where (is_same_value f.0.key k) f.1
      by Less h not = let less : is_lt (value_cmp f.0.key k) ≡ true = ap is_lt h in absurd cc
      by Equal h not =
          let same : is_same_value f.0.key k ≡ true = ap is_eq h in
          ap (λ b. cond b (Some f.1) (find place_cmp (place t k) es)) (ap is_eq (here t f k (are 0)) ∙ same_turned k f.0.key ∙ same)
          ∙ sym (ap (λ b. shown_where b f.1) same)
      by Greater h not =
          let other : is_same_value f.0.key k ≡ false = ap is_eq h in
          let less : value_cmp k f.0.key ≡ Less = value_total.antisymm k f.0.key ∙ ap ordering_reverse h in
          ap (λ b. cond b (Some f.1) (find place_cmp (place t k) es)) (ap is_eq (here t f k (are 0)) ∙ same_turned k f.0.key ∙ other)
          ∙ none_greater t k f es are less (parted _ _ up).0
          ∙ sym (ap (λ b. shown_where b f.1) other)

  pub found_nowhere : (es : List Entry) (n : ℕ) → AreOfTable es t → Counted es n → length es ≤ n → find place_cmp (place t k) es ≡ None
  found_nowhere [] n are counted over = refl
  found_nowhere (f ∷ es) zero are counted over = absurd (omega arith)
  found_nowhere (f ∷ es) (suc n) are counted over =
      ap (λ b. cond b (Some f.1) (find place_cmp (place t k) es)) (none_first f (are 0) (counted.0 0 f (omega arith) (omega arith)))
      ∙ found_nowhere es n (λ i. are (suc i)) (fewer f es n counted) (omega arith)

got : (es : List Entry) (n : ℕ) → n < length es → (e : Entry) × (slice_get es n ≡ Some e)
got [] n h = absurd (omega arith)
got (e ∷ es) zero h = (e, refl)
got (e ∷ es) (suc n) h = got es n (omega arith)

row_of : (es : List Entry) (n : ℕ) (e : Entry) → slice_get es n ≡ Some e → slice_get (map (λ (e : Entry). e.1) es) n ≡ Some e.1
row_of [] n e h = absurd cc
row_of (f ∷ es) zero e h = let same : f ≡ e = cc in ap (λ (x : Entry). Some x.1) same
row_of (f ∷ es) (suc n) e h = row_of es n e h

-- the row of a key, by how many keys are below it
pub shown_at : (t : ℕ) (k : Value) (es : Tables) (n : ℕ) (b : Bool) → AreOfTable es.list t → CountsRows (λ v. is_value_below v k) es n → n < length es.list
    → ((e : Entry) → slice_get es.list n ≡ Some e → b ≡ is_same_value e.0.key k) → row_at (place t k) es ≡ shown_where b (row_at_number es n)
shown_at t k es n b are counted within same =
    let e = got es.list n within in
    found_at t k es.list n e.0 es.sorted are counted e.1
    ∙ (λ i. shown_where (sym (same e.0 e.1) i) (sym (ap (λ o. unwrap_or o []) (row_of es.list n e.0 e.1)) i))

-- ---- the rows of a range

cut : (p : Entry → Bool) (es : List Entry) (next end : ℕ)
    → ((i : ℕ) (d : Entry) → i < length es → i < next → p (get_or es i d) ≡ false)
    → ((i : ℕ) (d : Entry) → i < length es → next ≤ i → i < end → p (get_or es i d) ≡ true)
    → ((i : ℕ) (d : Entry) → i < length es → end ≤ i → p (get_or es i d) ≡ false)
    → filter p es ≡ take (end - next) (drop next es)
cut p [] next end low mid high = sym (ap (take (end - next)) (none_behind next) ∙ none_left (end - next))
cut p (e ∷ es) zero zero low mid high =
    ap (λ b. cond b (e ∷ filter p es) (filter p es)) (high 0 e (omega arith) (omega arith))
    ∙ cut p es zero zero (λ i d within under. absurd (omega arith)) (λ i d within over under. absurd (omega arith)) (λ i d within over. high (suc i) d (omega arith) (omega arith))
cut p (e ∷ es) zero (suc end) low mid high =
    let m : suc end - 0 ≡ suc (end - 0) = omega arith in
    ap (λ b. cond b (e ∷ filter p es) (filter p es)) (mid 0 e (omega arith) (omega arith) (omega arith))
    ∙ ap (λ l. e ∷ l) (cut p es zero end (λ i d within under. absurd (omega arith)) (λ i d within over under. mid (suc i) d (omega arith) (omega arith) (omega arith)) (λ i d within over. high (suc i) d (omega arith) (omega arith)))
    ∙ ap (λ (n : ℕ). take n (e ∷ es)) (sym m)
cut p (e ∷ es) (suc next) zero low mid high =
    let m : 0 - suc next ≡ 0 - next = omega arith in
    ap (λ b. cond b (e ∷ filter p es) (filter p es)) (low 0 e (omega arith) (omega arith))
    ∙ cut p es next zero (λ i d within under. low (suc i) d (omega arith) (omega arith)) (λ i d within over under. absurd (omega arith)) (λ i d within over. high (suc i) d (omega arith) (omega arith))
    ∙ ap (λ (n : ℕ). take n (drop next es)) (sym m)
cut p (e ∷ es) (suc next) (suc end) low mid high =
    let m : suc end - suc next ≡ end - next = omega arith in
    ap (λ b. cond b (e ∷ filter p es) (filter p es)) (low 0 e (omega arith) (omega arith))
    ∙ cut p es next end (λ i d within under. low (suc i) d (omega arith) (omega arith)) (λ i d within over under. mid (suc i) d (omega arith) (omega arith) (omega arith)) (λ i d within over. high (suc i) d (omega arith) (omega arith))
    ∙ ap (λ (n : ℕ). take n (drop next es)) (sym m)

of_table_at : (t : ℕ) (es : List Entry) (i : ℕ) (d : Entry) → AreOfTable es t → i < length es → (get_or es i d).0.table ≡ t
of_table_at t [] i d are within = absurd (omega arith)
of_table_at t (e ∷ es) zero d are within = are 0
of_table_at t (e ∷ es) (suc i) d are within = of_table_at t es i d (λ j. are (suc j)) (omega arith)

tested : (t : ℕ) (range : KeyRange) (e : Entry) (b : Bool) → e.0.table ≡ t → has_key range e.0.key ≡ b → is_next t range None e.0 ≡ b
tested t range e b at has = ap (λ c. (c && has_key range e.0.key) && true) (eq-eqb t e.0.table (sym at)) ∙ last (has_key range e.0.key) ∙ has
  where
    last : (b : Bool) → (b && true) ≡ b
    last true = refl
    last false = refl

has : (range : KeyRange) (k : Value) (a b : Bool) → is_above_low range.lo k ≡ a → is_below_high range.hi k ≡ b → has_key range k ≡ (a && b)
has range k a b low high = λ i. low i && high i

only_low : (range : KeyRange) (k : Value) → is_above_low range.lo k ≡ false → has_key range k ≡ false
only_low range k low = ap (λ b. b && is_below_high range.hi k) low

only_high : (range : KeyRange) (k : Value) → is_below_high range.hi k ≡ false → has_key range k ≡ false
only_high range k high = ap (λ b. is_above_low range.lo k && b) high ∙ last (is_above_low range.lo k)
  where
    last : (b : Bool) → (b && false) ≡ false
    last true = refl
    last false = refl

un : (b c : Bool) → not b ≡ c → b ≡ not c
un true c h = ap not h
un false c h = ap not h

-- the rows of a range are those between two numbers
pub shown_between : (t : ℕ) (range : KeyRange) (es : Tables) (next end : ℕ) → AreOfTable es.list t
    → CountsRows (λ k. not (is_above_low range.lo k)) es next → CountsRows (λ k. is_below_high range.hi k) es end → rows_between es next end ≡ range_rows t range es
shown_between t range es next end are low high =
    sym (ap (map (λ (e : Entry). e.1)) (cut (λ (e : Entry). is_next t range None e.0) es.list next end
    (λ i d within under. tested t range (get_or es.list i d) false (of_table_at t es.list i d are within) (only_low range (get_or es.list i d).0.key (un _ true (low.0 i d (omega arith) under))))
    (λ i d within over under. tested t range (get_or es.list i d) true (of_table_at t es.list i d are within) (has range (get_or es.list i d).0.key true true (un _ false (low.1 i d over within)) (high.0 i d (omega arith) under)))
    (λ i d within over. tested t range (get_or es.list i d) false (of_table_at t es.list i d are within) (only_high range (get_or es.list i d).0.key (high.1 i d over within))))
    ∙ mapped_take (λ (e : Entry). e.1) (end - next) (drop next es.list)
    ∙ ap (take (end - next)) (mapped_drop (λ (e : Entry). e.1) next es.list))

-- and none of another table
pub shown_elsewhere : (t u : ℕ) (range : KeyRange) (es : Tables) → AreOfTable es.list u → (t ≡ u → ⊥) → [] ≡ range_rows t range es
shown_elsewhere t u range es are other = sym (ap (map (λ (e : Entry). e.1)) (none es.list are))
  where
    apart : (e : Entry) → e.0.table ≡ u → (t == e.0.table) ≡ false
    apart e at = by (t == e.0.table) refl
      where
        by : (b : Bool) → (t == e.0.table) ≡ b → b ≡ false
        by true h = absurd (other (eqb-true t e.0.table h ∙ at))
        by false h = refl

    none : (es : List Entry) → AreOfTable es u → filter (λ (e : Entry). is_next t range None e.0) es ≡ []
    none [] are = refl
    none (e ∷ es) are =
        ap (λ b. cond (((b && has_key range e.0.key)) && true) (e ∷ filter (λ (e : Entry). is_next t range None e.0) es) (filter (λ (e : Entry). is_next t range None e.0) es)) (apart e (are 0))
        ∙ none es (λ i. are (suc i))
