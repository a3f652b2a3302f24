-- Where the next row of a range is looked for, and why it is the first from there on, or none is.
use Rattle.salt_eval.proofs.InOrder.{first-where, if_passes, tables_of-list}
use Rattle.salt_eval.specs.Views.{is_behind, is_next, next_row, rows_after, start_of, tables_of}
use Rattle.salt_model.specs.Bounds.{before_table, first_place}
use Rattle.salt_model.specs.Tables.{Entry, place, place_cmp}
use Rattle.salt_model.specs.Words.{first_of_list}
use Rattle.salt_model.specs.declared.places.Place.{Place}
use Rattle.salt_ranges.specs.Ranges.{has_key, is_above_low, is_below_high}
use Rattle.salt_ranges.specs.declared.range.KeyRange.{KeyRange}
use Rattle.salt_values.specs.Value.{value_cmp, value_total}
use Rattle.salt_values.specs.declared.value.Value.TheVariants.{Int, Null, Text}
use Rattle.salt_values.specs.declared.value.Value.{Value}
use Rattle.std.proofs.Common.{ap, arith, sym, ◌∙◌}
use Rattle.std.proofs.lemmas.Bool.{eq-eqb, eqb-false, eqb-true}
use Rattle.std.proofs.lemmas.Cmp.{alike_right, nat_cmp_total, ranked, tied_itself, upto}
use Rattle.std.specs.BTreeMap.Range.{entries_between, is_from_start, range_contains}
use Rattle.std.specs.Cmp.{both_ways, nat_cmp_is}
use Rattle.std.specs.FinMap.Entries.{is_sorted, where_key}
use Rattle.std.specs.Ordering.{MatchOrdering, is_gt, is_le, is_lt, nat_cmp, ordering_reverse, ordering_then}
use Rattle.std.specs.Prelude.{Bool, List, None, Option, Some, [], cond, false, not, option_map, refl, true, ℕ, ◌&&◌, ◌-◌, ◌<◌, ◌==◌, ◌∷◌, ◌≡◌, ◌≢◌, ◌≤◌}
use Rattle.std.specs.declared.cmp.Ordering.TheVariants.{Equal, Greater, Less}
use Rattle.std.specs.declared.cmp.Ordering.{Ordering}
use Rattle.std.specs.declared.ops.Bound.TheVariants.{Excluded, Included, Unbounded}
use lib.Dec.{T}

pub both_true : (a b : Bool) → (a && b) ≡ true → (a ≡ true) × (b ≡ true)
both_true true b h = (refl, h)
both_true false b h = absurd cc

pub and_true : (a : Bool) → (a && true) ≡ a
and_true true = refl
and_true false = refl

pub le_is : (o : Ordering) → is_le o ≡ not (is_gt o)
le_is Less = refl
le_is Equal = refl
le_is Greater = refl

pub not_above : (o : Ordering) → is_lt o ≡ true → is_gt o ≡ false
not_above Less h = refl
not_above Equal h = refl
not_above Greater h = absurd cc

pub at_most : (o : Ordering) → is_lt o ≡ true → is_le o ≡ true
at_most Less h = refl
at_most Equal h = absurd cc
at_most Greater h = absurd cc

pub un : (b : Bool) → not b ≡ true → b ≡ false
un true h = absurd cc
un false h = refl

pub same_table : (t : ℕ) (k : Value) (x : Place) → (t == x.table) ≡ true → place_cmp (place t k) x ≡ value_cmp k x.key
same_table t k x h = ap (λ o. ordering_then o (value_cmp k x.key)) (ap (nat_cmp t) (sym (eqb-true t x.table h)) ∙ tied_itself nat_cmp_total t)

-- what is at or behind a place is in its table or a later one
pub not_before : (t u : ℕ) (o : Ordering) → is_le (ordering_then (nat_cmp t u) o) ≡ true → t ≤ u
not_before t u o h = by (nat_cmp t u) (ranked t u (nat_cmp t u) refl) h
  where
    by : (r : Ordering) → MatchOrdering r (t < u) (t ≡ u) (u < t) → is_le (ordering_then r o) ≡ true → t ≤ u
    by Less m h = omega arith
    by Equal m h = omega arith
    by Greater m h = absurd cc

-- no key is behind NULL
null_last : (k : Value) → is_lt (value_cmp Null k) ≡ false
null_last (Int z) = refl
null_last (Text t) = refl
null_last Null = refl

before-at_least : (t : ℕ) (x : Place) → is_from_start place_cmp (before_table t) x ≡ true → t ≤ x.table
before-at_least t x h = by (t == 0) refl h
  where
    behind : (r : Ordering) → MatchOrdering r (t - 1 < x.table) (t - 1 ≡ x.table) (x.table < t - 1) → is_lt (ordering_then r (value_cmp Null x.key)) ≡ true → t ≤ x.table
    behind Less m h = omega arith
    behind Equal m h = let n : is_lt (value_cmp Null x.key) ≡ false = null_last x.key in absurd cc
    behind Greater m h = absurd cc

    by : (b : Bool) → (t == 0) ≡ b → is_from_start place_cmp (cond b Unbounded (Excluded (place (t - 1) Null))) x ≡ true → t ≤ x.table
    by true z h = let none : t ≡ 0 = eqb-true t 0 z in omega arith
    by false z h = behind (nat_cmp (t - 1) x.table) (ranked (t - 1) x.table _ refl) h

before-starts : (t : ℕ) (x : Place) → (t == x.table) ≡ true → is_from_start place_cmp (before_table t) x ≡ true
before-starts t x h = by (t == 0) refl
  where
    by : (b : Bool) → (t == 0) ≡ b → is_from_start place_cmp (cond b Unbounded (Excluded (place (t - 1) Null))) x ≡ true
    by true z = refl
    by false z =
        let same : t ≡ x.table = eqb-true t x.table h in
        let some : t ≢ 0 = eqb-false t 0 z in
        let less : nat_cmp (t - 1) x.table ≡ Less = sym (nat_cmp_is (t - 1) x.table Less (omega arith)) in
        rw less refl

at_least : (t : ℕ) (lo after : Option Value) (x : Place) → is_from_start place_cmp (start_of t lo after) x ≡ true → t ≤ x.table
at_least t None None x h = before-at_least t x h
at_least t (Some l) None x h = not_before t x.table (value_cmp l x.key) h
at_least t lo (Some a) x h = by (is_above_low lo a) lo h
  where
    by : (b : Bool) (lo : Option Value) → is_from_start place_cmp (cond b (Excluded (place t a)) (first_place t lo)) x ≡ true → t ≤ x.table
    by true lo h = not_before t x.table (value_cmp a x.key) (at_most _ h)
    by false None h = before-at_least t x h
    by false (Some l) h = not_before t x.table (value_cmp l x.key) h

-- in the table, what is from the start on is above the lower end and behind the key
starts : (t : ℕ) (lo after : Option Value) (x : Place) → (t == x.table) ≡ true → is_from_start place_cmp (start_of t lo after) x ≡ (is_above_low lo x.key && is_behind after x.key)
starts t None None x h = before-starts t x h
starts t (Some l) None x h = ap is_le (same_table t l x h) ∙ le_is _ ∙ sym (and_true _)
starts t None (Some a) x h = ap is_lt (same_table t a x h)
starts t (Some l) (Some a) x h = by (is_gt (value_cmp l a)) refl
  where
    k : Value
    k = x.key

    behind : is_gt (value_cmp l a) ≡ false → is_lt (value_cmp a k) ≡ true → (not (is_gt (value_cmp l k)) && is_lt (value_cmp a k)) ≡ true
    behind low less = rw (upto value_total l a k low (not_above _ less), less) refl

    greater : (o : Ordering) → is_gt o ≡ true → o ≡ Greater
    greater Less h = absurd cc
    greater Equal h = absurd cc
    greater Greater h = refl

    above : is_gt (value_cmp l a) ≡ true → (o : Ordering) → value_cmp l k ≡ o → is_le o ≡ true → is_lt (value_cmp a k) ≡ true
    above high o is le =
        let less : value_cmp a l ≡ Less = value_total.antisymm a l ∙ ap ordering_reverse (greater _ high) in
        on o is le less
      where
        on : (o : Ordering) → value_cmp l k ≡ o → is_le o ≡ true → value_cmp a l ≡ Less → is_lt (value_cmp a k) ≡ true
        on Less is le less = ap is_lt (value_total.trans a l k less is)
        on Equal is le less = ap is_lt (sym (alike_right value_total l k a is) ∙ less)
        on Greater is le less = absurd cc

    by : (b : Bool) → is_gt (value_cmp l a) ≡ b → is_from_start place_cmp (cond (not b) (Excluded (place t a)) (Included (place t l))) x ≡ (not (is_gt (value_cmp l k)) && is_lt (value_cmp a k))
    by false low = ap is_lt (same_table t a x h) ∙ both_ways _ _ (behind low) (λ both. (both_true (not (is_gt (value_cmp l k))) _ both).1)
    by true high =
        ap is_le (same_table t l x h)
        ∙ both_ways _ _
        (λ le. let above_low : not (is_gt (value_cmp l k)) ≡ true = sym (le_is (value_cmp l k)) ∙ le in rw (above_low, above high (value_cmp l k) refl le) refl)
        (λ both. le_is (value_cmp l k) ∙ (both_true (not (is_gt (value_cmp l k))) _ both).0)

module _ (t : ℕ) (range : KeyRange) (after : Option Value) where
  abbrev pub from : Place → Bool
  from x = range_contains place_cmp (start_of t range.lo after) Unbounded x

  in_parts : (x : Place) → (t == x.table) ≡ true → is_above_low range.lo x.key ≡ true → is_below_high range.hi x.key ≡ true → is_behind after x.key ≡ true → is_next t range after x ≡ true
  in_parts x a b c d = rw (a, b, c, d) refl

  pub narrower : (x : Place) → is_next t range after x ≡ true → from x ≡ true
  narrower x h =
      let p = both_true ((t == x.table) && has_key range x.key) (is_behind after x.key) h in
      let q = both_true (t == x.table) (has_key range x.key) p.0 in
      let r = both_true (is_above_low range.lo x.key) (is_below_high range.hi x.key) q.1 in
      and_true _ ∙ starts t range.lo after x q.0 ∙ both_are (is_above_low range.lo x.key) (is_behind after x.key) r.0 p.1
    where
      both_are : (a b : Bool) → a ≡ true → b ≡ true → (a && b) ≡ true
      both_are a b e f = rw (e, f) refl

  pub from_start : (x : Place) → from x ≡ true → is_from_start place_cmp (start_of t range.lo after) x ≡ true
  from_start x h = sym (and_true _) ∙ h

  pub below_end : (hi : Option Value) (k l : Value) → value_cmp k l ≡ Less → is_below_high hi l ≡ true → is_below_high hi k ≡ true
  below_end None k l less h = refl
  below_end (Some high) k l less h = ap not (upto value_total k l high (not_above _ (ap is_lt less)) (un _ h))

  pub falls : (x y : Place) → place_cmp x y ≡ Less → from x ≡ true → is_next t range after y ≡ true → is_next t range after x ≡ true
  falls x y less begun h =
      let p = both_true ((t == y.table) && has_key range y.key) (is_behind after y.key) h in
      let q = both_true (t == y.table) (has_key range y.key) p.0 in
      let r = both_true (is_above_low range.lo y.key) (is_below_high range.hi y.key) q.1 in
      let low : t ≤ x.table = at_least t range.lo after x (from_start x begun) in
      let high : x.table ≤ y.table = not_before x.table y.table (value_cmp x.key y.key) (ap is_le less) in
      let last : t ≡ y.table = eqb-true t y.table q.0 in
      let here : t ≡ x.table = omega arith in
      let table : (t == x.table) ≡ true = eq-eqb t x.table here in
      let keys : value_cmp x.key y.key ≡ Less = sym (same_table x.table x.key y (eq-eqb x.table y.table (sym here ∙ last))) ∙ less in
      let s = both_true (is_above_low range.lo x.key) (is_behind after x.key) (sym (starts t range.lo after x table) ∙ from_start x begun) in
      in_parts x table s.0 (below_end range.hi x.key y.key keys r.1) s.1

  -- what is from the start on is next where it is in the table and the range
  pub next_is : (x : Place) → from x ≡ true → is_next t range after x ≡ ((t == x.table) && has_key range x.key)
  next_is x begun = by (t == x.table) refl
    where
      by : (b : Bool) → (t == x.table) ≡ b → ((b && has_key range x.key) && is_behind after x.key) ≡ (b && has_key range x.key)
      by false e = refl
      by true e =
          let s = both_true (is_above_low range.lo x.key) (is_behind after x.key) (sym (starts t range.lo after x e) ∙ from_start x begun) in
          ap (λ b. has_key range x.key && b) s.1 ∙ and_true _

  first-passes : (es : List Entry) (e : Entry) → first_of_list (entries_between place_cmp (start_of t range.lo after) Unbounded es) ≡ Some e → from e.0 ≡ true
  first-passes [] e h = absurd cc
  first-passes (f ∷ es) e h = by (from f.0) refl (first-passes es e) h
    where
      by : (b : Bool) → from f.0 ≡ b → (first_of_list (entries_between place_cmp (start_of t range.lo after) Unbounded es) ≡ Some e → from e.0 ≡ true) → first_of_list (cond b (f ∷ entries_between place_cmp (start_of t range.lo after) Unbounded es) (entries_between place_cmp (start_of t range.lo after) Unbounded es)) ≡ Some e → from e.0 ≡ true
      by true is more h = let same : f ≡ e = cc in ap (λ (g : Entry). from g.0) (sym same) ∙ is
      by false is more h = more h

  module _ (es : List Entry) (sorted : T (is_sorted place_cmp es)) where
    abbrev first : Option Entry
    first = first_of_list (entries_between place_cmp (start_of t range.lo after) Unbounded es)

    next-first : first_of_list (rows_after t range after (tables_of es)) ≡ if_passes place_cmp (is_next t range after) from first
    next-first = ap (λ (l : List Entry). first_of_list (where_key place_cmp (is_next t range after) l)) (tables_of-list es sorted) ∙ first-where place_cmp (is_next t range after) from narrower falls es sorted

    abbrev value : Option Entry → Option (List Value)
    value o = option_map (λ (e : Entry). e.1) o

    pub next-none : first ≡ None → None ≡ next_row t range after (tables_of es)
    next-none h = sym (ap value (next-first ∙ ap (if_passes place_cmp (is_next t range after) from) h))

    pub next-found : (e : Entry) → first ≡ Some e → ((t == e.0.table) && has_key range e.0.key) ≡ true → Some e.1 ≡ next_row t range after (tables_of es)
    next-found e h is = sym (ap value (next-first ∙ ap (if_passes place_cmp (is_next t range after) from) h ∙ ap (λ b. cond b (Some e) None) (next_is e.0 (first-passes es e h) ∙ is)))

    pub next-past : (e : Entry) → first ≡ Some e → ((t == e.0.table) && has_key range e.0.key) ≡ false → None ≡ next_row t range after (tables_of es)
    next-past e h is = sym (ap value (next-first ∙ ap (if_passes place_cmp (is_next t range after) from) h ∙ ap (λ b. cond b (Some e) None) (next_is e.0 (first-passes es e h) ∙ is)))
