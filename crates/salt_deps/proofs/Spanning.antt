-- The writers in a range of a table stand between its two ends.
use Rattle.salt_deps.proofs.Reading.{IsReading}
use Rattle.salt_deps.specs.Ends.{last_place}
use Rattle.salt_model.specs.Bounds.{first_place}
use Rattle.salt_deps.specs.Reads.{is_read, reads_entry}
use Rattle.law_story.proofs.Ids.{and_left, and_right}
use Rattle.law_story.proofs.Lists.{not-true}
use Rattle.salt_model.specs.Tables.{place, place_cmp}
use Rattle.salt_model.specs.declared.places.Place.{Place}
use Rattle.salt_ranges.specs.Ranges.{ends_meet, has_key, is_above_low, is_below_high, is_range_empty}
use Rattle.salt_ranges.specs.declared.range.KeyRange.{KeyRange}
use Rattle.salt_values.specs.Id.{is_same_id}
use Rattle.salt_values.specs.Value.{value_cmp, value_total}
use Rattle.salt_values.specs.declared.id.Id.{Id}
use Rattle.salt_values.specs.declared.value.Value.TheVariants.{Int, Null, Text}
use Rattle.salt_values.specs.declared.value.Value.{Value}
use Rattle.std.proofs.Common.{ap, arith, subst, sym, ◌∙◌}
use Rattle.std.proofs.lemmas.Bool.{eq-eqb, eqb-false, eqb-true}
use Rattle.std.proofs.lemmas.Cmp.{nat_cmp_total, tied_itself, upto}
use Rattle.std.specs.BTreeMap.Range.{entries_between, is_from_start, is_past_end, range_contains}
use Rattle.std.specs.Bound.{IsForward}
use Rattle.std.specs.Cmp.{nat_cmp_is}
use Rattle.std.specs.List.{filter, list_any}
use Rattle.std.specs.Ordering.{is_gt, is_le, is_lt, nat_cmp, ordering_reverse, ordering_then}
use Rattle.std.specs.Prelude.{Bool, List, None, Option, Some, [], cond, false, not, refl, true, ℕ, ◌&&◌, ◌-◌, ◌==◌, ◌||◌, ◌∷◌, ◌≡◌, ◌≢◌}
use Rattle.std.specs.declared.cmp.Ordering.TheVariants.{Equal, Greater, Less}
use Rattle.std.specs.declared.cmp.Ordering.{Ordering}
use Rattle.std.specs.declared.ops.Bound.TheVariants.{Excluded, Unbounded}

le_is : (o : Ordering) → is_le o ≡ not (is_gt o)
le_is Less = refl
le_is Equal = refl
le_is Greater = refl

reversed : (o : Ordering) → is_lt (ordering_reverse o) ≡ is_gt o
reversed Less = refl
reversed Equal = refl
reversed Greater = refl

same_table : (t : ℕ) (k : Value) (x : Place) → (t == x.table) ≡ true → place_cmp (place t k) x ≡ value_cmp k x.key
same_table t k x h = ap (λ o. ordering_then o (value_cmp k x.key)) (ap (nat_cmp t) (sym (eqb-true t x.table h)) ∙ tied_itself nat_cmp_total t)

-- no key is behind NULL
null_last : (k : Value) → (is_lt (value_cmp Null k) ≡ false) × (is_gt (value_cmp k Null) ≡ false)
null_last (Int z) = (refl, refl)
null_last (Text t) = (refl, refl)
null_last Null = (refl, refl)

-- the table before comes first
table_before : (t : ℕ) (k l : Value) → (t == 0) ≡ false → place_cmp (place (t - 1) k) (place t l) ≡ Less
table_before t k l z =
    let some : t ≢ 0 = eqb-false t 0 z in
    ap (λ o. ordering_then o (value_cmp k l)) (sym (nat_cmp_is (t - 1) t Less (omega arith)))

starts : (t : ℕ) (lo : Option Value) (k : Value) → is_above_low lo k ≡ true → is_from_start place_cmp (first_place t lo) (place t k) ≡ true
starts t (Some l) k h = ap is_le (same_table t l (place t k) (eq-eqb t t refl)) ∙ (le_is (value_cmp l k) ∙ h)
starts t None k h = by (t == 0) refl
  where
    by : (b : Bool) → (t == 0) ≡ b → is_from_start place_cmp (cond b Unbounded (Excluded (place (t - 1) Null))) (place t k) ≡ true
    by true z = refl
    by false z = ap is_lt (table_before t Null k z)

ends : (t : ℕ) (hi : Option Value) (k : Value) → is_below_high hi k ≡ true → is_past_end place_cmp (last_place t hi) (place t k) ≡ false
ends t None k h = ap is_lt (same_table t Null (place t k) (eq-eqb t t refl)) ∙ (null_last k).0
ends t (Some u) k h =
    ap is_lt (same_table t u (place t k) (eq-eqb t t refl)) ∙ (ap is_lt (value_total.antisymm u k) ∙ (reversed (value_cmp k u) ∙ not-true (is_gt (value_cmp k u)) h))

-- the two ends run forward
pub forward : (t : ℕ) (range : KeyRange) → is_range_empty range ≡ false →
    IsForward (λ a b. is_gt (place_cmp a b) ≡ false) (λ a b. place_cmp a b ≡ Less) (first_place t range.lo) (last_place t range.hi)
forward t range some = by range.lo range.hi some
  where
    from : (hi : Option Value) (b : Bool) → (t == 0) ≡ b → IsForward (λ a b. is_gt (place_cmp a b) ≡ false) (λ a b. place_cmp a b ≡ Less) (cond b Unbounded (Excluded (place (t - 1) Null))) (last_place t hi)
    from hi true z = tt
    from None false z = ap is_gt (table_before t Null Null z)
    from (Some u) false z = ap is_gt (table_before t Null u z)

    meet : (b : Bool) → not (not b) ≡ false → b ≡ false
    meet true h = cc
    meet false h = refl

    by : (lo hi : Option Value) → not (ends_meet lo hi) ≡ false → IsForward (λ a b. is_gt (place_cmp a b) ≡ false) (λ a b. place_cmp a b ≡ Less) (first_place t lo) (last_place t hi)
    by None hi h = from hi (t == 0) refl
    by (Some l) None h = ap is_gt (same_table t l (place t Null) (eq-eqb t t refl)) ∙ (null_last l).1
    by (Some l) (Some u) h = ap is_gt (same_table t l (place t u) (eq-eqb t t refl)) ∙ meet (is_gt (value_cmp l u)) h

-- what is read stands between them
between : (reader : Id) (t : ℕ) (range : KeyRange) (p : Place) (source : Id) → is_read reader t range p source ≡ true →
    range_contains place_cmp (first_place t range.lo) (last_place t range.hi) p ≡ true
between reader t range p source h =
    let here : p.table ≡ t = eqb-true p.table t (and_left (p.table == t) (has_key range p.key && not (is_same_id source reader)) h) in
    let inside = and_left (has_key range p.key) (not (is_same_id source reader)) (and_right (p.table == t) (has_key range p.key && not (is_same_id source reader)) h) in
    let low = and_left (is_above_low range.lo p.key) (is_below_high range.hi p.key) inside in
    let high = and_right (is_above_low range.lo p.key) (is_below_high range.hi p.key) inside in
    subst (λ (u : ℕ). range_contains place_cmp (first_place t range.lo) (last_place t range.hi) (place u p.key) ≡ true) (sym here)
    (rw (starts t range.lo p.key low, ends t range.hi p.key high) refl)

-- a test that only elements of a part pass finds them in the part
any-within : {A : Type 0} (test part : A → Bool) (xs : List A) → ((x : A) → test x ≡ true → part x ≡ true) → list_any test xs ≡ list_any test (filter part xs)
any-within test part [] narrower = refl
any-within test part (x ∷ xs) narrower = by (part x) (test x) refl refl (any-within test part xs narrower)
  where
    by : (inside found : Bool) → part x ≡ inside → test x ≡ found → list_any test xs ≡ list_any test (filter part xs) →
        (test x || list_any test xs) ≡ list_any test (cond inside (x ∷ filter part xs) (filter part xs))
    by true found p e more = ap (λ b. test x || b) more
    by false false p e more = ap (λ b. b || list_any test xs) e ∙ more
    by false true p e more = let no : part x ≡ true = narrower x e in absurd cc

-- reading begins at the entries between the ends
pub begins-between : (reader : Id) (t : ℕ) (range : KeyRange) (writers found : List (Place × Id)) →
    found ≡ entries_between place_cmp (first_place t range.lo) (last_place t range.hi) writers → IsReading reader t range writers [] found
begins-between reader t range writers found is = record {
  same = λ y.
      ap (λ (es : List (Place × Id)). list_any (reads_entry reader t range y) es) is
      ∙ sym (any-within (reads_entry reader t range y) (λ e. range_contains place_cmp (first_place t range.lo) (last_place t range.hi) e.0) writers
      (λ e h. between reader t range e.0 e.1 (and_left (is_read reader t range e.0 e.1) (is_same_id y e.1) h)));
}

-- no key is in an empty range
pub none-inside : (range : KeyRange) (k : Value) → is_range_empty range ≡ true → has_key range k ≡ true → ⊥
none-inside range k empty inside = by range.lo range.hi empty (and_left (is_above_low range.lo k) (is_below_high range.hi k) inside) (and_right (is_above_low range.lo k) (is_below_high range.hi k) inside)
  where
    by : (lo hi : Option Value) → not (ends_meet lo hi) ≡ true → is_above_low lo k ≡ true → is_below_high hi k ≡ true → ⊥
    by None hi e a b = absurd cc
    by (Some l) None e a b = absurd cc
    by (Some l) (Some u) e a b =
        let meets : is_gt (value_cmp l u) ≡ false = upto value_total l k u (not-true (is_gt (value_cmp l k)) a) (not-true (is_gt (value_cmp k u)) b) in
        let no : is_gt (value_cmp l u) ≡ true = apart (is_gt (value_cmp l u)) e in
        absurd cc
      where
        apart : (b : Bool) → not (not b) ≡ true → b ≡ true
        apart true h = refl
        apart false h = h
