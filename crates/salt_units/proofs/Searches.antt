-- The tests by which changes in order are searched.
use Rattle.salt_eval.proofs.Nexts.{below_end, not_above, not_before, same_table, un}
use Rattle.salt_eval.specs.Views.{is_next}
use Rattle.salt_model.specs.Tables.{place_cmp, place_total}
use Rattle.salt_model.specs.declared.places.Place.{Place}
use Rattle.salt_ranges.specs.Ranges.{has_key, is_above_low, is_below_high}
use Rattle.salt_ranges.specs.declared.range.KeyRange.{KeyRange}
use Rattle.salt_units.proofs.Cuts.{Ends}
use Rattle.salt_units.specs.Edited.{is_passed, is_to_end}
use Rattle.salt_units.specs.Putting.{is_before}
use Rattle.salt_values.specs.Value.{value_cmp, value_total}
use Rattle.salt_values.specs.declared.value.Value.{Value}
use Rattle.std.proofs.Common.{ap, arith, sym, ◌∙◌}
use Rattle.std.proofs.lemmas.Bool.{eq-eqb, eqb-true}
use Rattle.std.proofs.lemmas.Bool.Decides.{nat_tests}
use Rattle.std.proofs.lemmas.Cmp.{upto}
use Rattle.std.specs.Ordering.{is_eq, is_le, is_lt, ordering_reverse, ordering_then}
use Rattle.std.specs.Prelude.{Bool, None, Option, Some, cond, false, nat_lt, not, refl, true, ℕ, ◌&&◌, ◌==◌, ◌≡◌, ◌≤◌}
use Rattle.std.specs.declared.cmp.Ordering.TheVariants.{Equal, Greater, Less}
use Rattle.std.specs.declared.cmp.Ordering.{Ordering}

other-table : (t : ℕ) (k : Value) (x : Place) → (t == x.table) ≡ false → is_eq (place_cmp (record { table = t; key = k }) x) ≡ false
other-table t k x h = ap (λ b. is_eq (ordering_then (cond (nat_lt t x.table) Less (cond b Equal Greater)) (value_cmp k x.key))) h ∙ by (nat_lt t x.table)
  where
    by : (b : Bool) → is_eq (ordering_then (cond b Less Greater) (value_cmp k x.key)) ≡ false
    by true = refl
    by false = refl

-- a place, by its table and its key
abbrev pub is_there : Place → Place → Bool
is_there p x = (p.table == x.table) && is_eq (value_cmp p.key x.key)

pub at-place : (p x : Place) → is_there p x ≡ is_eq (place_cmp p x)
at-place p x = by (p.table == x.table) refl
  where
    by : (b : Bool) → (p.table == x.table) ≡ b → (b && is_eq (value_cmp p.key x.key)) ≡ is_eq (place_cmp p x)
    by true same = ap is_eq (sym (same_table p.table p.key x same))
    by false other = sym (other-table p.table p.key x other)

less_of : (o : Ordering) → is_lt o ≡ true → o ≡ Less
less_of Less h = refl
less_of Equal h = absurd cc
less_of Greater h = absurd cc

module _ (q : Place) where
  pub before-ends : Ends (is_before q)
  before-ends x y less not_so = by (place_cmp y q) refl
    where
      by : (o : Ordering) → place_cmp y q ≡ o → is_lt o ≡ false
      by Less is = let so : is_lt (place_cmp x q) ≡ true = ap is_lt (place_total.trans x y q less is) in absurd cc
      by Equal is = refl
      by Greater is = refl

  pub before-apart : (x : Place) → is_before q x ≡ true → is_there q x ≡ false
  before-apart x so = at-place q x ∙ ap is_eq (place_total.antisymm q x ∙ ap ordering_reverse (less_of _ so))

  pub before-over : (x y : Place) → place_cmp x y ≡ Less → is_before q x ≡ false → is_there q x ≡ false → is_there q y ≡ false
  before-over x y less not_so out = at-place q y ∙ by (place_cmp x q) refl
    where
      by : (o : Ordering) → place_cmp x q ≡ o → is_eq (place_cmp q y) ≡ false
      by Less is = let so : is_lt (place_cmp x q) ≡ true = ap is_lt is in absurd cc
      by Equal is =
          let tied : is_there q x ≡ true = at-place q x ∙ ap is_eq (place_total.antisymm q x ∙ ap ordering_reverse is) in
          absurd cc
      by Greater is = ap is_eq (place_total.trans q x y (place_total.antisymm q x ∙ ap ordering_reverse is) less)

module _ (t : ℕ) (range : KeyRange) where
  above : (lo : Option Value) (k l : Value) → value_cmp k l ≡ Less → is_above_low lo k ≡ true → is_above_low lo l ≡ true
  above None k l less h = refl
  above (Some lo) k l less h = ap not (upto value_total lo k l (un _ h) (not_above _ (ap is_lt less)))

  below : (hi : Option Value) (k l : Value) → value_cmp k l ≡ Less → is_below_high hi k ≡ false → is_below_high hi l ≡ false
  below hi k l less h = by (is_below_high hi l) refl
    where
      by : (b : Bool) → is_below_high hi l ≡ b → b ≡ false
      by false is = refl
      by true is = let so : is_below_high hi k ≡ true = below_end t range None hi k l less is in absurd cc

  -- the order of two places is that of their tables, and in one table that of their keys
  tables : (x y : Place) → place_cmp x y ≡ Less → x.table ≤ y.table
  tables x y less = not_before x.table y.table (value_cmp x.key y.key) (ap is_le less)

  keys : (x y : Place) → place_cmp x y ≡ Less → (t == x.table) ≡ true → (t == y.table) ≡ true → value_cmp x.key y.key ≡ Less
  keys x y less hx hy =
      let e : x.table ≡ y.table = sym (eqb-true t x.table hx) ∙ eqb-true t y.table hy in
      sym (same_table x.table x.key y (eq-eqb x.table y.table e)) ∙ less

  not-less : (n m : ℕ) → n ≤ m → nat_lt m n ≡ false
  not-less n m le = grind (arith, nat_tests)

  less-not : (n m : ℕ) → nat_lt m n ≡ false → n ≤ m
  less-not n m h = grind (arith, nat_tests)

  from-not : (b : Bool) → not b ≡ false → b ≡ true
  from-not true h = refl
  from-not false h = absurd cc

  -- a test of a table's places that keys behind one that fails it fail, and which the places of the tables before it pass, and no others
  ends-by : (p : Value → Bool) → ((k l : Value) → value_cmp k l ≡ Less → p k ≡ false → p l ≡ false) → Ends (λ x. cond (t == x.table) (p x.key) (nat_lt x.table t))
  ends-by p falls x y less not_so = by (t == x.table) refl (t == y.table) refl not_so
    where
      by : (b : Bool) → (t == x.table) ≡ b → (c : Bool) → (t == y.table) ≡ c → cond b (p x.key) (nat_lt x.table t) ≡ false → cond c (p y.key) (nat_lt y.table t) ≡ false
      by true hx true hy not_so = falls x.key y.key (keys x y less hx hy) not_so
      by true hx false hy not_so = let e : t ≡ x.table = eqb-true t x.table hx in let le : x.table ≤ y.table = tables x y less in not-less t y.table (omega arith)
      by false hx true hy not_so =
          let e : t ≡ y.table = eqb-true t y.table hy in
          let le : x.table ≤ y.table = tables x y less in
          let low : t ≤ x.table = less-not t x.table not_so in
          let same : (t == x.table) ≡ true = eq-eqb t x.table (omega arith) in
          absurd cc
      by false hx false hy not_so = let le : x.table ≤ y.table = tables x y less in let low : t ≤ x.table = less-not t x.table not_so in not-less t y.table (omega arith)

  pub passed-ends : Ends (is_passed t range)
  passed-ends = ends-by (λ k. not (is_above_low range.lo k)) (λ k l less h. ap not (above range.lo k l less (from-not _ h)))

  pub to_end-ends : Ends (is_to_end t range)
  to_end-ends = ends-by (is_below_high range.hi) (below range.hi)

  -- what is neither before the range nor behind it is in it
  pub within-is : (x : Place) → is_next t range None x ≡ (not (is_passed t range x) && is_to_end t range x)
  within-is x = by (t == x.table) refl
    where
      in-table : (a b : Bool) → ((a && b) && true) ≡ (not (not a) && b)
      in-table true true = refl
      in-table true false = refl
      in-table false b = refl

      apart : (b : Bool) → false ≡ (not b && b)
      apart true = refl
      apart false = refl

      by : (b : Bool) → (t == x.table) ≡ b
          → ((b && has_key range x.key) && true) ≡ (not (cond b (not (is_above_low range.lo x.key)) (nat_lt x.table t)) && cond b (is_below_high range.hi x.key) (nat_lt x.table t))
      by true is = in-table (is_above_low range.lo x.key) (is_below_high range.hi x.key)
      by false is = apart (nat_lt x.table t)
