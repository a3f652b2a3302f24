-- Keys between two that stand together stand with them.
use Rattle.salt_place.specs.OneParts.{are_together, band, is_one_band}
use Rattle.salt_ranges.specs.Ranges.{has_key}
use Rattle.salt_place.specs.Placement.{place_of, remainder}
use Rattle.salt_values.specs.Value.{is_same_value, is_value_at_most, value_cmp, value_total}
use Rattle.salt_place.specs.declared.placement.PlaceKind.TheVariants.{Bands, Remainder}
use Rattle.salt_place.specs.declared.placement.PlaceKind.{PlaceKind}
use Rattle.salt_values.specs.declared.value.Value.TheVariants.{Int, Null, Text}
use Rattle.salt_values.specs.declared.value.Value.{Value}
use Rattle.std.proofs.Common.{Bool, None, Option, Some, ap, arith, false, negsuc, pos, refl, sym, true, ℕ, ℤ, ◌/◌, ◌<ℤ◌, ◌≡◌, ◌≤◌, ◌∙◌, ◌⊎◌, inl, inr}
use Rattle.std.proofs.lemmas.Cmp.{alike_right}
use Rattle.std.proofs.lemmas.Int.{ints}
use Rattle.std.specs.Cmp.{int_ranks}
use Rattle.std.specs.FinMap.{int_cmp-IsAntisymmetric, nat_cmp-IsAntisymmetric, slice_cmp-IsAntisymmetric}
use Rattle.std.specs.Ordering.{MatchOrdering, int_cmp, is_eq, is_gt, ordering_reverse, ordering_then}
use Rattle.std.specs.Prelude.{not, ◌&&◌, ◌||◌}
use Rattle.std.specs.declared.cmp.Ordering.TheVariants.{Equal, Greater, Less}
use Rattle.std.specs.declared.cmp.Ordering.{Ordering}

then_first : (a b : Ordering) → ordering_then a b ≡ Equal → a ≡ Equal
then_first Less b e = e
then_first Equal b e = refl
then_first Greater b e = e

value_same : (v w : Value) → value_cmp v w ≡ Equal → v ≡ w
value_same (Int x) (Int y) e = ap Value.Int (int_cmp-IsAntisymmetric x y (then_first (int_cmp x y) Equal e))
value_same (Text s) (Text t) e = ap Value.Text (slice_cmp-IsAntisymmetric nat_cmp-IsAntisymmetric s t e)
value_same Null Null e = refl
value_same (Int x) (Text t) e = cc
value_same (Int x) Null e = cc
value_same (Text s) (Int y) e = cc
value_same (Text s) Null e = cc
value_same Null (Int y) e = cc
value_same Null (Text t) e = cc

equal_is : (o : Ordering) → is_eq o ≡ true → o ≡ Equal
equal_is Less e = cc
equal_is Equal e = refl
equal_is Greater e = cc

between_equal : (a b k : Value) → value_cmp a b ≡ Equal → (is_value_at_most a k && is_value_at_most k b) ≡ is_same_value a k
between_equal a b k tied = ap (λ o. not (is_gt (value_cmp a k)) && not (is_gt o)) (sym (alike_right value_total a b k tied) ∙ value_total.antisymm k a) ∙ by (value_cmp a k)
  where
    by : (o : Ordering) → (not (is_gt o) && not (is_gt (ordering_reverse o))) ≡ is_eq o
    by Less = refl
    by Equal = refl
    by Greater = refl

-- between equal ends there is one key
one_key : (lo hi key : Value) → is_same_value lo hi ≡ true → (is_value_at_most lo key && is_value_at_most key hi) ≡ true → lo ≡ key
one_key lo hi key same within =
    value_same lo key (equal_is (value_cmp lo key) (sym (between_equal lo hi key (equal_is (value_cmp lo hi) same)) ∙ within))

both : (a b : Bool) → (a && b) ≡ true → (a ≡ true) × (b ≡ true)
both true true e = (refl, refl)
both true false e = absurd cc
both false b e = absurd cc

-- at most, as numbers
abbrev IsUpTo : ℤ → ℤ → Type 0
IsUpTo x y = (x <ℤ y) ⊎ (x ≡ y)

up_to : (x y : ℤ) (o : Ordering) → MatchOrdering o (x <ℤ y) (x ≡ y) (y <ℤ x) → not (is_gt (ordering_then o Equal)) ≡ true → IsUpTo x y
up_to x y Less m e = inl m
up_to x y Equal m e = inr m
up_to x y Greater m e = absurd cc

both_pos : (a z : ℕ) → IsUpTo (pos a) (pos z) → a ≤ z
both_pos a z (inl h) = omega (arith, ints, h)
both_pos a z (inr h) = let e : a ≡ z = cc in omega (arith, e)

both_neg : (a z : ℕ) → IsUpTo (negsuc a) (negsuc z) → z ≤ a
both_neg a z (inl h) = omega (arith, ints, h)
both_neg a z (inr h) = let e : a ≡ z = cc in omega (arith, e)

pos_neg : (a z : ℕ) → IsUpTo (pos a) (negsuc z) → ⊥
pos_neg a z (inl h) = omega (arith, ints, h)
pos_neg a z (inr h) = cc

-- between numbers of one band each is of it
third : (a z b : ℕ) → a ≤ z → z ≤ b → a / 1024 ≡ b / 1024 → z / 1024 ≡ a / 1024
third a z b low high same = omega arith

squeezed : (a z b : ℤ) → IsUpTo a z → IsUpTo z b → band a ≡ band b → band z ≡ band a
squeezed (pos a) (pos z) (pos b) low high same = let e : a / 1024 ≡ b / 1024 = cc in ap pos (third a z b (both_pos a z low) (both_pos z b high) e)
squeezed (pos a) (pos z) (negsuc b) low high same = absurd cc
squeezed (pos a) (negsuc z) b low high same = absurd (pos_neg a z low)
squeezed (negsuc a) z (pos b) low high same = absurd cc
squeezed (negsuc a) (pos z) (negsuc b) low high same = absurd (pos_neg z b high)
squeezed (negsuc a) (negsuc z) (negsuc b) low high same =
    let e : b / 1024 ≡ a / 1024 = cc in
    let f : z / 1024 ≡ b / 1024 = third b z a (both_neg z b high) (both_neg a z low) e in
    ap negsuc (f ∙ e)

bands : (lo hi key : Value) (n : ℕ) → is_one_band lo hi ≡ true → (is_value_at_most lo key && is_value_at_most key hi) ≡ true → place_of Bands key n ≡ place_of Bands lo n
bands (Int a) (Int b) (Int z) n one within =
    let h = both _ _ within in
    ap (λ x. remainder x n) (squeezed a z b (up_to a z (int_cmp a z) (int_ranks a z) h.0) (up_to z b (int_cmp z b) (int_ranks z b) h.1) (int_cmp-IsAntisymmetric (band a) (band b) (equal_is (int_cmp (band a) (band b)) one)))
bands (Int a) (Int b) (Text t) n one within = absurd cc
bands (Int a) (Int b) Null n one within = absurd cc
bands (Int a) (Text t) key n one within = absurd cc
bands (Int a) Null key n one within = absurd cc
bands (Text s) hi key n one within = absurd cc
bands Null hi key n one within = absurd cc

together : (kind : PlaceKind) (lo hi key : Value) (n : ℕ) → are_together kind lo hi ≡ true → (is_value_at_most lo key && is_value_at_most key hi) ≡ true → place_of kind key n ≡ place_of kind lo n
together Remainder lo hi key n ends within = ap (λ k. place_of Remainder k n) (sym (one_key lo hi key ends within))
together Bands lo hi key n ends within = by (is_same_value lo hi) refl ends
  where
    by : (b : Bool) → is_same_value lo hi ≡ b → (b || is_one_band lo hi) ≡ true → place_of Bands key n ≡ place_of Bands lo n
    by true same e = ap (λ k. place_of Bands k n) (sym (one_key lo hi key same within))
    by false same e = bands lo hi key n e within

pub in_range : (kind : PlaceKind) (lo hi key : Value) (n : ℕ) (low high : Option Value) → low ≡ Some lo → high ≡ Some hi → are_together kind lo hi ≡ true
    → has_key (record { lo = low; hi = high }) key ≡ true → place_of kind key n ≡ place_of kind lo n
in_range kind lo hi key n None high is is' ends within = absurd cc
in_range kind lo hi key n (Some a) None is is' ends within = absurd cc
in_range kind lo hi key n (Some a) (Some b) is is' ends within =
    let first : a ≡ lo = cc in
    let second : b ≡ hi = cc in
    together kind lo hi key n ends (ap (λ k. is_value_at_most k key && is_value_at_most key hi) (sym first) ∙ ap (λ k. is_value_at_most a key && is_value_at_most key k) (sym second) ∙ within)
