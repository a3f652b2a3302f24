-- Two ends that are at most each other are the same; a test whether two spots are.
use Rattle.salt_locks.proofs.Orders.{low_refl}
use Rattle.salt_locks.specs.Places.{is_low_at_most}
use Rattle.salt_locks.specs.declared.spots.Spot.{Spot}
use Rattle.salt_values.specs.Value.{is_value_at_most, value_cmp, value_total}
use Rattle.salt_values.specs.declared.value.Value.TheVariants.{Int, Null, Text}
use Rattle.salt_values.specs.declared.value.Value.{Value}
use Rattle.std.proofs.Common.{ap, refl, sym, ◌∙◌}
use Rattle.std.proofs.lemmas.Bool.{and_from, and_parts, eq-eqb, eqb-true}
use Rattle.std.specs.FinMap.{int_cmp-IsAntisymmetric, nat_cmp-IsAntisymmetric, slice_cmp-IsAntisymmetric}
use Rattle.std.specs.Ordering.{int_cmp, is_gt, ordering_reverse, ordering_then}
use Rattle.std.specs.Prelude.{Bool, None, Option, Some, not, true, ◌&&◌, ◌==◌, ◌≡◌}
use Rattle.std.specs.declared.cmp.Ordering.TheVariants.{Equal, Greater, Less}
use Rattle.std.specs.declared.cmp.Ordering.{Ordering}

then_first : (a b : Ordering) → ordering_then a b ≡ Equal → a ≡ Equal
then_first Less b e = e
then_first Equal b e = refl
then_first Greater b e = e

value_same : (v w : Value) → value_cmp v w ≡ Equal → v ≡ w
value_same (Int x) (Int y) e = ap Value.Int (int_cmp-IsAntisymmetric x y (then_first (int_cmp x y) Equal e))
value_same (Text s) (Text t) e = ap Value.Text (slice_cmp-IsAntisymmetric nat_cmp-IsAntisymmetric s t e)
value_same Null Null e = refl
value_same (Int x) (Text t) e = cc
value_same (Int x) Null e = cc
value_same (Text s) (Int y) e = cc
value_same (Text s) Null e = cc
value_same Null (Int y) e = cc
value_same Null (Text t) e = cc

neither_above : (r : Ordering) → not (is_gt r) ≡ true → not (is_gt (ordering_reverse r)) ≡ true → r ≡ Equal
neither_above Less p q = cc
neither_above Equal p q = refl
neither_above Greater p q = cc

pub value_is : (v w : Value) → is_value_at_most v w ≡ true → is_value_at_most w v ≡ true → v ≡ w
value_is v w p q = value_same v w (neither_above (value_cmp v w) p (ap (λ r. not (is_gt r)) (sym (value_total.antisymm w v)) ∙ q))

pub low_is : (a b : Option Value) → is_low_at_most a b ≡ true → is_low_at_most b a ≡ true → b ≡ a
low_is None None p q = refl
low_is None (Some b) p q = cc
low_is (Some a) None p q = cc
low_is (Some a) (Some b) p q = ap (λ (v : Value). Some v) (value_is b a q p)

-- whether a spot is this one
abbrev pub is_spot : Spot → Spot → Bool
is_spot s t = (s.table == t.table) && (is_low_at_most s.low t.low && is_low_at_most t.low s.low)

pub spot-same : (s : Spot) → is_spot s s ≡ true
spot-same s =
    let low = low_refl s.low in
    and_from (s.table == s.table) (is_low_at_most s.low s.low && is_low_at_most s.low s.low) (eq-eqb s.table s.table refl) (and_from (is_low_at_most s.low s.low) (is_low_at_most s.low s.low) low low)

pub spot-is : (s t : Spot) → is_spot s t ≡ true → t ≡ s
spot-is s t h =
    let a = and_parts (s.table == t.table) (is_low_at_most s.low t.low && is_low_at_most t.low s.low) h in
    let b = and_parts (is_low_at_most s.low t.low) (is_low_at_most t.low s.low) a.1 in
    λ i. record { table = sym (eqb-true s.table t.table a.0) i; low = low_is s.low t.low b.0 b.1 i }
