-- The order of lower ends, and of locks.
use Rattle.law_story.proofs.Lists.{either, or_right_true}
use Rattle.salt_locks.specs.Places.{NoLater, is_low_at_most, is_no_later, is_up_to}
use Rattle.salt_model.specs.Words.{Every}
use Rattle.salt_model.specs.declared.locks.Lock.{Lock}
use Rattle.salt_ranges.specs.Ranges.{ends_meet}
use Rattle.salt_values.specs.Value.{is_value_at_most, value_cmp, value_total}
use Rattle.salt_values.specs.declared.value.Value.{Value}
use Rattle.std.proofs.Common.{ap, arith, inl, inr, refl, sym, ◌∙◌}
use Rattle.std.proofs.lemmas.Bool.{and_cases, and_from, and_parts, both_ways, cases_order, eq-eqb, eqb-true, lt-ltb, ltb-true, not-true, or_cases}
use Rattle.std.specs.Cmp.{upto}
use Rattle.std.specs.Ordering.{is_gt, ordering_reverse}
use Rattle.std.specs.Prelude.{Bool, List, None, Option, Some, [], false, get_or, length, nat_lt, not, suc, true, zero, ℕ, ◌&&◌, ◌<◌, ◌==◌, ◌||◌, ◌∷◌, ◌≡◌, ◌⊎◌}
use Rattle.std.specs.declared.cmp.Ordering.{Ordering}
use Rattle.std.specs.declared.cmp.Ordering.TheVariants.{Equal, Greater, Less}

pub value_chain : (a b c : Value) → is_value_at_most a b ≡ true → is_value_at_most b c ≡ true → is_value_at_most a c ≡ true
value_chain a b c p q = ap not (upto value_total a b c (not-true (is_gt (value_cmp a b)) p) (not-true (is_gt (value_cmp b c)) q))

turned : (r : Ordering) → not (is_gt r) ≡ false → not (is_gt (ordering_reverse r)) ≡ true
turned Less h = cc
turned Equal h = cc
turned Greater h = refl

pub value_other : (a b : Value) → is_value_at_most a b ≡ false → is_value_at_most b a ≡ true
value_other a b h = ap (λ r. not (is_gt r)) (value_total.antisymm b a) ∙ turned (value_cmp a b) h

pub low_chain : (a b c : Option Value) → is_low_at_most a b ≡ true → is_low_at_most b c ≡ true → is_low_at_most a c ≡ true
low_chain None b c p q = refl
low_chain (Some a) None c p q = cc
low_chain (Some a) (Some b) None p q = q
low_chain (Some a) (Some b) (Some c) p q = value_chain a b c p q

-- what a lower end lets in at the top, a lesser one does too
pub low_meets : (a b hi : Option Value) → is_low_at_most a b ≡ true → ends_meet b hi ≡ true → ends_meet a hi ≡ true
low_meets None b hi p q = refl
low_meets (Some a) None hi p q = cc
low_meets (Some a) (Some b) None p q = refl
low_meets (Some a) (Some b) (Some h) p q = value_chain a b h p q

pub low_refl : (a : Option Value) → is_low_at_most a a ≡ true
low_refl None = refl
low_refl (Some v) = by (is_value_at_most v v) refl
  where
    by : (t : Bool) → is_value_at_most v v ≡ t → is_value_at_most v v ≡ true
    by true e = e
    by false e = value_other v v e

low_other : (a b : Option Value) → is_low_at_most a b ≡ false → is_low_at_most b a ≡ true
low_other None b h = cc
low_other (Some a) None h = refl
low_other (Some a) (Some b) h = value_other a b h

pub less_up_to : (t : ℕ) (passes : Option Value → Bool) (l : Lock) → l.table < t → is_up_to t passes l ≡ true
less_up_to t passes l h = ap (λ b. b || ((l.table == t) && passes l.range.lo)) (lt-ltb l.table t h)

pub at_up_to : (t : ℕ) (passes : Option Value → Bool) (l : Lock) → l.table ≡ t → passes l.range.lo ≡ true → is_up_to t passes l ≡ true
at_up_to t passes l e p = or_right_true (nat_lt l.table t) ((l.table == t) && passes l.range.lo) (and_from (l.table == t) (passes l.range.lo) (eq-eqb l.table t e) p)

pub up_to_cases : (t : ℕ) (passes : Option Value → Bool) (l : Lock) → is_up_to t passes l ≡ true → (l.table < t) ⊎ ((l.table ≡ t) × (passes l.range.lo ≡ true))
up_to_cases t passes l h = either
    (λ a. inl (ltb-true l.table t a))
    (λ b. let p = and_parts (l.table == t) (passes l.range.lo) b in inr (eqb-true l.table t p.0, p.1))
    (or_cases (nat_lt l.table t) ((l.table == t) && passes l.range.lo) h)

-- a test that a lesser lower end passes where a greater one does
abbrev pub IsClosed : (Option Value → Bool) → Type 0
IsClosed passes = (a b : Option Value) → is_low_at_most a b ≡ true → passes b ≡ true → passes a ≡ true

abbrev pub IsClosedBack : (Lock → Bool) → Type 0
IsClosedBack p = (l m : Lock) → NoLater l m → p m ≡ true → p l ≡ true

pub up_to_earlier : (t : ℕ) (passes : Option Value → Bool) → IsClosed passes → IsClosedBack (is_up_to t passes)
up_to_earlier t passes closed l m before h = either
    (λ less. either (λ a. less_up_to t passes l (omega (arith, less, a))) (λ b. let e = b.0 in less_up_to t passes l (omega (arith, less, e))) (up_to_cases t passes m h))
    (λ same. let e = same.0 in either (λ a. less_up_to t passes l (omega (arith, e, a))) (λ b. at_up_to t passes l (e ∙ b.0) (closed l.range.lo m.range.lo same.1 b.1)) (up_to_cases t passes m h))
    (up_to_cases m.table (λ lo. is_low_at_most lo m.range.lo) l before)

pub low_closed : (hi : Option Value) → IsClosed (λ lo. is_low_at_most lo hi)
low_closed hi a b p q = low_chain a b hi p q

pub no_later-chain : (l m n : Lock) → NoLater l m → NoLater m n → NoLater l n
no_later-chain l m n p q = up_to_earlier n.table (λ lo. is_low_at_most lo n.range.lo) (low_closed n.range.lo) l m p q

or_right_false : (x y : Bool) → (x || y) ≡ false → y ≡ false
or_right_false true y h = cc
or_right_false false y h = h

pub no_later-other : (l m : Lock) → is_no_later l m ≡ false → NoLater m l
no_later-other l m h = either
    (λ e. either
    (λ n. absurd (both_ways (l.table == m.table) n (eq-eqb l.table m.table e)))
    (λ n. at_up_to l.table (λ lo. is_low_at_most lo l.range.lo) m (sym e) (low_other l.range.lo m.range.lo n))
    (and_cases (l.table == m.table) (is_low_at_most l.range.lo m.range.lo) (or_right_false (nat_lt l.table m.table) ((l.table == m.table) && is_low_at_most l.range.lo m.range.lo) h)))
    (λ c. either
    (λ less. absurd (both_ways (is_no_later l m) h (less_up_to m.table (λ lo. is_low_at_most lo m.range.lo) l less)))
    (λ more. less_up_to l.table (λ lo. is_low_at_most lo l.range.lo) m more)
    c)
    (cases_order l.table m.table)

pub every_at : {X : Type 0} (P : X → Type 0) (xs : List X) → Every P xs → (k : ℕ) (d : X) → k < length xs → P (get_or xs k d)
every_at P [] all k d h = absurd (omega (arith, h))
every_at P (x ∷ xs) all zero d h = all.0
every_at P (x ∷ xs) all (suc k) d h = every_at P xs all.1 k d (omega (arith, h))

pub every_map : {X : Type 0} {P Q : X → Type 0} (xs : List X) → ((x : X) → P x → Q x) → Every P xs → Every Q xs
every_map [] f all = all
every_map (x ∷ xs) f all = (f x all.0, every_map xs f all.1)
