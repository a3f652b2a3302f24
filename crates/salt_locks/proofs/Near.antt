-- The part of an ordered list that passes one test on its way and no longer another.
use Rattle.law_story.proofs.Lists.{either}
use Rattle.salt_locks.proofs.Orders.{IsClosedBack, every_at, every_map, less_up_to, low_chain, low_meets, up_to_cases, up_to_earlier}
use Rattle.salt_locks.proofs.Puts.{one_more}
use Rattle.salt_locks.specs.Places.{AreInOrder, NoLater, is_low_at_most, is_near, is_up_to}
use Rattle.salt_model.specs.Words.{Every}
use Rattle.salt_model.specs.declared.locks.Lock.{Lock}
use Rattle.salt_ranges.specs.Ranges.{ends_meet}
use Rattle.salt_ranges.specs.declared.range.KeyRange.{KeyRange}
use Rattle.salt_values.specs.declared.value.Value.{Value}
use Rattle.std.proofs.Common.{ap, arith, refl, sym, ◌∙◌}
use Rattle.std.proofs.lemmas.Bool.{ltb-true, ne_eqb}
use Rattle.std.proofs.lemmas.List.Sums.{prefix_len_is}
use Rattle.std.specs.List.{filter, prefix_len}
use Rattle.std.specs.List.Sorted.{IsPartitionPoint, IsPartitionedBy}
use Rattle.std.specs.Prelude.{Bool, List, Option, [], drop, false, get_or, length, nat_lt, not, suc, take, true, zero, ℕ, ◌&&◌, ◌+◌, ◌-◌, ◌==◌, ◌||◌, ◌∷◌, ◌≡◌, ◌≤◌}

pub parted : (p : Lock → Bool) → IsClosedBack p → (ls : List Lock) → AreInOrder ls → IsPartitionedBy p ls
parted p closed [] o i j d le l h = absurd (omega (arith, l))
parted p closed (x ∷ xs) o zero zero d le l h = h
parted p closed (x ∷ xs) o zero (suc j) d le l h = closed x (get_or xs j d) (every_at (NoLater x) xs o.0 j d (omega (arith, l))) h
parted p closed (x ∷ xs) o (suc i) zero d le l h = absurd (omega (arith, le))
parted p closed (x ∷ xs) o (suc i) (suc j) d le l h = parted p closed xs o.1 i j d (omega (arith, le)) (omega (arith, l)) h

pub counted : (p : Lock → Bool) (ls : List Lock) (r : ℕ) → r ≤ length ls → IsPartitionPoint (λ y. p y ≡ true) (λ y. p y ≡ false) ls r → r ≡ prefix_len p ls
counted p [] r bound point = omega (arith, bound)
counted p (x ∷ xs) r bound point = sym (prefix_len_is p (x ∷ xs) r x bound (λ k l. point.0 k x (omega arith) l) (λ l. point.1 r x (omega arith) l))

-- the first that fails, and all behind it
fails_on : (p : Lock → Bool) → IsClosedBack p → (x : Lock) (xs : List Lock) → p x ≡ false → Every (NoLater x) xs → Every (λ y. p y ≡ false) xs
fails_on p closed x xs h all = every_map xs (λ y before. stays (p y) (λ e. closed x y before e)) all
  where
    stays : (b : Bool) → (b ≡ true → p x ≡ true) → b ≡ false
    stays true f = absurd (cc (f refl, h))
    stays false f = refl

none_pass : (p : Lock → Bool) (xs : List Lock) → Every (λ y. p y ≡ false) xs → filter p xs ≡ []
none_pass p [] all = refl
none_pass p (x ∷ xs) all = rw all.0 (none_pass p xs all.1)

no_prefix : (p : Lock → Bool) (xs : List Lock) → Every (λ y. p y ≡ false) xs → prefix_len p xs ≡ 0
no_prefix p [] all = refl
no_prefix p (x ∷ xs) all = rw all.0 refl

-- what passes the second test and not the first, which is the stricter one
abbrev pub between : (Lock → Bool) → (Lock → Bool) → Lock → Bool
between p q l = q l && not (p l)

one_further : (a b : ℕ) (x : Lock) (xs : List Lock) → take ((1 + b) - (1 + a)) (drop (1 + a) (x ∷ xs)) ≡ take (b - a) (drop a xs)
one_further a b x xs =
    let less : (1 + b) - (1 + a) ≡ b - a = omega arith in
    ap (λ n. take n (drop (1 + a) (x ∷ xs))) less ∙ ap (λ k. take (b - a) (drop k (x ∷ xs))) (one_more a)

from_here : (b : ℕ) (x : Lock) (xs : List Lock) → take ((1 + b) - 0) (x ∷ xs) ≡ x ∷ take (b - 0) xs
from_here b x xs =
    let all : (1 + b) - 0 ≡ suc (b - 0) = omega arith in
    ap (λ n. take n (x ∷ xs)) all

pub part_between : (p q : Lock → Bool) → IsClosedBack p → IsClosedBack q → ((l : Lock) → p l ≡ true → q l ≡ true) → (ls : List Lock) → AreInOrder ls →
    filter (between p q) ls ≡ take (prefix_len q ls - prefix_len p ls) (drop (prefix_len p ls) ls)
part_between p q back_p back_q stricter [] o = refl
part_between p q back_p back_q stricter (x ∷ xs) o = by (part_between p q back_p back_q stricter xs o.1) (p x) (q x) refl refl
  where
    by : filter (between p q) xs ≡ take (prefix_len q xs - prefix_len p xs) (drop (prefix_len p xs) xs) → (a b : Bool) → p x ≡ a → q x ≡ b →
        filter (between p q) (x ∷ xs) ≡ take (prefix_len q (x ∷ xs) - prefix_len p (x ∷ xs)) (drop (prefix_len p (x ∷ xs)) (x ∷ xs))
    by ih true true e f = rw (e, f) (ih ∙ sym (one_further (prefix_len p xs) (prefix_len q xs) x xs))
    by ih true false e f = absurd (cc (stricter x e, f))
    by ih false true e f = rw (e, f) (ap (λ l. x ∷ l) (ih ∙ ap (λ n. take (prefix_len q xs - n) (drop n xs)) (no_prefix p xs (fails_on p back_p x xs e o.0))) ∙ sym (from_here (prefix_len q xs) x xs))
    by ih false false e f = rw (e, f) (none_pass (between p q) xs (every_map xs (λ y h. ap (λ b. b && not (p y)) h) (fails_on q back_q x xs f o.0)))

near_bool : (less same meets : Bool) → (less ≡ true → same ≡ false) → (same && meets) ≡ ((less || (same && meets)) && not (less || (same && false)))
near_bool true same meets f = ap (λ b. b && meets) (f refl)
near_bool false true true f = refl
near_bool false true false f = refl
near_bool false false meets f = refl

abbrev pub before_table : ℕ → Lock → Bool
before_table t = is_up_to t (λ lo. false)

abbrev pub up_to_end : ℕ → Option Value → Lock → Bool
up_to_end t hi = is_up_to t (λ lo. ends_meet lo hi)

abbrev pub up_to_below : ℕ → Option Value → Lock → Bool
up_to_below t low = is_up_to t (λ lo. not (is_low_at_most low lo))

abbrev pub up_to_low : ℕ → Option Value → Lock → Bool
up_to_low t low = is_up_to t (λ lo. is_low_at_most lo low)

near_same : (t : ℕ) (range : KeyRange) (l : Lock) → is_near t range l ≡ between (before_table t) (up_to_end t range.hi) l
near_same t range l = near_bool (nat_lt l.table t) (l.table == t) (ends_meet l.range.lo range.hi) (λ h. let less = ltb-true l.table t h in ne_eqb l.table t (λ e. absurd (omega (arith, less, e))))

pub none_closed : (t : ℕ) → IsClosedBack (before_table t)
none_closed t = up_to_earlier t (λ lo. false) (λ a b p q. q)

pub end_closed : (t : ℕ) (hi : Option Value) → IsClosedBack (up_to_end t hi)
end_closed t hi = up_to_earlier t (λ lo. ends_meet lo hi) (λ a b p q. low_meets a b hi p q)

pub below_closed : (t : ℕ) (low : Option Value) → IsClosedBack (up_to_below t low)
below_closed t low = up_to_earlier t (λ lo. not (is_low_at_most low lo)) (λ a b p q. still (is_low_at_most low a) (λ h. low_chain low a b h p) q)
  where
    still : {b : Bool} (a : Bool) → (a ≡ true → b ≡ true) → not b ≡ true → not a ≡ true
    still true f q = absurd (cc (f refl, q))
    still false f q = refl

before_is_stricter : (t : ℕ) (hi : Option Value) (l : Lock) → before_table t l ≡ true → up_to_end t hi l ≡ true
before_is_stricter t hi l h = either (λ a. less_up_to t (λ lo. ends_meet lo hi) l a) (λ b. absurd (cc (b.1))) (up_to_cases t (λ lo. false) l h)

prefix_grows : (p q : Lock → Bool) → ((l : Lock) → p l ≡ true → q l ≡ true) → (ls : List Lock) → prefix_len p ls ≤ prefix_len q ls
prefix_grows p q f [] = omega arith
prefix_grows p q f (x ∷ xs) = by (prefix_grows p q f xs) (p x) (q x) refl refl
  where
    by : prefix_len p xs ≤ prefix_len q xs → (a b : Bool) → p x ≡ a → q x ≡ b → prefix_len p (x ∷ xs) ≤ prefix_len q (x ∷ xs)
    by less true true e g = rw (e, g) (omega (arith, less))
    by less true false e g = absurd (cc (f x e, g))
    by less false b e g = rw e (omega arith)

pub before_end : (t : ℕ) (hi : Option Value) (ls : List Lock) → prefix_len (before_table t) ls ≤ prefix_len (up_to_end t hi) ls
before_end t hi ls = prefix_grows (before_table t) (up_to_end t hi) (before_is_stricter t hi) ls

pub near_part : (t : ℕ) (range : KeyRange) (ls : List Lock) → AreInOrder ls →
    filter (is_near t range) ls ≡ take (prefix_len (up_to_end t range.hi) ls - prefix_len (before_table t) ls) (drop (prefix_len (before_table t) ls) ls)
near_part t range ls o = ap (λ f. filter f ls) (λ i l. near_same t range l i)
    ∙ part_between (before_table t) (up_to_end t range.hi) (none_closed t) (end_closed t range.hi) (before_is_stricter t range.hi) ls o

pub filter_twice : {X : Type 0} (p q : X → Bool) → ((x : X) → p x ≡ true → q x ≡ true) → (xs : List X) → filter p (filter q xs) ≡ filter p xs
filter_twice p q h [] = refl
filter_twice {X} p q h (x ∷ xs) = by (filter_twice p q h xs) (p x) (q x) refl refl
  where
    by : filter p (filter q xs) ≡ filter p xs → (a b : Bool) → p x ≡ a → q x ≡ b → filter p (filter q (x ∷ xs)) ≡ filter p (x ∷ xs)
    by ih true true e f = rw (f, e) (ap (λ l. x ∷ l) ih)
    by ih true false e f = absurd (cc (h x e, f))
    by ih false true e f = rw (f, e) ih
    by ih false false e f = rw (f, e) ih
