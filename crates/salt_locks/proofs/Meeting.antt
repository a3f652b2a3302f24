-- A part of a list in which all stand that pass a test.
use Rattle.law_story.proofs.Lists.{or_right_true}
use Rattle.salt_locks.proofs.Near.{end_closed, filter_twice, parted, up_to_end}
use Rattle.salt_locks.specs.Clear.{is_met, is_reaching}
use Rattle.salt_locks.specs.Places.{AreInOrder, is_near}
use Rattle.salt_model.specs.Locks.{clashes, is_clash, is_same_owner}
use Rattle.salt_model.specs.declared.events.Owner.{Owner}
use Rattle.salt_model.specs.declared.locks.Family.{Family}
use Rattle.salt_model.specs.declared.locks.Lock.{Lock}
use Rattle.salt_model.specs.declared.locks.Reach.{Reach}
use Rattle.salt_ranges.specs.Ranges.{ends_meet, meets}
use Rattle.salt_ranges.specs.declared.range.KeyRange.{KeyRange}
use Rattle.std.proofs.Common.{ap, arith, refl, sym, ◌∙◌}
use Rattle.std.proofs.lemmas.Bool.{and_from, and_parts, both_ways}
use Rattle.std.proofs.lemmas.List.{get_or-drop, length-drop}
use Rattle.std.proofs.lemmas.List.Sums.{prefix_len_stops}
use Rattle.std.specs.List.{filter, find, prefix_len}
use Rattle.std.specs.Prelude.{Bool, List, None, Option, Some, [], drop, false, get_or, length, nat_lt, not, suc, take, true, zero, ℕ, ◌&&◌, ◌+◌, ◌-◌, ◌<◌, ◌==◌, ◌∷◌, ◌≡◌, ◌≤◌}

from_place : {X : Type 0} (p : X → Bool) (xs : List X) (n : ℕ) → ((k : ℕ) (d : X) → k < n → k < length xs → p (get_or xs k d) ≡ false) → filter p (drop n xs) ≡ filter p xs
from_place p xs zero f = refl
from_place p [] (suc n) f = refl
from_place p (x ∷ xs) (suc n) f = let none = f 0 x (omega arith) (omega arith) in rw none (from_place p xs n (λ k d h g. f (suc k) d (omega (arith, h)) (omega (arith, g))))

to_place : {X : Type 0} (p : X → Bool) (xs : List X) (n : ℕ) → ((k : ℕ) (d : X) → n ≤ k → k < length xs → p (get_or xs k d) ≡ false) → filter p (take n xs) ≡ filter p xs
to_place p [] zero f = refl
to_place p [] (suc n) f = refl
to_place p (x ∷ xs) zero f = let none = f 0 x (omega arith) (omega arith) in rw none (to_place p xs zero (λ k d h g. f (suc k) d (omega arith) (omega (arith, g))))
to_place {X} p (x ∷ xs) (suc n) f = by (to_place p xs n (λ k d h g. f (suc k) d (omega (arith, h)) (omega (arith, g)))) (p x) refl
  where
    by : filter p (take n xs) ≡ filter p xs → (b : Bool) → p x ≡ b → filter p (x ∷ take n xs) ≡ filter p (x ∷ xs)
    by ih true e = rw e (ap (λ l. x ∷ l) ih)
    by ih false e = rw e ih

-- none before a place passes, and none from another one on
part_of : {X : Type 0} (p : X → Bool) (xs : List X) (from to : ℕ) → ((k : ℕ) (d : X) → k < from → k < length xs → p (get_or xs k d) ≡ false) →
    ((k : ℕ) (d : X) → to ≤ k → k < length xs → p (get_or xs k d) ≡ false) → filter p (take (to - from) (drop from xs)) ≡ filter p xs
part_of p xs from to before behind =
    let len = length-drop from xs in
    to_place p (drop from xs) (to - from) (λ k d h g. ap p (get_or-drop from xs k d) ∙ behind (from + k) d (omega (arith, h)) (omega (arith, g, len)))
    ∙ from_place p xs from before

near_no_more : (t : ℕ) (range : KeyRange) (ls : List Lock) → AreInOrder ls → (k : ℕ) (d : Lock) → prefix_len (up_to_end t range.hi) ls ≤ k → k < length ls → is_near t range (get_or ls k d) ≡ false
near_no_more t range ls o k d h g = by (is_near t range (get_or ls k d)) refl
  where
    by : (b : Bool) → is_near t range (get_or ls k d) ≡ b → b ≡ false
    by true e =
        let p = up_to_end t range.hi in
        let n = prefix_len p ls in
        let l = get_or ls k d in
        absurd (both_ways (p (get_or ls n d)) (prefix_len_stops p ls d (omega (arith, h, g)))
        (parted p (end_closed t range.hi) ls o n k d h g (or_right_true (nat_lt l.table t) (is_near t range l) e)))
    by false e = refl

left_false : (a b : Bool) → a ≡ false → (a && b) ≡ false
left_false true b e = cc
left_false false b e = refl

right_false : (a b : Bool) → b ≡ false → (a && b) ≡ false
right_false true b e = e
right_false false b e = refl

pub met_part : (t : ℕ) (range : KeyRange) (ls : List Lock) (from to : ℕ) → AreInOrder ls → to ≡ prefix_len (up_to_end t range.hi) ls →
    ((k : ℕ) (d : Lock) → k < from → is_reaching t range.lo (get_or ls k d) ≡ false) → filter (is_met t range) (take (to - from) (drop from ls)) ≡ filter (is_met t range) ls
met_part t range ls from to o e before = part_of (is_met t range) ls from to
    (λ k d h g. right_false (is_near t range (get_or ls k d)) (is_reaching t range.lo (get_or ls k d)) (before k d h))
    (λ k d h g. left_false (is_near t range (get_or ls k d)) (is_reaching t range.lo (get_or ls k d)) (near_no_more t range ls o k d (omega (arith, h, e)) g))

clash_is_met : (o : Owner) (f : Family) (r : Reach) (l : Lock) → clashes o f r l ≡ true → is_met r.table r.range l ≡ true
clash_is_met o f r l h =
    let other = not (is_same_owner o l.owner) in
    let same = l.table == r.table in
    let full = ends_meet l.range.lo l.range.hi in
    let asked = ends_meet r.range.lo r.range.hi in
    let below = ends_meet l.range.lo r.range.hi in
    let above = ends_meet r.range.lo l.range.hi in
    let a = and_parts (other && same && meets l.range r.range) (is_clash l.family l.mode f r.mode) h in
    let b = and_parts (other && same) (meets l.range r.range) a.0 in
    let c = and_parts (full && asked && below) above b.1 in
    let table = (and_parts other same b.0).1 in
    and_from (same && below) (same && above) (and_from same below table (and_parts (full && asked) below c.0).1) (and_from same above table c.1)

-- what clashes is met
pub clash_met : (o : Owner) (f : Family) (r : Reach) (ls : List Lock) → filter (clashes o f r) (filter (is_met r.table r.range) ls) ≡ filter (clashes o f r) ls
clash_met o f r ls = filter_twice (clashes o f r) (is_met r.table r.range) (clash_is_met o f r) ls

abbrev first_of : {X : Type 0} → List X → Option X
first_of [] = None
first_of (x ∷ xs) = Some x

-- the first that passes a test is the first of those that are left by it
find_left : {X : Type 0} (p : X → Bool) (xs : List X) → find p xs ≡ first_of (filter p xs)
find_left p [] = refl
find_left {X} p (x ∷ xs) = by (find_left p xs) (p x) refl
  where
    by : find p xs ≡ first_of (filter p xs) → (b : Bool) → p x ≡ b → find p (x ∷ xs) ≡ first_of (filter p (x ∷ xs))
    by ih true e = rw e refl
    by ih false e = rw e ih

-- so the first that clashes is the first of the met that does
pub find_met : (o : Owner) (f : Family) (r : Reach) (part ls : List Lock) → filter (is_met r.table r.range) part ≡ filter (is_met r.table r.range) ls →
    find (clashes o f r) part ≡ find (clashes o f r) ls
find_met o f r part ls same =
    find_left (clashes o f r) part
    ∙ (ap first_of (sym (clash_met o f r part) ∙ (ap (filter (clashes o f r)) same ∙ clash_met o f r ls)) ∙ sym (find_left (clashes o f r) ls))
