-- Why what is marked as clear is so.
use Rattle.law_states.specs.KeptLocks.{is_owned_by}
use Rattle.law_story.proofs.Lists.{either}
use Rattle.salt_locks.proofs.Near.{parted, up_to_below, up_to_low}
use Rattle.salt_locks.proofs.Orders.{IsClosedBack, every_at, low_closed, no_later-other, up_to_cases, up_to_earlier, value_chain, value_other}
use Rattle.salt_locks.specs.Clear.{IsMarked, ends_by, ends_no_later, is_high_at_most, is_reaching}
use Rattle.salt_locks.specs.Places.{AreInOrder, NoLater, is_low_at_most, is_no_later}
use Rattle.salt_locks.specs.Tables.{salted_lock}
use Rattle.salt_model.specs.declared.events.Owner.{Owner}
use Rattle.salt_model.specs.declared.locks.Lock.{Lock}
use Rattle.salt_ranges.specs.Ranges.{ends_meet}
use Rattle.salt_values.specs.Value.{is_value_at_most}
use Rattle.salt_values.specs.declared.id.Id.{Id}
use Rattle.salt_values.specs.declared.value.Value.{Value}
use Rattle.std.proofs.Common.{ap, arith, inl, inr, refl, subst, sym, ◌∙◌}
use Rattle.std.proofs.lemmas.Bool.{both_ways, cases_order, eq-eqb, eqb-true, ne_eqb}
use Rattle.std.proofs.lemmas.List.{get_or-map, get_or-set_other, get_or-set_same, get_or_default, length-map, length-set}
use Rattle.std.proofs.lemmas.List.Edits.{get_or-insert_above, get_or-insert_at, get_or-insert_below, length-insert}
use Rattle.std.proofs.lemmas.List.Sums.{prefix_len-le-length, prefix_len_passes, prefix_len_stops}
use Rattle.std.specs.List.{insert, prefix_len}
use Rattle.std.specs.Prelude.{Bool, List, None, Option, Some, [], false, get_or, length, map, not, set, suc, true, zero, ℕ, ◌&&◌, ◌+◌, ◌-◌, ◌<◌, ◌==◌, ◌||◌, ◌∷◌, ◌≡◌, ◌≤◌, ◌⊎◌}

-- locks in order, by their places
pub order_at : (ls : List Lock) → AreInOrder ls → (i k : ℕ) (d : Lock) → i < k → k < length ls → NoLater (get_or ls i d) (get_or ls k d)
order_at [] o i k d h g = absurd (omega (arith, g))
order_at (x ∷ xs) o i zero d h g = absurd (omega (arith, h))
order_at (x ∷ xs) o zero (suc k) d h g = every_at (NoLater x) xs o.0 k d (omega (arith, g))
order_at (x ∷ xs) o (suc i) (suc k) d h g = order_at xs o.1 i k d (omega (arith, h)) (omega (arith, g))

-- of two locks in order the first is on a lesser table, or on the same with a lower end that is at most the other's
pub order_cases : (l m : Lock) → NoLater l m → (l.table < m.table) ⊎ ((l.table ≡ m.table) × (is_low_at_most l.range.lo m.range.lo ≡ true))
order_cases l m h = up_to_cases m.table (λ lo. is_low_at_most lo m.range.lo) l h

pub table_order : (l m : Lock) → NoLater l m → l.table ≤ m.table
table_order l m h = either (λ less. omega (arith, less)) (λ same. let e = same.0 in omega (arith, e)) (order_cases l m h)

high_then_low : (hi lo other : Option Value) → is_high_at_most hi lo ≡ true → is_low_at_most lo other ≡ true → is_high_at_most hi other ≡ true
high_then_low None lo other p q = cc
high_then_low (Some hi) None other p q = cc
high_then_low (Some hi) (Some lo) None p q = q
high_then_low (Some hi) (Some lo) (Some other) p q = value_chain hi lo other p q

later_then_high : (hi other lo : Option Value) → ends_no_later hi other ≡ true → is_high_at_most other lo ≡ true → is_high_at_most hi lo ≡ true
later_then_high hi None lo p q = cc
later_then_high None (Some other) lo p q = cc
later_then_high (Some hi) (Some other) None p q = q
later_then_high (Some hi) (Some other) (Some lo) p q = value_chain hi other lo p q

ends_later : (hi other : Option Value) → ends_no_later hi other ≡ false → ends_no_later other hi ≡ true
ends_later hi None h = cc
ends_later None (Some other) h = refl
ends_later (Some hi) (Some other) h = value_other hi other h

-- a lock on another table
pub apart : (l m : Lock) → (l.table ≡ m.table → ⊥) → ends_by l m ≡ true
apart l m h = by (l.table == m.table) (ne_eqb l.table m.table h)
  where
    by : (b : Bool) → b ≡ false → (not b || is_high_at_most l.range.hi m.range.lo) ≡ true
    by true e = cc
    by false e = refl

pub ended : (l m : Lock) → is_high_at_most l.range.hi m.range.lo ≡ true → ends_by l m ≡ true
ended l m h = by (l.table == m.table) (is_high_at_most l.range.hi m.range.lo) h
  where
    by : (a b : Bool) → b ≡ true → (not a || b) ≡ true
    by true b e = e
    by false b e = refl

pub end_cases : (l m : Lock) → ends_by l m ≡ true → (l.table ≡ m.table → ⊥) ⊎ ((l.table ≡ m.table) × (is_high_at_most l.range.hi m.range.lo ≡ true))
end_cases l m h = by (l.table == m.table) refl (is_high_at_most l.range.hi m.range.lo) refl h
  where
    by : (a : Bool) → (l.table == m.table) ≡ a → (b : Bool) → is_high_at_most l.range.hi m.range.lo ≡ b → (not a || b) ≡ true →
        (l.table ≡ m.table → ⊥) ⊎ ((l.table ≡ m.table) × (is_high_at_most l.range.hi m.range.lo ≡ true))
    by true e true f g = inr (eqb-true l.table m.table e, f)
    by true e false f g = cc
    by false e b f g = inl (λ s. both_ways (l.table == m.table) e (eq-eqb l.table m.table s))

-- what ends by a lock ends by those that stand no earlier
pub ends_by_later : (l m n : Lock) → NoLater l m → NoLater m n → ends_by l m ≡ true → ends_by l n ≡ true
ends_by_later l m n p q h =
    let a = table_order l m p in
    let b = table_order m n q in
    either
    (λ other. apart l n (λ e. other (omega (arith, a, b, e))))
    (λ same. either
    (λ less. let e = same.0 in apart l n (λ f. absurd (omega (arith, e, less, f))))
    (λ low. ended l n (high_then_low l.range.hi m.range.lo n.range.lo same.1 low.1))
    (order_cases m n q))
    (end_cases l m h)

-- and so does what ends no later
pub shorter_ends_by : (l m n : Lock) → (l.table ≡ m.table) ⊎ NoLater l m × NoLater m n → ends_no_later l.range.hi m.range.hi ≡ true → ends_by m n ≡ true → ends_by l n ≡ true
shorter_ends_by l m n way p h = either
    (λ other. apart l n (λ e. either
    (λ s. other (sym s ∙ e))
    (λ o. let a = table_order l m o.0 in let b = table_order m n o.1 in other (omega (arith, a, b, e)))
    way))
    (λ same. ended l n (later_then_high l.range.hi m.range.hi n.range.lo p same.1))
    (end_cases m n h)

-- where a clear lock begins below a range, or on a lesser table, nothing before it reaches the range
not_reaching : (t : ℕ) (low : Option Value) (l : Lock) → ((l.table ≡ t) → ends_meet low l.range.hi ≡ false) → is_reaching t low l ≡ false
not_reaching t low l f = by (l.table == t) refl
  where
    by : (a : Bool) → (l.table == t) ≡ a → (a && ends_meet low l.range.hi) ≡ false
    by true e = f (eqb-true l.table t e)
    by false e = refl

below : (hi lo low : Option Value) → is_high_at_most hi lo ≡ true → not (is_low_at_most low lo) ≡ true → ends_meet low hi ≡ false
below None lo low p q = cc
below (Some hi) None low p q = cc
below (Some hi) (Some lo) None p q = cc
below (Some hi) (Some lo) (Some low) p q = by (is_value_at_most low hi) refl (is_value_at_most low lo) refl q
  where
    by : (a : Bool) → is_value_at_most low hi ≡ a → (b : Bool) → is_value_at_most low lo ≡ b → not b ≡ true → a ≡ false
    by false e b f g = refl
    by true e true f g = cc
    by true e false f g = absurd (both_ways (is_value_at_most low lo) f (value_chain low hi lo e p))

pub before_clear : (ls : List Lock) (cs : List Bool) (t : ℕ) (low : Option Value) (n : ℕ) → AreInOrder ls → IsMarked cs ls → n < prefix_len (up_to_below t low) ls →
    get_or cs n false ≡ true → (k : ℕ) (d : Lock) → k < n → is_reaching t low (get_or ls k d) ≡ false
before_clear ls cs t low n o marked h clear k d g =
    let all = prefix_len-le-length (up_to_below t low) ls in
    let l = get_or ls k d in
    let m = get_or ls n d in
    let end = marked.1 k n d false g (omega (arith, h, all)) clear in
    let order = order_at ls o k n d g (omega (arith, h, all)) in
    let a = table_order l m order in
    not_reaching t low l (λ same. either
    (λ less. absurd (omega (arith, same, a, less)))
    (λ at. let s = at.0 in either
    (λ other. absurd (other (same ∙ sym s)))
    (λ e. below l.range.hi m.range.lo low e.1 at.1)
    (end_cases l m end))
    (up_to_cases t (λ lo. not (is_low_at_most low lo)) m (prefix_len_passes (up_to_below t low) ls n d h)))

last_or_before : (k n : ℕ) → k < n → (k ≡ n - 1) ⊎ (k < n - 1)
last_or_before k n h = either (λ e. inl e) (λ c. either (λ a. inr a) (λ b. absurd (omega (arith, h, b))) c) (cases_order k (n - 1))

pub before_other : (ls : List Lock) (t : ℕ) (low : Option Value) (n : ℕ) (m : Lock) → AreInOrder ls → 0 < n → n ≤ prefix_len (up_to_below t low) ls →
    m ≡ get_or ls (n - 1) m → ((get_or ls (n - 1) m).table ≡ t → ⊥) → (k : ℕ) (d : Lock) → k < n → is_reaching t low (get_or ls k d) ≡ false
before_other ls t low n m o some h is other k d g =
    let all = prefix_len-le-length (up_to_below t low) ls in
    let l = get_or ls k m in
    let less : m.table < t = either (λ a. a) (λ b. absurd (other (sym (ap (λ (x : Lock). x.table) is) ∙ b.0)))
    (up_to_cases t (λ lo. not (is_low_at_most low lo)) m (ap (up_to_below t low) is ∙ prefix_len_passes (up_to_below t low) ls (n - 1) m (omega (arith, some, h)))) in
    ap (is_reaching t low) (get_or_default ls k d m (omega (arith, g, h, all))) ∙ not_reaching t low l (λ same. either
    (λ e. let s = ap (λ (x : Lock). x.table) (is ∙ ap (λ i. get_or ls i m) (sym e)) in absurd (omega (arith, s, same, less)))
    (λ before. let a = table_order l (get_or ls (n - 1) m) (order_at ls o k (n - 1) m before (omega (arith, some, h, all))) in
    let s = ap (λ (x : Lock). x.table) is in absurd (omega (arith, a, s, same, less)))
    (last_or_before k n g))

-- a lock before the place of a new one, and one behind it
pub before_place : (l : Lock) (ls : List Lock) (k : ℕ) (d : Lock) → k < prefix_len (up_to_low l.table l.range.lo) ls → NoLater (get_or ls k d) l
before_place l ls k d h = prefix_len_passes (up_to_low l.table l.range.lo) ls k d h

pub low_back : (t : ℕ) (low : Option Value) → IsClosedBack (up_to_low t low)
low_back t low = up_to_earlier t (λ lo. is_low_at_most lo low) (low_closed low)

pub behind_place : (l : Lock) (ls : List Lock) (k : ℕ) (d : Lock) → AreInOrder ls → prefix_len (up_to_low l.table l.range.lo) ls ≤ k → k < length ls → NoLater l (get_or ls k d)
behind_place l ls k d o h g = no_later-other (get_or ls k d) l (by (is_no_later (get_or ls k d) l) refl)
  where
    by : (b : Bool) → is_no_later (get_or ls k d) l ≡ b → is_no_later (get_or ls k d) l ≡ false
    by true e =
        let p = up_to_low l.table l.range.lo in
        let n = prefix_len p ls in
        absurd (both_ways (p (get_or ls n d)) (prefix_len_stops p ls d (omega (arith, h, g))) (parted p (low_back l.table l.range.lo) ls o n k d h g e))
    by false e = e

-- all before a clear lock that ends by a new one do too
pub clear_before : (ls : List Lock) (cs : List Bool) (l : Lock) (n : ℕ) → AreInOrder ls → IsMarked cs ls → n < prefix_len (up_to_low l.table l.range.lo) ls →
    get_or cs n false ≡ true → (k : ℕ) (d : Lock) → k < n → ends_by (get_or ls k d) l ≡ true
clear_before ls cs l n o marked h clear k d g =
    let all = prefix_len-le-length (up_to_low l.table l.range.lo) ls in
    ends_by_later (get_or ls k d) (get_or ls n d) l (order_at ls o k n d g (omega (arith, h, all))) (before_place l ls n d h)
    (marked.1 k n d false g (omega (arith, h, all)) clear)

-- and all before one on another table
pub other_before : (ls : List Lock) (l m : Lock) (n : ℕ) → AreInOrder ls → n < prefix_len (up_to_low l.table l.range.lo) ls → m ≡ get_or ls n m →
    (m.table ≡ l.table → ⊥) → (k : ℕ) (d : Lock) → k < n → ends_by (get_or ls k d) l ≡ true
other_before ls l m n o h is other k d g =
    let all = prefix_len-le-length (up_to_low l.table l.range.lo) ls in
    let a = table_order (get_or ls k m) (get_or ls n m) (order_at ls o k n m g (omega (arith, h, all))) in
    let b = table_order (get_or ls n m) l (before_place l ls n m h) in
    ap (λ x. ends_by x l) (get_or_default ls k d m (omega (arith, g, h, all)))
    ∙ apart (get_or ls k m) l (λ e. let s = ap (λ (x : Lock). x.table) is in other (omega (arith, a, b, s, e)))

-- what ends by a new lock, with one lock more
pub one_further : (ls : List Lock) (l m : Lock) (n to : ℕ) → m ≡ get_or ls n m → n < length ls → ends_by m l ≡ true → ((k : ℕ) (d : Lock) → k < n → ends_by (get_or ls k d) l ≡ true) →
    ((k : ℕ) (d : Lock) → n + 1 ≤ k → k < to → ends_by (get_or ls k d) l ≡ true) → (k : ℕ) (d : Lock) → k < to → ends_by (get_or ls k d) l ≡ true
one_further ls l m n to is least end before behind k d h = either
    (λ s. ap (λ x. ends_by x l) (ap (λ j. get_or ls j d) s ∙ (get_or_default ls n d m least ∙ sym is)) ∙ end)
    (λ c. either (λ a. before k d a) (λ a. behind k d (omega (arith, a)) h) c)
    (cases_order k n)

-- a lock that is not said to be clear any more
pub one_less : (ls : List Lock) (cs : List Bool) (n : ℕ) → IsMarked cs ls → IsMarked (set cs n false) ls
one_less ls cs n marked = (
  length-set cs n false ∙ marked.0,
  λ i k l b h g e. either
      (λ s. let len = marked.0 in absurd (both_ways (get_or (set cs n false) k b) (ap (λ j. get_or (set cs n false) j b) s ∙ get_or-set_same cs n false b (omega (arith, len, g, s))) e))
      (λ c. marked.1 i k l b h g (sym (get_or-set_other cs n k false b (λ s. either (λ a. absurd (omega (arith, a, s))) (λ a. absurd (omega (arith, a, s))) c)) ∙ e))
      (cases_order k n),
)

abbrev pub AreUnclear : ℕ → ℕ → List Bool → Type 0
AreUnclear from to cs = (k : ℕ) (b : Bool) → from ≤ k → k < to → get_or cs k b ≡ false

pub one_more_less : (cs : List Bool) (from n : ℕ) → n < length cs → AreUnclear from n cs → AreUnclear from (n + 1) (set cs n false)
one_more_less cs from n h un k b g f = either
    (λ s. ap (λ j. get_or (set cs n false) j b) s ∙ get_or-set_same cs n false b h)
    (λ c. get_or-set_other cs n k false b (λ s. either (λ a. absurd (omega (arith, a, s))) (λ a. absurd (omega (arith, a, s))) c)
    ∙ un k b g (either (λ a. a) (λ a. absurd (omega (arith, a, f))) c))
    (cases_order k n)

-- behind the first that a new lock ends by, it ends by all
pub all_behind : (ls : List Lock) (cs : List Bool) (l m : Lock) (n : ℕ) → AreInOrder ls → prefix_len (up_to_low l.table l.range.lo) ls ≤ n → n < length ls → m ≡ get_or ls n m →
    ends_by l m ≡ true → AreUnclear (prefix_len (up_to_low l.table l.range.lo) ls) n cs →
    (k : ℕ) (d : Lock) (b : Bool) → prefix_len (up_to_low l.table l.range.lo) ls ≤ k → k < length ls → get_or cs k b ≡ true → ends_by l (get_or ls k d) ≡ true
all_behind ls cs l m n o h g is end un k d b p q e = either
    (λ s. ap (ends_by l) (ap (λ j. get_or ls j d) s ∙ (get_or_default ls n d m g ∙ sym is)) ∙ end)
    (λ c. either
    (λ a. absurd (both_ways (get_or cs k b) (un k b p a) e))
    (λ a. ends_by_later l (get_or ls n m) (get_or ls k d) (behind_place l ls n m o h g)
    (ap (λ x. is_no_later x (get_or ls k d)) (get_or_default ls n m d g) ∙ order_at ls o n k d a q) (ap (ends_by l) (sym is) ∙ end))
    c)
    (cases_order k n)

-- the same where there is none
pub none_behind : (cs : List Bool) (from n all : ℕ) (l : Lock) (ls : List Lock) → all ≤ n → AreUnclear from n cs →
    (k : ℕ) (d : Lock) (b : Bool) → from ≤ k → k < all → get_or cs k b ≡ true → ends_by l (get_or ls k d) ≡ true
none_behind cs from n all l ls h un k d b p q e = absurd (both_ways (get_or cs k b) (un k b p (omega (arith, q, h))) e)

-- marking one after another

abbrev pub IsMarkedTo : ℕ → List Bool → List Lock → Type 0
IsMarkedTo n cs ls = (i k : ℕ) (l : Lock) (b : Bool) → i < k → k < n → get_or cs k b ≡ true → ends_by (get_or ls i l) (get_or ls k l) ≡ true

-- of the locks before a place one ends last
abbrev pub EndLast : ℕ → ℕ → List Lock → Type 0
EndLast last n ls = (j k : ℕ) (d : Lock) → j < n → n ≤ k → k < length ls → ends_by (get_or ls last d) (get_or ls k d) ≡ true → ends_by (get_or ls j d) (get_or ls k d) ≡ true

pub mark_one : (ls : List Lock) (cs : List Bool) (last n : ℕ) (x y : Lock) (c : Bool) → n < length ls → length cs ≡ length ls → last < length ls → x ≡ get_or ls last x → y ≡ get_or ls n y →
    c ≡ ends_by x y → IsMarkedTo n cs ls → EndLast last n ls → IsMarkedTo (n + 1) (set cs n c) ls
mark_one ls cs last n x y c h len least at_last at_n is marked ends i k l b g f e = either
    (λ s. let clear : c ≡ true = sym (get_or-set_same cs n c b (omega (arith, len, h))) ∙ (ap (λ j. get_or (set cs n c) j b) (sym s) ∙ e) in
    ap (λ j. ends_by (get_or ls i l) (get_or ls j l)) s
    ∙ ends i n l (omega (arith, g, s)) (omega arith) h
    (ap (λ z. ends_by z (get_or ls n l)) (get_or_default ls last l x least ∙ sym at_last) ∙ (ap (ends_by x) (get_or_default ls n l y h ∙ sym at_n) ∙ (sym is ∙ clear))))
    (λ o. marked i k l b g (either (λ a. a) (λ a. absurd (omega (arith, a, f))) o)
    (sym (get_or-set_other cs n k c b (λ s. either (λ a. absurd (omega (arith, a, s))) (λ a. absurd (omega (arith, a, s))) o)) ∙ e))
    (cases_order k n)

-- the lock at a place, whatever is read beyond the end
at_place : (ls : List Lock) (n : ℕ) (x d : Lock) → n < length ls → x ≡ get_or ls n x → get_or ls n d ≡ x
at_place ls n x d h is = get_or_default ls n d x h ∙ sym is

-- a clear lock ends last: those before it have ended
pub last_clear : (ls : List Lock) (last n : ℕ) (x y : Lock) → AreInOrder ls → n < length ls → last < length ls → x ≡ get_or ls last x → y ≡ get_or ls n y →
    ends_by x y ≡ true → EndLast last n ls → EndLast n (n + 1) ls
last_clear ls last n x y o h least at_last at_n end ends j k d g f q e = either
    (λ s. ap (λ i. ends_by (get_or ls i d) (get_or ls k d)) s ∙ e)
    (λ c. either
    (λ a. ends_by_later (get_or ls j d) (get_or ls n d) (get_or ls k d) (order_at ls o j n d a h) (order_at ls o n k d (omega (arith, f)) q)
    (ends j n d a (omega arith) h (ap (λ z. ends_by z (get_or ls n d)) (at_place ls last x d least at_last) ∙ (ap (ends_by x) (at_place ls n y d h at_n) ∙ end))))
    (λ a. absurd (omega (arith, a, g)))
    c)
    (cases_order j n)

-- and so does one that ends no earlier than the last so far
pub last_longer : (ls : List Lock) (last n : ℕ) (x y : Lock) → AreInOrder ls → n < length ls → last < length ls → (0 < n → last < n) → x ≡ get_or ls last x → y ≡ get_or ls n y →
    ends_no_later x.range.hi y.range.hi ≡ true → EndLast last n ls → EndLast n (n + 1) ls
last_longer ls last n x y o h least under at_last at_n longer ends j k d g f q e = either
    (λ s. ap (λ i. ends_by (get_or ls i d) (get_or ls k d)) s ∙ e)
    (λ c. either
    (λ a. let l = under (omega (arith, a)) in ends j k d a (omega (arith, f)) q
    (shorter_ends_by (get_or ls last d) (get_or ls n d) (get_or ls k d) (inr (order_at ls o last n d l h, order_at ls o n k d (omega (arith, f)) q))
    (ap (λ z. ends_no_later z.range.hi (get_or ls n d).range.hi) (at_place ls last x d least at_last) ∙ (ap (λ z. ends_no_later x.range.hi z.range.hi) (at_place ls n y d h at_n) ∙ longer)) e))
    (λ a. absurd (omega (arith, a, g)))
    c)
    (cases_order j n)

-- one that the last so far reaches over and that ends earlier changes nothing
pub last_stays : (ls : List Lock) (last n : ℕ) (x y : Lock) → n < length ls → last < length ls → x ≡ get_or ls last x → y ≡ get_or ls n y →
    ends_by x y ≡ false → ends_no_later x.range.hi y.range.hi ≡ false → EndLast last n ls → EndLast last (n + 1) ls
last_stays ls last n x y h least at_last at_n over shorter ends j k d g f q e = either
    (λ s. ap (λ i. ends_by (get_or ls i d) (get_or ls k d)) s
    ∙ (ap (λ z. ends_by z (get_or ls k d)) (at_place ls n y d h at_n)
    ∙ shorter_ends_by y x (get_or ls k d) (inl (sym (one_table x y over))) (ends_later x.range.hi y.range.hi shorter)
    (ap (λ z. ends_by z (get_or ls k d)) (sym (at_place ls last x d least at_last)) ∙ e)))
    (λ c. either (λ a. ends j k d a (omega (arith, f)) q e) (λ a. absurd (omega (arith, a, g))) c)
    (cases_order j n)
  where
    one_table : (l m : Lock) → ends_by l m ≡ false → l.table ≡ m.table
    one_table l m p = by (l.table == m.table) refl
      where
        by : (b : Bool) → (l.table == m.table) ≡ b → l.table ≡ m.table
        by true b = eqb-true l.table m.table b
        by false b = absurd (both_ways (ends_by l m) p (ap (λ a. not a || is_high_at_most l.range.hi m.range.lo) b))

pub mark_from : (cs : List Bool) (ls : List Lock) (n : ℕ) → length cs ≡ length ls → length ls ≤ n → IsMarkedTo n cs ls → IsMarked cs ls
mark_from cs ls n len all marked = (len, λ i k l b g f e. marked i k l b g (omega (arith, f, all)) e)

-- what stands where it stood

salted_end : (u b : Id) (l m : Lock) → ends_by (salted_lock u b l) (salted_lock u b m) ≡ ends_by l m
salted_end u b l m = by (is_owned_by (Owner.Unit u) l) (is_owned_by (Owner.Unit u) m) refl refl
  where
    by : (x y : Bool) → is_owned_by (Owner.Unit u) l ≡ x → is_owned_by (Owner.Unit u) m ≡ y → ends_by (salted_lock u b l) (salted_lock u b m) ≡ ends_by l m
    by true true e f = rw (e, f) refl
    by true false e f = rw (e, f) refl
    by false true e f = rw (e, f) refl
    by false false e f = rw (e, f) refl

pub salted_marked : (u b : Id) (cs : List Bool) (ls new_ls : List Lock) → IsMarked cs ls → new_ls ≡ map (salted_lock u b) ls → IsMarked cs new_ls
salted_marked u b cs ls new_ls marked is =
    let salt = salted_lock u b in
    let len = length-map ls salt in
    subst (IsMarked cs) (sym is) (
      marked.0 ∙ sym len,
      λ i k l c g h e.
          ap (λ x. ends_by x (get_or (map salt ls) k l)) (get_or-map salt ls i l l (omega (arith, g, h, len)))
          ∙ (ap (ends_by (salt (get_or ls i l))) (get_or-map salt ls k l l (omega (arith, h, len)))
          ∙ (salted_end u b (get_or ls i l) (get_or ls k l) ∙ marked.1 i k l c g (omega (arith, h, len)) e)),
    )

-- a lock with its mark put in its place
pub put_marked : (cs : List Bool) (ls : List Lock) (c : Bool) (l : Lock) (place : ℕ) → place ≤ length ls → IsMarked cs ls →
    (c ≡ true → (k : ℕ) (d : Lock) → k < place → ends_by (get_or ls k d) l ≡ true) →
    ((k : ℕ) (d : Lock) (b : Bool) → place ≤ k → k < length ls → get_or cs k b ≡ true → ends_by l (get_or ls k d) ≡ true) → IsMarked (insert cs place c) (insert ls place l)
put_marked cs ls c l place h marked before behind =
    let same = marked.0 in
    let n = length-insert cs place c (omega (arith, h, same)) in
    let m = length-insert ls place l h in (
      omega (arith, n, m, same),
      λ i k d b g f e. either
          (λ s. at_it i k d b g s e)
          (λ o. either (λ a. below_it i k d b g a e) (λ a. above_it i k d b g a (omega (arith, f, m)) e) o)
          (cases_order k place),
    )
  where
    below_it : (i k : ℕ) (d : Lock) (b : Bool) → i < k → k < place → get_or (insert cs place c) k b ≡ true → ends_by (get_or (insert ls place l) i d) (get_or (insert ls place l) k d) ≡ true
    below_it i k d b g a e =
        let same = marked.0 in
        ap (λ x. ends_by x (get_or (insert ls place l) k d)) (get_or-insert_below ls place l d i (omega (arith, g, a)) h)
        ∙ (ap (ends_by (get_or ls i d)) (get_or-insert_below ls place l d k a h)
        ∙ marked.1 i k d b g (omega (arith, a, h)) (sym (get_or-insert_below cs place c b k a (omega (arith, h, same))) ∙ e))

    at_it : (i k : ℕ) (d : Lock) (b : Bool) → i < k → k ≡ place → get_or (insert cs place c) k b ≡ true → ends_by (get_or (insert ls place l) i d) (get_or (insert ls place l) k d) ≡ true
    at_it i k d b g s e =
        let same = marked.0 in
        let is : c ≡ true = sym (get_or-insert_at cs place c b (omega (arith, h, same))) ∙ (ap (λ j. get_or (insert cs place c) j b) (sym s) ∙ e) in
        ap (λ x. ends_by x (get_or (insert ls place l) k d)) (get_or-insert_below ls place l d i (omega (arith, g, s)) h)
        ∙ (ap (ends_by (get_or ls i d)) (ap (λ j. get_or (insert ls place l) j d) s ∙ get_or-insert_at ls place l d h)
        ∙ before is i d (omega (arith, g, s)))

    shifted : {X : Type 0} (xs : List X) (x d : X) (k : ℕ) → place ≤ length xs → place < k → get_or (insert xs place x) k d ≡ get_or xs (k - 1) d
    shifted xs x d k p a =
        let back : k ≡ k - 1 + 1 = omega (arith, a) in
        ap (λ j. get_or (insert xs place x) j d) back ∙ get_or-insert_above xs place x d (k - 1) (omega (arith, a)) p

    above_it : (i k : ℕ) (d : Lock) (b : Bool) → i < k → place < k → k < length ls + 1 → get_or (insert cs place c) k b ≡ true →
        ends_by (get_or (insert ls place l) i d) (get_or (insert ls place l) k d) ≡ true
    above_it i k d b g a f e =
        let same = marked.0 in
        let flag = sym (shifted cs c b k (omega (arith, h, same)) a) ∙ e in
        ap (ends_by (get_or (insert ls place l) i d)) (shifted ls l d k h a)
        ∙ either
        (λ s. ap (λ x. ends_by x (get_or ls (k - 1) d)) (ap (λ j. get_or (insert ls place l) j d) s ∙ get_or-insert_at ls place l d h)
        ∙ behind (k - 1) d b (omega (arith, a)) (omega (arith, f, a)) flag)
        (λ o. either
        (λ p. ap (λ x. ends_by x (get_or ls (k - 1) d)) (get_or-insert_below ls place l d i p h)
        ∙ marked.1 i (k - 1) d b (omega (arith, p, a)) (omega (arith, f, a)) flag)
        (λ p. ap (λ x. ends_by x (get_or ls (k - 1) d)) (shifted ls l d i h p)
        ∙ marked.1 (i - 1) (k - 1) d b (omega (arith, p, g)) (omega (arith, f, a)) flag)
        o)
        (cases_order i place)
