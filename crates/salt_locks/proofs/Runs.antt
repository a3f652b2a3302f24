-- The locks of one spot stand together; where an owner's among them go, or become another's.
use Rattle.law_states.specs.KeptLocks.{is_owned_by, saline_of}
use Rattle.law_states.specs.Members.{Ascends, In}
use Rattle.law_story.proofs.Lists.{either}
use Rattle.salt_locks.proofs.Clearing.{low_back}
use Rattle.salt_locks.proofs.Counting.{count-cons, count-le, count-some}
use Rattle.salt_locks.proofs.Near.{below_closed, parted, up_to_below, up_to_low}
use Rattle.salt_locks.proofs.Orders.{at_up_to, less_up_to, low_refl, up_to_cases}
use Rattle.salt_locks.proofs.SameSpot.{is_spot, low_is, spot-is, spot-same}
use Rattle.salt_locks.specs.Places.{AreInOrder, NoLater, is_low_at_most}
use Rattle.salt_locks.specs.Spots.{AreAt, AreCounted, owned_at, spot_of}
use Rattle.salt_locks.specs.Tables.{is_of_another, numbered, salted_lock}
use Rattle.salt_locks.specs.declared.spots.Spot.{Spot}
use Rattle.salt_model.specs.Words.{Every}
use Rattle.salt_model.specs.declared.events.Owner.{Owner}
use Rattle.salt_model.specs.declared.locks.Lock.{Lock}
use Rattle.salt_values.specs.declared.id.Id.{Id}
use Rattle.std.proofs.Common.{ap, arith, inl, inr, refl, subst, sym, ◌∙◌}
use Rattle.std.proofs.lemmas.Bool.{and_from, and_parts, both_ways, cases_order}
use Rattle.std.proofs.lemmas.List.{get_or_default}
use Rattle.std.proofs.lemmas.List.Edits.{get_or-remove_above, get_or-remove_below, length-remove}
use Rattle.std.proofs.lemmas.List.Sums.{prefix_len-le-length, prefix_len_passes, prefix_len_stops, sum_by-set}
use Rattle.std.specs.List.{count_by, filter, prefix_len, remove}
use Rattle.std.specs.Prelude.{Bool, List, [], cond, false, get_or, length, map, nat_lt, not, set, suc, true, zero, ℕ, ◌&&◌, ◌+◌, ◌-◌, ◌<◌, ◌==◌, ◌||◌, ◌∷◌, ◌≡◌, ◌≤◌, ◌⊎◌}

-- WHERE A SPOT'S LOCKS STAND

-- no lock of the spot stands before a place, and none from one on
abbrev pub NoneBefore : Spot → ℕ → List Lock → Type 0
NoneBefore s from ls = (k : ℕ) (d : Lock) → k < from → spot_of (get_or ls k d) ≡ s → ⊥

abbrev pub NoneBehind : Spot → ℕ → List Lock → Type 0
NoneBehind s to ls = (k : ℕ) (d : Lock) → to ≤ k → k < length ls → spot_of (get_or ls k d) ≡ s → ⊥

pub none_before : (s : Spot) (ls : List Lock) (from : ℕ) → from ≡ prefix_len (up_to_below s.table s.low) ls → NoneBefore s from ls
none_before s ls from place k d h is =
    let l = get_or ls k d in
    let table : l.table ≡ s.table = ap (λ (x : Spot). x.table) is in
    let low : is_low_at_most s.low l.range.lo ≡ true = ap (λ (x : Spot). is_low_at_most s.low x.low) is ∙ low_refl s.low in
    either
    (λ less. absurd (omega (arith, less, table)))
    (λ at. both_ways (not (is_low_at_most s.low l.range.lo)) (ap not low) at.1)
    (up_to_cases s.table (λ lo. not (is_low_at_most s.low lo)) l (prefix_len_passes (up_to_below s.table s.low) ls k d (omega (arith, h, place))))

pub none_behind : (s : Spot) (ls : List Lock) (to : ℕ) → AreInOrder ls → to ≡ prefix_len (up_to_low s.table s.low) ls → NoneBehind s to ls
none_behind s ls to o place k d h g is =
    let p = up_to_low s.table s.low in
    let n = prefix_len p ls in
    let l = get_or ls k d in
    let here : p l ≡ true = at_up_to s.table (λ lo. is_low_at_most lo s.low) l (ap (λ (x : Spot). x.table) is) (ap (λ (x : Spot). is_low_at_most x.low s.low) is ∙ low_refl s.low) in
    both_ways (p (get_or ls n d)) (prefix_len_stops p ls d (omega (arith, h, g, place))) (parted p (low_back s.table s.low) ls o n k d (omega (arith, h, place)) g here)

in-at : (ls : List Lock) (l : Lock) → In l ls → (k : ℕ) × (k < length ls) × (get_or ls k l ≡ l)
in-at [] l i = absurd i
in-at (x ∷ xs) l (inl e) = (0, omega arith, e)
in-at (x ∷ xs) l (inr i) = let r = in-at xs l i in let h = r.1 in (suc r.0, omega (arith, h), r.2)

under_or : (k n : ℕ) → (k < n) ⊎ (n ≤ k)
under_or k n = either (λ e. inr (omega (arith, e))) (λ c. either (λ a. inl a) (λ a. inr (omega (arith, a))) c) (cases_order k n)

-- LOCKS THAT GO

-- no lock of the owner and the spot stands from a place on
abbrev pub NoneFrom : Owner → Spot → ℕ → List Lock → Type 0
NoneFrom o s left ls = (k : ℕ) (d : Lock) → left ≤ k → k < length ls → is_owned_by o (get_or ls k d) ≡ true → spot_of (get_or ls k d) ≡ s → ⊥

pub other_passed : (o : Owner) (s : Spot) (ls : List Lock) (left : ℕ) (l : Lock) → 0 < left → left ≤ length ls → l ≡ get_or ls (left - 1) l → is_owned_by o l ≡ false →
    NoneFrom o s left ls → NoneFrom o s (left - 1) ls
other_passed o s ls left l some under is other none k d g h own at = either
    (λ e. both_ways (is_owned_by o l) other (ap (is_owned_by o) (is ∙ (ap (λ j. get_or ls j l) (sym e) ∙ get_or_default ls k l d h)) ∙ own))
    (λ c. either (λ a. absurd (omega (arith, a, g))) (λ a. none k d (omega (arith, a, some)) h own at) c)
    (cases_order k (left - 1))

pub own_removed : (o : Owner) (s : Spot) (ls new_ls : List Lock) (left : ℕ) → 0 < left → left ≤ length ls → new_ls ≡ remove ls (left - 1) → NoneFrom o s left ls →
    NoneFrom o s (left - 1) new_ls
own_removed o s ls new_ls left some under is none k d g h own at =
    let len = length-remove ls (left - 1) (omega (arith, some, under)) in
    let same = ap length is in
    let e : get_or new_ls k d ≡ get_or ls (k + 1) d = ap (λ (xs : List Lock). get_or xs k d) is ∙ get_or-remove_above ls (left - 1) d k g (omega (arith, some, under)) in
    none (k + 1) d (omega (arith, g, some)) (omega (arith, h, len, same)) (ap (is_owned_by o) (sym e) ∙ own) (ap spot_of (sym e) ∙ at)

pub before_stays : (s : Spot) (from left : ℕ) (ls new_ls : List Lock) → from < left → left ≤ length ls → new_ls ≡ remove ls (left - 1) → NoneBefore s from ls →
    NoneBefore s from new_ls
before_stays s from left ls new_ls some under is none k d h at =
    none k d h (ap spot_of (sym (ap (λ (xs : List Lock). get_or xs k d) is ∙ get_or-remove_below ls (left - 1) d k (omega (arith, h, some)) (omega (arith, some, under)))) ∙ at)

pub spot_gone : (o : Owner) (s : Spot) (old ls : List Lock) (from left : ℕ) → left ≤ from → ((x : Lock) → In x ls → In x old) → NoneBefore s from ls → NoneFrom o s left ls →
    (rest : List Spot) → AreAt o (s ∷ rest) old → AreAt o rest ls
spot_gone o s old ls from left less sub before behind rest all x i own = later (all x (sub x i) own)
  where
    later : In (spot_of x) (s ∷ rest) → In (spot_of x) rest
    later (inl e) =
        let p = in-at ls x i in
        let h = p.1 in
        let at : spot_of (get_or ls p.0 x) ≡ s = ap spot_of p.2 ∙ sym e in
        absurd (either (λ a. before p.0 x a at) (λ a. behind p.0 x (omega (arith, a, less)) h (ap (is_owned_by o) p.2 ∙ own) at) (under_or p.0 from))
    later (inr j) = j

-- where none is left of an owner
pub all_others : (o : Owner) (ns : List ℕ) (ls : List Lock) → AreAt o [] ls → filter (is_of_another o) (numbered ns ls) ≡ numbered ns ls
all_others o [] ls none = refl
all_others o (n ∷ ns) [] none = refl
all_others o (n ∷ ns) (l ∷ ls) none = by (is_owned_by o l) refl (all_others o ns ls (λ x i own. none x (inr i) own))
  where
    by : (t : Bool) → is_owned_by o l ≡ t → filter (is_of_another o) (numbered ns ls) ≡ numbered ns ls →
        cond (not t) (record { number = n; lock = l } ∷ filter (is_of_another o) (numbered ns ls)) (filter (is_of_another o) (numbered ns ls)) ≡ record { number = n; lock = l } ∷ numbered ns ls
    by true e ih = absurd (none l (inl refl) e)
    by false e ih = ap (λ xs. record { number = n; lock = l } ∷ xs) ih

pub none-own : (o : Owner) (ls : List Lock) → AreAt o [] ls → (l : Lock) → In l ls → is_owned_by o l ≡ false
none-own o ls none l i = by (is_owned_by o l) refl
  where
    by : (t : Bool) → is_owned_by o l ≡ t → t ≡ false
    by true e = absurd (none l i e)
    by false e = refl

-- LOCKS THAT BECOME A PROGRAM'S

not_below : (s : Spot) (ls : List Lock) (from k : ℕ) (d : Lock) → AreInOrder ls → from ≡ prefix_len (up_to_below s.table s.low) ls → from ≤ k → k < length ls →
    up_to_below s.table s.low (get_or ls k d) ≡ false
not_below s ls from k d o place h bound = stays (up_to_below s.table s.low (get_or ls k d)) refl
  where
    stays : (t : Bool) → up_to_below s.table s.low (get_or ls k d) ≡ t → t ≡ false
    stays false e = refl
    stays true e =
        let p = up_to_below s.table s.low in
        let n = prefix_len p ls in
        absurd (both_ways (p (get_or ls n d)) (prefix_len_stops p ls d (omega (arith, h, place, bound))) (parted p (below_closed s.table s.low) ls o n k d (omega (arith, h, place)) bound e))

-- from the one place to the other all are at the spot
pub at_spot : (s : Spot) (ls : List Lock) (from to : ℕ) → AreInOrder ls → from ≡ prefix_len (up_to_below s.table s.low) ls → to ≡ prefix_len (up_to_low s.table s.low) ls →
    (k : ℕ) (d : Lock) → from ≤ k → k < to → spot_of (get_or ls k d) ≡ s
at_spot s ls from to o from_is to_is k d h g =
    let p = up_to_low s.table s.low in
    let end = prefix_len-le-length p ls in
    by (get_or ls k d) (not_below s ls from k d o from_is h (omega (arith, end, g, to_is))) (prefix_len_passes p ls k d (omega (arith, g, to_is)))
  where
    by : (l : Lock) → up_to_below s.table s.low l ≡ false → up_to_low s.table s.low l ≡ true → spot_of l ≡ s
    by l other here = either
        (λ less. absurd (both_ways (up_to_below s.table s.low l) other (less_up_to s.table (λ lo. not (is_low_at_most s.low lo)) l less)))
        (λ at. low (is_low_at_most s.low l.range.lo) refl at.0 at.1)
        (up_to_cases s.table (λ lo. is_low_at_most lo s.low) l here)
      where
        low : (t : Bool) → is_low_at_most s.low l.range.lo ≡ t → l.table ≡ s.table → is_low_at_most l.range.lo s.low ≡ true → spot_of l ≡ s
        low true e same back = λ i. record { table = same i; low = low_is s.low l.range.lo e back i }
        low false e same back = absurd (both_ways (up_to_below s.table s.low l) other (at_up_to s.table (λ lo. not (is_low_at_most s.low lo)) l same (ap not e)))

pub salted_spot : (u b : Id) (l : Lock) → spot_of (salted_lock u b l) ≡ spot_of l
salted_spot u b l = by (is_owned_by (Owner.Unit u) l)
  where
    by : (t : Bool) → spot_of (cond t (saline_of b l) l) ≡ spot_of l
    by true = refl
    by false = refl

pub salted_twice : (u b : Id) (l : Lock) → salted_lock u b (salted_lock u b l) ≡ salted_lock u b l
salted_twice u b l = by (is_owned_by (Owner.Unit u) l) refl
  where
    by : (t : Bool) → is_owned_by (Owner.Unit u) l ≡ t → salted_lock u b (cond t (saline_of b l) l) ≡ cond t (saline_of b l) l
    by true e = refl
    by false e = ap (λ t. cond t (saline_of b l) l) e

pub salted_owner : (u b : Id) (l : Lock) → is_owned_by (Owner.Unit u) (salted_lock u b l) ≡ false
salted_owner u b l = by (is_owned_by (Owner.Unit u) l) refl
  where
    by : (t : Bool) → is_owned_by (Owner.Unit u) l ≡ t → is_owned_by (Owner.Unit u) (cond t (saline_of b l) l) ≡ false
    by true e = refl
    by false e = e

pub map_set : {A B : Type 0} (f : A → B) (xs : List A) (k : ℕ) (x y : A) → k < length xs → x ≡ get_or xs k x → f y ≡ f x → map f (set xs k y) ≡ map f xs
map_set f [] k x y h is e = absurd (omega (arith, h))
map_set f (z ∷ zs) zero x y h is e = ap (λ w. w ∷ map f zs) (e ∙ ap f is)
map_set f (z ∷ zs) (suc k) x y h is e = ap (λ l. f z ∷ l) (map_set f zs k x y (omega (arith, h)) is e)

-- the order of locks is that of their spots
abbrev Sooner : Spot → Spot → Type 0
Sooner s t = (nat_lt s.table t.table || ((s.table == t.table) && is_low_at_most s.low t.low)) ≡ true

every-spots : (x : Lock) (xs : List Lock) → Every (NoLater x) xs → Every (Sooner (spot_of x)) (map spot_of xs)
every-spots x [] all = all
every-spots x (y ∷ ys) all = (all.0, every-spots x ys all.1)

spots-every : (x : Lock) (xs : List Lock) → Every (Sooner (spot_of x)) (map spot_of xs) → Every (NoLater x) xs
spots-every x [] all = all
spots-every x (y ∷ ys) all = (all.0, spots-every x ys all.1)

spots_of_order : (xs : List Lock) → AreInOrder xs → Ascends Sooner (map spot_of xs)
spots_of_order [] o = o
spots_of_order (x ∷ xs) o = (every-spots x xs o.0, spots_of_order xs o.1)

order_of_spots : (xs : List Lock) → Ascends Sooner (map spot_of xs) → AreInOrder xs
order_of_spots [] o = o
order_of_spots (x ∷ xs) o = (spots-every x xs o.0, order_of_spots xs o.1)

pub order_stays : (xs ys : List Lock) → map spot_of ys ≡ map spot_of xs → AreInOrder xs → AreInOrder ys
order_stays xs ys e o = order_of_spots ys (subst (Ascends Sooner) (sym e) (spots_of_order xs o))

-- a lock that was the unit's at a spot is not any more
pub one_counted : (u b : Id) (s : Spot) (rest : List Spot) (ls : List Lock) (k : ℕ) (l y : Lock) → k < length ls → l ≡ get_or ls k l → is_owned_by (Owner.Unit u) l ≡ true → spot_of l ≡ s →
    y ≡ salted_lock u b l → AreCounted (Owner.Unit u) (s ∷ rest) ls → AreCounted (Owner.Unit u) rest (set ls k y)
one_counted u b s rest ls k l y h is own at salted counted p =
    let q = owned_at (Owner.Unit u) p in
    let sums = sum_by-set (λ (x : Lock). cond (q x) 1 0) ls k y l h in
    let was : ◌≡◌ {A = ℕ} (cond (q (get_or ls k l)) 1 0) (cond (p s) 1 0) = ap (λ x. cond (q x) 1 0) (sym is) ∙ (ap (λ t. cond (t && p (spot_of l)) 1 0) own ∙ ap (λ x. cond (p x) 1 0) at) in
    let now : ◌≡◌ {A = ℕ} (cond (q y) 1 0) 0 = ap (λ t. cond (t && p (spot_of y)) 1 0) (ap (is_owned_by (Owner.Unit u)) salted ∙ salted_owner u b l) in
    let all = counted p in
    let more = count-cons p s rest in
    omega (arith, sums, was, now, all, more)

-- of those that pass the other spots
abbrev besides : Spot → (Spot → Bool) → Spot → Bool
besides s p t = p t && not (is_spot s t)

and-false : (t : Bool) → (t && false) ≡ false
and-false true = refl
and-false false = refl

-- where an owner has no lock at a spot, what is listed behind it is enough
pub none_counted : (o : Owner) (s : Spot) (rest : List Spot) (ls : List Lock) (from to : ℕ) → NoneBefore s from ls → NoneBehind s to ls →
    ((k : ℕ) (d : Lock) → from ≤ k → k < to → is_owned_by o (get_or ls k d) ≡ false) → AreCounted o (s ∷ rest) ls → AreCounted o rest ls
none_counted o s rest ls from to before behind none counted p =
    let a = count-le (owned_at o p) (owned_at o (besides s p)) ls apart in
    let b = counted (besides s p) in
    let c = count-cons (besides s p) s rest in
    let d : ◌≡◌ {A = ℕ} (cond (besides s p s) 1 0) 0 = ap (λ t. cond t 1 0) (ap (λ t. p s && not t) (spot-same s) ∙ and-false (p s)) in
    let e = count-le (besides s p) p rest (λ x i h. (and_parts (p x) (not (is_spot s x)) h).0) in
    omega (arith, a, b, c, d, e)
  where
    absent : (x : Lock) → In x ls → is_owned_by o x ≡ true → spot_of x ≡ s → ⊥
    absent x i own at =
        let m = in-at ls x i in
        let h = m.1 in
        let here : spot_of (get_or ls m.0 x) ≡ s = ap spot_of m.2 ∙ at in
        either
        (λ a. before m.0 x a here)
        (λ a. either
        (λ c. both_ways (is_owned_by o x) (ap (is_owned_by o) (sym m.2) ∙ none m.0 x a c) own)
        (λ c. behind m.0 x c h here)
        (under_or m.0 to))
        (under_or m.0 from)

    apart : (x : Lock) → In x ls → owned_at o p x ≡ true → owned_at o (besides s p) x ≡ true
    apart x i h =
        let parts = and_parts (is_owned_by o x) (p (spot_of x)) h in
        by (is_spot s (spot_of x)) refl parts.0 parts.1
      where
        by : (t : Bool) → is_spot s (spot_of x) ≡ t → is_owned_by o x ≡ true → p (spot_of x) ≡ true → owned_at o (besides s p) x ≡ true
        by true e own pass = absurd (absent x i own (spot-is s (spot_of x) e))
        by false e own pass = and_from (is_owned_by o x) (besides s p (spot_of x)) own (and_from (p (spot_of x)) (not (is_spot s (spot_of x))) pass (ap not e))

-- none is left where nothing is listed
pub none_left : (o : Owner) (ls : List Lock) → AreCounted o [] ls → AreAt o [] ls
none_left o ls counted l i own =
    let some = count-some (owned_at o (λ x. true)) ls l i (and_from (is_owned_by o l) true own refl) in
    let none : count_by (owned_at o (λ x. true)) ls ≤ 0 = counted (λ x. true) in
    absurd (omega (arith, some, none))

-- where none is left of the unit
pub none_salted : (u b : Id) (ls : List Lock) → AreAt (Owner.Unit u) [] ls → map (salted_lock u b) ls ≡ ls
none_salted u b [] none = refl
none_salted u b (l ∷ ls) none =
    ap (λ x. x ∷ map (salted_lock u b) ls) (ap (λ t. cond t (saline_of b l) l) (none-own (Owner.Unit u) (l ∷ ls) none l (inl refl)))
    ∙ ap (λ xs. l ∷ xs) (none_salted u b ls (λ x i own. none x (inr i) own))
