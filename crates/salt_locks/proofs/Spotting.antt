-- The spots that are listed of owners, and what calls make of them.
use Rattle.law_states.specs.KeptLocks.{Numbered, is_base_among, is_owned_by, saline_of}
use Rattle.law_states.specs.Members.{In}
use Rattle.law_story.proofs.Ids.{is_same_id-sym, is_same_id-true}
use Rattle.law_story.proofs.Lists.{in-filter, in-map}
use Rattle.salt_locks.proofs.Counting.{count-both, count-cons, count-left, count-map, count-none, count-some, some-counted}
use Rattle.salt_locks.proofs.Puts.{is_left, left_of, locks_beside}
use Rattle.salt_locks.proofs.SameSpot.{is_spot, spot-is, spot-same}
use Rattle.salt_locks.specs.Spots.{AreAt, AreCounted, AreSpotted, id_cmp, owned_at, spot_of, spots_at, spots_in}
use Rattle.salt_locks.specs.Tables.{locks_in, numbered, salted_lock}
use Rattle.salt_locks.specs.declared.spots.Spot.{Spot}
use Rattle.salt_locks.specs.declared.spots.Spots.{Spots}
use Rattle.salt_model.specs.Locks.{is_same_owner}
use Rattle.salt_model.specs.declared.events.Owner.TheVariants.{Base, Unit}
use Rattle.salt_model.specs.declared.events.Owner.{Owner}
use Rattle.salt_model.specs.declared.locks.Lock.{Lock}
use Rattle.salt_values.specs.Id.{has_id, is_same_id}
use Rattle.salt_values.specs.declared.id.Id.{Id}
use Rattle.std.proofs.Common.{ap, arith, inl, inr, refl, subst, sym, ◌∙◌}
use Rattle.std.proofs.lemmas.Bool.Decides.{nat_tests}
use Rattle.std.proofs.lemmas.Bool.{and_from, not-true}
use Rattle.std.proofs.lemmas.List.{drop_more}
use Rattle.std.proofs.lemmas.List.Sums.{sum_by-append, sum_by-insert, sum_by_push}
use Rattle.std.specs.BTreeMap.{BTreeMap, get, is_at}
use Rattle.std.specs.Global.{Global}
use Rattle.std.specs.List.{count_by, insert, list_any, remove}
use Rattle.std.specs.Ordering.{is_eq, nat_cmp, ordering_then}
use Rattle.std.specs.Prelude.{Bool, IsTrue, List, None, Some, Vec, [], cond, drop, false, get_or, length, map, suc, true, zero, ℕ, ◌&&◌, ◌+◌, ◌++◌, ◌<◌, ◌==◌, ◌∷◌, ◌≡◌, ◌≤◌, ◌||◌}
use Rattle.std.specs.declared.cmp.Ordering.TheVariants.{Equal, Greater, Less}
use Rattle.std.specs.declared.cmp.Ordering.{Ordering}

-- names and owners

tied : (m n : ℕ) → is_eq (nat_cmp m n) ≡ (m == n)
tied m n = grind (arith, nat_tests)

both : (o p : Ordering) → is_eq (ordering_then o p) ≡ (is_eq o && is_eq p)
both Less p = refl
both Equal p = refl
both Greater p = refl

pub same-at : (a b : Id) → is_eq (id_cmp a b) ≡ is_same_id a b
same-at a b = both (nat_cmp a.boot b.boot) (nat_cmp a.seq b.seq) ∙ (ap (λ t. t && is_eq (nat_cmp a.seq b.seq)) (tied a.boot b.boot) ∙ ap (λ t. (a.boot == b.boot) && t) (tied a.seq b.seq))

pub owner-is : (o p : Owner) → is_same_owner o p ≡ true → p ≡ o
owner-is (Unit u) (Unit v) h = ap Owner.Unit (sym (is_same_id-true u v h))
owner-is (Base b) (Base c) h = ap Owner.Base (sym (is_same_id-true b c h))
owner-is (Unit u) (Base c) h = cc
owner-is (Base b) (Unit v) h = cc

-- LISTS: of a name whose list is taken out, and put back longer

pub listed-more : (old mid new : BTreeMap Id (Vec Spot Global)) (name : Id) (listed : Vec Spot Global) (more : List Spot) →
    ((q : Id) → get id_cmp mid q ≡ cond (is_eq (id_cmp name q)) None (get id_cmp old q)) →
    ((q : Id) → get id_cmp new q ≡ cond (is_eq (id_cmp name q)) (Some listed) (get id_cmp mid q)) → listed.items ≡ spots_in (get id_cmp old name) ++ more → (b : Id) →
    spots_in (get id_cmp new b) ≡ cond (is_same_id b name) (spots_in (get id_cmp old b) ++ more) (spots_in (get id_cmp old b))
listed-more old mid new name listed more taken back is b =
    ap spots_in (back b)
    ∙ (by (is_eq (id_cmp name b)) refl ∙ ap (λ t. cond t (spots_in (get id_cmp old b) ++ more) (spots_in (get id_cmp old b))) (same-at name b ∙ is_same_id-sym name b))
  where
    by : (t : Bool) → is_eq (id_cmp name b) ≡ t → spots_in (cond t (Some listed) (get id_cmp mid b)) ≡ cond t (spots_in (get id_cmp old b) ++ more) (spots_in (get id_cmp old b))
    by true e = is ∙ ap (λ z. spots_in (get id_cmp old z) ++ more) (is_same_id-true name b (sym (same-at name b) ∙ e))
    by false e = ap spots_in (taken b ∙ ap (λ t. cond t None (get id_cmp old b)) e)

-- the others where one is taken out
pub listed-others : (old new : BTreeMap Id (Vec Spot Global)) (name b : Id) → ((q : Id) → get id_cmp new q ≡ cond (is_eq (id_cmp name q)) None (get id_cmp old q)) →
    is_same_id name b ≡ false → spots_in (get id_cmp new b) ≡ spots_in (get id_cmp old b)
listed-others old new name b taken other = ap spots_in (taken b ∙ ap (λ t. cond t None (get id_cmp old b)) (same-at name b ∙ other))

-- WHAT IS SPOTTED

pub spotted-part : (x : Spots) (ls ms : List Lock) → ((q : Lock → Bool) → count_by q ms ≤ count_by q ls) → AreSpotted x ls → AreSpotted x ms
spotted-part x ls ms less h whole o p =
    let a = less (owned_at o p) in
    let b = h whole o p in
    omega (arith, a, b)

pub never-true : false ≡ true → ⊥
never-true h = cc

spotted-more : (ls : List Lock) (lock : Lock) (x y : Spots) → y.whole ≡ x.whole →
    ((o : Owner) (p : Spot → Bool) → count_by p (spots_at x o) + cond (owned_at o p lock) 1 0 ≤ count_by p (spots_at y o)) → AreSpotted x ls → AreSpotted y (lock ∷ ls)
spotted-more ls lock x y same more h whole o p =
    let a = count-cons (owned_at o p) lock ls in
    let b = more o p in
    let c = h (sym same ∙ whole) o p in
    omega (arith, a, b, c)

-- an entry behind those of its owner
one-more : (p : Spot → Bool) (s : Spot) (xs : List Spot) (t : Bool) → count_by p xs + cond (t && p s) 1 0 ≤ count_by p (cond t (xs ++ s ∷ []) xs)
one-more p s xs true = let a = sum_by_push (λ (x : Spot). cond (p x) 1 0) xs s in omega (arith, a)
one-more p s xs false = omega arith

-- a unit's lock is listed
pub lists-unit : (x y : Spots) (unit : Id) (lock : Lock) (ls : List Lock) → lock.owner ≡ Unit unit → y.whole ≡ x.whole → y.bases ≡ x.bases →
    ((b : Id) → spots_in (get id_cmp y.units b) ≡ cond (is_same_id b unit) (spots_in (get id_cmp x.units b) ++ spot_of lock ∷ []) (spots_in (get id_cmp x.units b))) →
    AreSpotted x ls → AreSpotted y (lock ∷ ls)
lists-unit x y unit lock ls is same others more = spotted-more ls lock x y same counted
  where
    s : Spot
    s = spot_of lock

    owned : (o : Owner) (p : Spot → Bool) → owned_at o p lock ≡ (is_same_owner o (Unit unit) && p s)
    owned o p = ap (λ (w : Owner). is_same_owner o w && p s) is

    counted : (o : Owner) (p : Spot → Bool) → count_by p (spots_at x o) + cond (owned_at o p lock) 1 0 ≤ count_by p (spots_at y o)
    counted (Unit u) p =
        let xs = spots_at x (Unit u) in
        subst (λ (ss : List Spot). count_by p xs + cond (owned_at (Unit u) p lock) 1 0 ≤ count_by p ss) (sym (more u))
        (subst (λ t. count_by p xs + cond t 1 0 ≤ count_by p (cond (is_same_id u unit) (xs ++ s ∷ []) xs)) (sym (owned (Unit u) p)) (one-more p s xs (is_same_id u unit)))
    counted (Base b) p =
        let xs = spots_at x (Base b) in
        subst (λ m. count_by p xs + cond (owned_at (Base b) p lock) 1 0 ≤ count_by p (spots_in (get id_cmp m b))) (sym others)
        (subst (λ t. count_by p xs + cond t 1 0 ≤ count_by p xs) (sym (owned (Base b) p)) (one-more p s xs false))

-- a program's lock is listed
pub lists-base : (x y : Spots) (base : Id) (lock : Lock) (ls : List Lock) → lock.owner ≡ Base base → y.whole ≡ x.whole → y.units ≡ x.units →
    ((b : Id) → spots_in (get id_cmp y.bases b) ≡ cond (is_same_id b base) (spots_in (get id_cmp x.bases b) ++ spot_of lock ∷ []) (spots_in (get id_cmp x.bases b))) →
    AreSpotted x ls → AreSpotted y (lock ∷ ls)
lists-base x y base lock ls is same others more = spotted-more ls lock x y same counted
  where
    s : Spot
    s = spot_of lock

    owned : (o : Owner) (p : Spot → Bool) → owned_at o p lock ≡ (is_same_owner o (Base base) && p s)
    owned o p = ap (λ (w : Owner). is_same_owner o w && p s) is

    counted : (o : Owner) (p : Spot → Bool) → count_by p (spots_at x o) + cond (owned_at o p lock) 1 0 ≤ count_by p (spots_at y o)
    counted (Base b) p =
        let xs = spots_at x (Base b) in
        subst (λ (ss : List Spot). count_by p xs + cond (owned_at (Base b) p lock) 1 0 ≤ count_by p ss) (sym (more b))
        (subst (λ t. count_by p xs + cond t 1 0 ≤ count_by p (cond (is_same_id b base) (xs ++ s ∷ []) xs)) (sym (owned (Base b) p)) (one-more p s xs (is_same_id b base)))
    counted (Unit u) p =
        let xs = spots_at x (Unit u) in
        subst (λ m. count_by p xs + cond (owned_at (Unit u) p lock) 1 0 ≤ count_by p (spots_in (get id_cmp m u))) (sym others)
        (subst (λ t. count_by p xs + cond t 1 0 ≤ count_by p xs) (sym (owned (Unit u) p)) (one-more p s xs false))

-- an owner has no lock any more
pub spotted-others : (x y : Spots) (owner : Owner) (ls : List Lock) → y.whole ≡ x.whole → ((o : Owner) → is_same_owner owner o ≡ false → spots_at y o ≡ spots_at x o) →
    AreSpotted x ls → ((l : Lock) → In l ls → is_owned_by owner l ≡ false) → AreSpotted y ls
spotted-others x y owner ls same others h none whole o p = by (is_same_owner owner o) refl
  where
    by : (t : Bool) → is_same_owner owner o ≡ t → count_by (owned_at o p) ls ≤ count_by p (spots_at y o)
    by true e =
        let z = count-none (owned_at o p) ls (λ l i. ap (λ t. t && p (spot_of l)) (ap (λ (w : Owner). is_owned_by w l) (owner-is owner o e) ∙ none l i)) in
        omega (arith, z)
    by false e = subst (λ (ss : List Spot). count_by (owned_at o p) ls ≤ count_by p ss) (sym (others o e)) (h (sym same ∙ whole) o p)

-- a unit's locks are its program's
pub handed : (x y : Spots) (unit base : Id) (ls : List Lock) → y.whole ≡ x.whole → ((u : Id) → is_same_id unit u ≡ false → spots_at y (Unit u) ≡ spots_at x (Unit u)) →
    ((b : Id) → spots_at y (Base b) ≡ cond (is_same_id b base) (spots_at x (Base b) ++ spots_at x (Unit unit)) (spots_at x (Base b))) → AreSpotted x ls →
    AreSpotted y (map (salted_lock unit base) ls)
handed x y unit base ls same units bases h whole = at
  where
    new : List Lock
    new = map (salted_lock unit base) ls

    was : (o : Owner) (p : Spot → Bool) → count_by (owned_at o p) ls ≤ count_by p (spots_at x o)
    was o p = h (sym same ∙ whole) o p

    -- of units

    unit-only : (u : Id) (p : Spot → Bool) (l : Lock) → owned_at (Unit u) p (salted_lock unit base l) ≡ true → owned_at (Unit u) p l ≡ true
    unit-only u p l = by (is_owned_by (Unit unit) l)
      where
        by : (t : Bool) → owned_at (Unit u) p (cond t (saline_of base l) l) ≡ true → owned_at (Unit u) p l ≡ true
        by true e = cc
        by false e = e

    not-of-unit : (l : Lock) → is_owned_by (Unit unit) (salted_lock unit base l) ≡ false
    not-of-unit l = by (is_owned_by (Unit unit) l) refl
      where
        by : (t : Bool) → is_owned_by (Unit unit) l ≡ t → is_owned_by (Unit unit) (cond t (saline_of base l) l) ≡ false
        by true e = refl
        by false e = e

    gone : (p : Spot → Bool) → count_by (owned_at (Unit unit) p) new ≡ 0
    gone p = count-none (owned_at (Unit unit) p) new
        (λ l i. let m = in-map (salted_lock unit base) l ls i in ap (λ t. t && p (spot_of l)) (subst (λ k. is_owned_by (Unit unit) k ≡ false) m.2 (not-of-unit m.0)))

    of-unit : (u : Id) (p : Spot → Bool) (t : Bool) → is_same_id unit u ≡ t → count_by (owned_at (Unit u) p) new ≤ count_by p (spots_at y (Unit u))
    of-unit u p true e =
        let z : count_by (owned_at (Unit u) p) new ≡ 0 = subst (λ v. count_by (owned_at (Unit v) p) new ≡ 0) (is_same_id-true unit u e) (gone p) in
        omega (arith, z)
    of-unit u p false e =
        let a : count_by (owned_at (Unit u) p) new ≤ count_by (owned_at (Unit u) p) ls = count-map (salted_lock unit base) (owned_at (Unit u) p) (owned_at (Unit u) p) (unit-only u p) ls in
        let b = was (Unit u) p in
        let c = ap (count_by p) (units u e) in
        omega (arith, a, b, c)

    -- of programs

    base-only : (b : Id) (p : Spot → Bool) (l : Lock) →
        cond (owned_at (Base b) p (salted_lock unit base l)) 1 0 ≤ cond (owned_at (Base b) p l) 1 0 + cond (is_same_id b base && owned_at (Unit unit) p l) 1 0
    base-only b p l = by (is_owned_by (Unit unit) l)
      where
        by : (t : Bool) → cond (owned_at (Base b) p (cond t (saline_of base l) l)) 1 0 ≤ cond (owned_at (Base b) p l) 1 0 + cond (is_same_id b base && (t && p (spot_of l))) 1 0
        by true = omega arith
        by false = omega arith

    joined : (b : Id) (p : Spot → Bool) (t : Bool) → count_by (owned_at (Base b) p) new ≤ count_by (owned_at (Base b) p) ls + count_by (λ l. t && owned_at (Unit unit) p l) ls →
        count_by (owned_at (Base b) p) new ≤ count_by p (cond t (spots_at x (Base b) ++ spots_at x (Unit unit)) (spots_at x (Base b)))
    joined b p true k =
        let n : count_by (owned_at (Base b) p) new ≤ count_by (owned_at (Base b) p) ls + count_by (owned_at (Unit unit) p) ls = k in
        let a = was (Base b) p in
        let c = was (Unit unit) p in
        let sum : count_by p (spots_at x (Base b) ++ spots_at x (Unit unit)) ≡ count_by p (spots_at x (Base b)) + count_by p (spots_at x (Unit unit)) =
        sum_by-append (λ (s : Spot). cond (p s) 1 0) (spots_at x (Base b)) (spots_at x (Unit unit)) in
        omega (arith, n, a, c, sum)
    joined b p false k =
        let z = count-none (λ (l : Lock). false && owned_at (Unit unit) p l) ls (λ l i. refl) in
        let a = was (Base b) p in
        omega (arith, k, z, a)

    at : (o : Owner) → AreCounted o (spots_at y o) new
    at (Unit u) p = of-unit u p (is_same_id unit u) refl
    at (Base b) p = subst (λ (ss : List Spot). count_by (owned_at (Base b) p) new ≤ count_by p ss) (sym (bases b))
        (joined b p (is_same_id b base)
        (count-both (salted_lock unit base) (owned_at (Base b) p) (owned_at (Base b) p) (λ l. is_same_id b base && owned_at (Unit unit) p l) (base-only b p) ls))

-- so an owner's locks begin at its entries
pub at-spots : (x : Spots) (o : Owner) (ls : List Lock) → IsTrue x.whole → AreSpotted x ls → AreAt o (spots_at x o) ls
at-spots x o ls whole h l i own =
    let p = is_spot (spot_of l) in
    let one = count-some (owned_at o p) ls l i (and_from (is_owned_by o l) (p (spot_of l)) own (spot-same (spot_of l))) in
    let all = h whole o p in
    let some = some-counted p (spots_at x o) (omega (arith, one, all)) in
    subst (λ s. In s (spots_at x o)) (spot-is (spot_of l) some.0 some.2) some.1

-- the next spot of a list, and those behind it
pub next-spot : (ss : List Spot) (k : ℕ) (s : Spot) → k < length ss → s ≡ get_or ss k s → drop k ss ≡ s ∷ drop (k + 1) ss
next-spot ss k s h is = drop_more ss k s h ∙ ap (λ (x : Spot). x ∷ drop (k + 1) ss) (sym is)

-- WHAT calls leave

pub count-put : {X : Type 0} (q : X → Bool) (xs : List X) (k : ℕ) (y : X) → count_by q (insert xs k y) ≤ count_by q (y ∷ xs)
count-put q xs k y =
    let a = sum_by-insert (λ x. cond (q x) 1 0) xs k y in
    let b = count-cons q y xs in
    omega (arith, a, b)

pub in-removed : {X : Type 0} (xs : List X) (k : ℕ) (x : X) → In x (remove xs k) → In x xs
in-removed [] zero x i = i
in-removed [] (suc k) x i = i
in-removed (y ∷ ys) zero x i = inr i
in-removed (y ∷ ys) (suc k) x (inl e) = inl e
in-removed (y ∷ ys) (suc k) x (inr i) = inr (in-removed ys k x i)

-- none of those that go is left
left_members : (out : Lock → Bool) (ns new_ns : List ℕ) (ls new_ls : List Lock) → length ns ≡ length ls → length new_ns ≡ length new_ls →
    numbered new_ns new_ls ≡ left_of out ns ls → (l : Lock) → In l new_ls → out l ≡ false
left_members out ns new_ns ls new_ls same new_same is l i =
    let m = in-map (λ (n : Numbered). n.lock) l (numbered new_ns new_ls) (subst (In l) (sym (locks_beside new_ns new_ls new_same)) i) in
    let k = in-filter (λ n. is_left out n.lock) m.0 (numbered ns ls) (subst (In m.0) is m.1) in
    ap out (sym m.2) ∙ not-true (out (m.0).lock) k.1

-- so what is listed of the others is listed of them
pub left_spotted : (x y : Spots) (out : Lock → Bool) (ns new_ns : List ℕ) (ls new_ls : List Lock) → length ns ≡ length ls → length new_ns ≡ length new_ls →
    numbered new_ns new_ls ≡ left_of out ns ls →
    ((ms : List Lock) → AreSpotted x ms → ((l : Lock) → In l ms → out l ≡ false) → AreSpotted y ms) → AreSpotted x ls → AreSpotted y new_ls
left_spotted x y out ns new_ns ls new_ls same new_same is forgets h =
    forgets new_ls (spotted-part x ls new_ls less h) (λ l i. left_members out ns new_ns ls new_ls same new_same is l i)
  where
    less : (q : Lock → Bool) → count_by q new_ls ≤ count_by q ls
    less q =
        let a = count-left (λ (n : Numbered). n.lock) q (λ n. is_left out n.lock) (numbered ns ls) in
        let b = ap (count_by q) (sym (ap locks_in is) ∙ locks_beside new_ns new_ls new_same) in
        let c = ap (count_by q) (locks_beside ns ls same) in
        omega (arith, a, b, c)

-- SETS of programs

-- a set's test is membership in the list of its names
pub has-key : (q : Id) (names : List Id) → list_any (is_at (id_cmp q)) names ≡ has_id q names
has-key q [] = refl
has-key q (x ∷ xs) = ap (λ t. t || list_any (is_at (id_cmp q)) xs) (same-at q x) ∙ ap (λ t. is_same_id q x || t) (has-key q xs)

-- an owner that is none of them is not this one of them
pub not-this : (b : Id) (bases : List Id) (o : Owner) → In b bases → is_base_among bases o ≡ false → is_same_owner (Base b) o ≡ false
not-this b bases (Unit u) i none = refl
not-this b [] (Base c) i none = absurd i
not-this b (x ∷ xs) (Base c) i none = by (not-this b xs (Base c)) i (is_same_id c x) refl none
  where
    by : (In b xs → has_id c xs ≡ false → is_same_id b c ≡ false) → In b (x ∷ xs) → (t : Bool) → is_same_id c x ≡ t → (t || has_id c xs) ≡ false → is_same_id b c ≡ false
    by ih j true e h = cc
    by ih (inl f) false e h = is_same_id-sym b c ∙ (ap (is_same_id c) (sym f) ∙ e)
    by ih (inr j) false e h = ih j h
