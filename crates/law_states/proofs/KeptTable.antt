-- A table of numbered locks stands for the held ones: clashes, and the locks of each owner in the order done, come from it.
use Rattle.law_states.proofs.Ascending.{Strict, in_order-same, same-ascending}
use Rattle.law_states.specs.KeptLocks.{AreBelow, KeepsLocks, Numbered, Sooner, clash_in, is_owned_by, numbered_from, on_lock}
use Rattle.law_states.specs.Members.{Ascends, In, SameMembers}
use Rattle.law_states.specs.UnitFacts.{UnitFacts, facts_at}
use Rattle.law_states.specs.WatchSteps.{fate_by, lock_fate, lock_won, locks_after, table_after, taken_by_now}
use Rattle.law_story.proofs.Every.{every-append, every-filter}
use Rattle.law_story.proofs.Lists.{either, in-cases, in-filter, in-filter_map, in-left, in-map, in-right, into-filter, into-filter_map}
use Rattle.salt_ast.specs.declared.trees.Statement.{Statement}
use Rattle.salt_model.specs.After.{reach_now}
use Rattle.salt_model.specs.Locks.{base_owner, clash_locks, clashes, clashing, family_of, held, owners_of, unit_owner}
use Rattle.salt_model.specs.Trace.{Trace}
use Rattle.salt_model.specs.Units.{kind_of}
use Rattle.salt_model.specs.Words.{Every}
use Rattle.salt_model.specs.declared.events.Event.{Event}
use Rattle.salt_model.specs.declared.events.Event.TheVariants.{Early, Ready}
use Rattle.salt_model.specs.declared.events.Owner.{Owner}
use Rattle.salt_model.specs.declared.locks.Lock.{Lock}
use Rattle.salt_model.specs.declared.locks.Reach.{Reach}
use Rattle.salt_values.specs.Id.{in_order}
use Rattle.salt_values.specs.declared.id.Id.{Id}
use Rattle.std.proofs.Common.{ap, arith, inl, inr, subst, sym, ℕ, ◌∙◌}
use Rattle.std.specs.List.{cons_option, filter, filter_map}
use Rattle.std.specs.Prelude.{Bool, List, None, Option, Some, [], cond, false, map, option_map, refl, true, ◌++◌, ◌+◌, ◌<◌, ◌↔◌, ◌∷◌, ◌≡◌}

-- the owners of locks are told by their members
pub owners-same : (ls ms : List Lock) → SameMembers ls ms → owners_of ls ≡ owners_of ms
owners-same ls ms h = λ i. map Owner.Unit (units i) ++ map Owner.Base (bases i)
  where
    through : {B : Type 0} (f : Lock → Option B) (xs ys : List Lock) → ((l : Lock) → In l xs → In l ys) → (y : B) → In y (filter_map f xs) →
        In y (filter_map f ys)
    through f xs ys g y i = let m = in-filter_map f y xs i in into-filter_map f m.0 y ys (g m.0 m.1) m.2

    units : in_order (filter_map unit_owner ls) ≡ in_order (filter_map unit_owner ms)
    units = in_order-same _ _ (through unit_owner ls ms (λ l. (h l).0)) (through unit_owner ms ls (λ l. (h l).1))

    bases : in_order (filter_map base_owner ls) ≡ in_order (filter_map base_owner ms)
    bases = in_order-same _ _ (through base_owner ls ms (λ l. (h l).0)) (through base_owner ms ls (λ l. (h l).1))

same-filter : (p : Lock → Bool) (ls ms : List Lock) → SameMembers ls ms → SameMembers (filter p ls) (filter p ms)
same-filter p ls ms h l =
    ((λ i. let m = in-filter p l ls i in into-filter p l ms ((h l).0 m.0) m.1), (λ i. let m = in-filter p l ms i in into-filter p l ls ((h l).1 m.0) m.1))

-- clashes from any list with the held locks as members
pub clashing-from : (trace : Trace) (ls : List Lock) → SameMembers ls (held trace) → (u : Id) (st : Statement) →
    clashing trace u st ≡ owners_of (clash_in (Owner.Unit u) (family_of (kind_of u trace)) (reach_now u trace st) ls)
clashing-from trace ls h u st = by (reach_now u trace st)
  where
    by : (r : Option Reach) → owners_of (clash_locks trace u (kind_of u trace) r) ≡ owners_of (clash_in (Owner.Unit u) (family_of (kind_of u trace)) r ls)
    by None = refl
    by (Some r) = sym (owners-same _ _ (same-filter (clashes (Owner.Unit u) (family_of (kind_of u trace)) r) ls (held trace) h))

-- the locks of a table are those that it keeps
pub table-members : (table : List Numbered) (ls : List Lock) → KeepsLocks table ls → SameMembers (map (λ n. n.lock) table) ls
table-members table ls k l = (
  (λ i. let m = in-map (λ (n : Numbered). n.lock) l table i in subst (In l) k.locks (mapped m.0 k.in_turn ((k.same m.0).0 m.1) m.2)),
  (λ i. let m = in-map (λ (n : Numbered). n.lock) l k.in_turn (subst (In l) (sym k.locks) i) in mapped m.0 table ((k.same m.0).1 m.1) m.2),
)
  where
    mapped : (n : Numbered) (ns : List Numbered) → In n ns → n.lock ≡ l → In l (map (λ n. n.lock) ns)
    mapped n (m ∷ ms) (inl e) q = inl (ap (λ (x : Numbered). x.lock) e ∙ q)
    mapped n (m ∷ ms) (inr i) q = inr (mapped n ms i q)
    mapped n [] i q = absurd i

sooner-strict : Strict Sooner
sooner-strict = record { not_self = λ n h. absurd (omega arith); through = λ a b c h g. omega arith }

-- fates leave the numbers, and so the order
fate-sooner : (g : Lock → Option Lock) (m : Numbered) (ns : List Numbered) (o : Option Lock) (l : Lock) → Every (Sooner m) ns →
    Every (Sooner (record { number = m.number; lock = l })) (filter_map (on_lock g) ns)
fate-sooner g m [] o l h = tt
fate-sooner g m (n ∷ ns) o l h = by (g n.lock) (fate-sooner g m ns o l h.1)
  where
    by : (p : Option Lock) → Every (Sooner (record { number = m.number; lock = l })) (filter_map (on_lock g) ns) →
        Every (Sooner (record { number = m.number; lock = l })) (cons_option (option_map (λ l. record { number = n.number; lock = l }) p) (filter_map (on_lock g) ns))
    by None more = more
    by (Some x) more = (h.0, more)

pub fate-rises : (g : Lock → Option Lock) (ns : List Numbered) → Ascends Sooner ns → Ascends Sooner (filter_map (on_lock g) ns)
fate-rises g [] h = tt
fate-rises g (n ∷ ns) h = by (g n.lock) (fate-rises g ns h.1)
  where
    by : (p : Option Lock) → Ascends Sooner (filter_map (on_lock g) ns) →
        Ascends Sooner (cons_option (option_map (λ l. record { number = n.number; lock = l }) p) (filter_map (on_lock g) ns))
    by None more = more
    by (Some l) more = (fate-sooner g n ns (Some l) l h.0, more)

pub fate-locks : (g : Lock → Option Lock) (ns : List Numbered) → map (λ n. n.lock) (filter_map (on_lock g) ns) ≡ filter_map g (map (λ n. n.lock) ns)
fate-locks g [] = refl
fate-locks g (n ∷ ns) = by (g n.lock) (fate-locks g ns)
  where
    by : (p : Option Lock) → map (λ n. n.lock) (filter_map (on_lock g) ns) ≡ filter_map g (map (λ n. n.lock) ns) →
        map (λ n. n.lock) (cons_option (option_map (λ l. record { number = n.number; lock = l }) p) (filter_map (on_lock g) ns)) ≡ cons_option p (filter_map g (map (λ n. n.lock) ns))
    by None e = e
    by (Some l) e = ap (λ x. l ∷ x) e

map-append : {A B : Type 0} (f : A → B) (xs ys : List A) → map f (xs ++ ys) ≡ map f xs ++ map f ys
map-append f [] ys = refl
map-append f (x ∷ xs) ys = ap (λ l. f x ∷ l) (map-append f xs ys)

from-later : (n : Numbered) (k : ℕ) (ls : List Lock) → n.number < k → Every (Sooner n) (numbered_from k ls)
from-later n k [] h = tt
from-later n k (l ∷ ls) h = (h, from-later n (k + 1) ls (omega arith))

from-rises : (k : ℕ) (ls : List Lock) → Ascends Sooner (numbered_from k ls)
from-rises k [] = tt
from-rises k (l ∷ ls) = (from-later (record { number = k; lock = l }) (k + 1) ls (omega arith), from-rises (k + 1) ls)

pub append-rises : (ns : List Numbered) (ls : List Lock) (k : ℕ) → Ascends Sooner ns → AreBelow k ns → Ascends Sooner (ns ++ numbered_from k ls)
append-rises [] ls k h b = from-rises k ls
append-rises (n ∷ ns) ls k h b = (every-append (Sooner n) ns _ h.0 (from-later n k ls (b n (inl refl))), append-rises ns ls k h.1 (λ m i. b m (inr i)))

pub fate-below : (g : Lock → Option Lock) (k : ℕ) (ns : List Numbered) → AreBelow k ns → AreBelow k (filter_map (on_lock g) ns)
fate-below g k ns b n i = let m = in-filter_map (on_lock g) n ns i in by m.0 (g m.0.lock) (b m.0 m.1) m.2
  where
    by : (m : Numbered) (o : Option Lock) → m.number < k → option_map (λ l. record { number = m.number; lock = l }) o ≡ Some n → n.number < k
    by m None h e = cc
    by m (Some l) h e = let s : m.number ≡ n.number = cc in subst (λ x. x < k) s h

none-left : (n : Numbered) (ns : List Numbered) → In n (filter_map (on_lock (λ l. None)) ns) → ⊥
none-left n [] i = i
none-left n (m ∷ ns) i = none-left n ns i

-- where all go the count begins anew
pub fates-below : (f : UnitFacts) (e : Event) (k : ℕ) (ns : List Numbered) → AreBelow k ns → AreBelow (taken_by_now e k) (filter_map (on_lock (fate_by f e)) ns)
fates-below f Ready k ns b n i = absurd (none-left n ns i)
fates-below f (Early bs) k ns b n i = absurd (none-left n ns i)
fates-below f e k ns b n i = fate-below (fate_by f e) k ns b n i

-- a table that has the members of the table after an event keeps the locks after it
pub keeps-after : (k : ℕ) (trace : Trace) (e : Event) (table new : List Numbered) (ls : List Lock) → KeepsLocks table ls → AreBelow k table →
    SameMembers new (table_after k trace e table) → KeepsLocks new (locks_after trace e ls)
keeps-after k trace e table new ls h b s = record {
  in_turn = table_after k trace e h.in_turn;
  rises = append-rises (filter_map (on_lock g) h.in_turn) (lock_won trace e) (taken_by_now e k) (fate-rises g h.in_turn h.rises) (fates-below (facts_at trace e) e k h.in_turn (λ n i. b n ((h.same n).1 i)));
  locks = map-append (λ (n : Numbered). n.lock) (filter_map (on_lock g) h.in_turn) _ ∙ (λ i. (fate-locks g h.in_turn ∙ ap (filter_map g) h.locks) i ++ own (taken_by_now e k) (lock_won trace e) i);
  same = λ n. ((λ i. over table h.in_turn (λ m. (h.same m).0) n ((s n).0 i)), (λ i. (s n).1 (over h.in_turn table (λ m. (h.same m).1) n i)));
}
  where
    g : Lock → Option Lock
    g = lock_fate trace e

    own : (k : ℕ) (ls : List Lock) → map (λ (n : Numbered). n.lock) (numbered_from k ls) ≡ ls
    own k [] = refl
    own k (l ∷ ls) = ap (λ x. l ∷ x) (own (k + 1) ls)

    over : (ms ns : List Numbered) → ((m : Numbered) → In m ms → In m ns) → (n : Numbered) → In n (table_after k trace e ms) →
        In n (table_after k trace e ns)
    over ms ns f n i = either
        (λ j. let m = in-filter_map (on_lock (lock_fate trace e)) n ms j in in-left n _ _ (into-filter_map (on_lock (lock_fate trace e)) m.0 n ns (f m.0 m.1) m.2))
        (λ j. in-right n (filter_map (on_lock (lock_fate trace e)) ns) _ j)
        (in-cases n (filter_map (on_lock (lock_fate trace e)) ms) _ i)

-- the locks of an owner, by their numbers, are its held ones in the order done
pub keeps-shown : (table part : List Numbered) (ls : List Lock) (o : Owner) → KeepsLocks table ls → Ascends Sooner part →
    ((n : Numbered) → In n part ↔ (In n table × (is_owned_by o n.lock ≡ true))) → map (λ n. n.lock) part ≡ filter (is_owned_by o) ls
keeps-shown table part ls o k a s =
    ap (map (λ n. n.lock)) (same-ascending Sooner sooner-strict part (filter mine k.in_turn) a (filter-rises k.in_turn k.rises)
    (λ n i. let m = (s n).0 i in into-filter mine n k.in_turn ((k.same n).0 m.0) m.1) (λ n i. let m = in-filter mine n k.in_turn i in (s n).1 ((k.same n).1 m.0, m.1)))
    ∙ mapped k.in_turn ∙ ap (filter (is_owned_by o)) k.locks
  where
    mine : Numbered → Bool
    mine n = is_owned_by o n.lock

    filter-rises : (ns : List Numbered) → Ascends Sooner ns → Ascends Sooner (filter (λ n. is_owned_by o n.lock) ns)
    filter-rises [] h = tt
    filter-rises (n ∷ ns) h = by (is_owned_by o n.lock) (filter-rises ns h.1)
      where
        by : (b : Bool) → Ascends Sooner (filter (λ n. is_owned_by o n.lock) ns) →
            Ascends Sooner (cond b (n ∷ filter (λ n. is_owned_by o n.lock) ns) (filter (λ n. is_owned_by o n.lock) ns))
        by true more = (every-filter (Sooner n) (λ n. is_owned_by o n.lock) ns h.0, more)
        by false more = more

    mapped : (ns : List Numbered) → map (λ n. n.lock) (filter (λ n. is_owned_by o n.lock) ns) ≡ filter (is_owned_by o) (map (λ n. n.lock) ns)
    mapped [] = refl
    mapped (n ∷ ns) = by (is_owned_by o n.lock) (mapped ns)
      where
        by : (b : Bool) → map (λ n. n.lock) (filter (λ n. is_owned_by o n.lock) ns) ≡ filter (is_owned_by o) (map (λ n. n.lock) ns) →
            map (λ n. n.lock) (cond b (n ∷ filter (λ n. is_owned_by o n.lock) ns) (filter (λ n. is_owned_by o n.lock) ns)) ≡ cond b (n.lock ∷ filter (is_owned_by o) (map (λ n. n.lock) ns)) (filter (is_owned_by o) (map (λ n. n.lock) ns))
        by true e = ap (λ x. n.lock ∷ x) e
        by false e = e
