-- What is read off what is kept is read off the watch.
use Rattle.law_states.proofs.Closures.{into-any}
use Rattle.law_states.specs.KeptLocks.{KeepsLocks, Numbered, clash_in, is_owned_by}
use Rattle.law_states.specs.KeptWaits.{Asker, clash_owners, served_in}
use Rattle.law_states.specs.Members.{In}
use Rattle.law_states.specs.Readings.{WatchReading, locks_by}
use Rattle.law_states.specs.Watches.{Watch}
use Rattle.law_story.proofs.Lists.{in-filter, in-map, into-filter}
use Rattle.salt_locks.proofs.InTurn.{turns}
use Rattle.salt_locks.specs.Turns.{in_turn, is_of, locks_in_turn, numbered_of}
use Rattle.salt_locks.specs.declared.turns.TakenLock.{TakenLock}
use Rattle.salt_model.specs.Locks.{base_owner, clashes, owners_of, unit_owner}
use Rattle.salt_model.specs.Words.{is_empty}
use Rattle.salt_model.specs.declared.events.Owner.{Owner}
use Rattle.salt_model.specs.declared.events.Owner.TheVariants.{Base, Unit}
use Rattle.salt_model.specs.declared.locks.Lock.{Lock}
use Rattle.salt_model.specs.declared.locks.Reach.{Reach}
use Rattle.salt_model.specs.declared.shown.Item.{Item}
use Rattle.salt_values.specs.Id.{in_order, insert_id, is_older, is_same_id}
use Rattle.salt_values.specs.declared.id.Id.{Id}
use Rattle.salt_conflicts.specs.Shown.{owned_by, owned_by_bases, owned_by_units, shown}
use Rattle.salt_conflicts.specs.Waiters.{asker_of, askers, holds_up, waiter_of}
use Rattle.salt_conflicts.specs.declared.waiters.Waiter.{Waiter}
use Rattle.std.proofs.Common.{Bor, ap, inl, inr, option_copied, subst, sym, ◌∙◌}
use Rattle.std.proofs.lemmas.List.{map-append}
use Rattle.std.specs.List.{cons_option, filter, filter_map, find, flat_map, list_any}
use Rattle.std.specs.Prelude.{Bool, List, None, Option, Some, [], cond, false, is_some, map, not, option_map, refl, true, ◌++◌, ◌||◌, ◌∷◌, ◌≡◌}

-- SERVICE

served-same : (ls : List Lock) (ws : List Asker) → served_in ls (askers (map waiter_of ws)) ≡ served_in ls ws
served-same ls [] = refl
served-same ls (w ∷ ws) = by (is_empty (clash_owners ls w)) (served-same ls ws)
  where
    by : (b : Bool) → served_in ls (askers (map waiter_of ws)) ≡ served_in ls ws →
        option_map (λ (a : Asker). a.unit) (cond b (Some (asker_of (waiter_of w))) (find (λ a. is_empty (clash_owners ls a)) (askers (map waiter_of ws))))
        ≡ option_map (λ (a : Asker). a.unit) (cond b (Some w) (find (λ a. is_empty (clash_owners ls a)) ws))
    by true e = refl
    by false e = e

pub served-read : (w : Watch) (table : List Numbered) (ws : List Waiter) → w.table ≡ table → map waiter_of w.waits ≡ ws →
    served_in (map (λ (n : Numbered). n.lock) table) (askers ws) ≡ served_in (map (λ (n : Numbered). n.lock) w.table) w.waits
served-read w table ws is waits =
    let ls = map (λ (n : Numbered). n.lock) table in
    ap (λ (vs : List Waiter). served_in ls (askers vs)) (sym waits)
    ∙ (served-same ls w.waits ∙ ap (λ (t : List Numbered). served_in (map (λ (n : Numbered). n.lock) t) w.waits) (sym is))

inserted-some : (u : Id) (us : List Id) {A : Type 0} (f : Id → A) (more : List A) → is_empty (map f (insert_id u us) ++ more) ≡ false
inserted-some u [] f more = refl
inserted-some u (v ∷ vs) f more = step (is_older u v) (is_same_id u v)
  where
    step : (a b : Bool) → is_empty (map f (cond a (u ∷ v ∷ vs) (cond b (v ∷ vs) (v ∷ insert_id u vs))) ++ more) ≡ false
    step true b = refl
    step false true = refl
    step false false = refl

last-some : (xs : List Owner) (b : Id) (bs : List Id) → is_empty (xs ++ map Owner.Base (insert_id b bs)) ≡ false
last-some (x ∷ xs) b bs = refl
last-some [] b [] = refl
last-some [] b (c ∷ cs) = step (is_older b c) (is_same_id b c)
  where
    step : (x y : Bool) → is_empty (map Owner.Base (cond x (b ∷ c ∷ cs) (cond y (c ∷ cs) (c ∷ insert_id b cs)))) ≡ false
    step true y = refl
    step false true = refl
    step false false = refl

-- a lock has an owner
one-owner : (o : Owner) (us bs : List Id) →
    is_empty (map Owner.Unit (in_order (cons_option (elim o [ Unit u ↦ Some u | Base b ↦ None ]) us)) ++ map Owner.Base (in_order (cons_option (elim o [ Unit u ↦ None | Base b ↦ Some b ]) bs))) ≡ false
one-owner (Unit u) us bs = inserted-some u (in_order us) Owner.Unit (map Owner.Base (in_order bs))
one-owner (Base b) us bs = last-some (map Owner.Unit (in_order us)) b (in_order bs)

-- so where no lock passes a test there is no owner of one that does
pub free-of : (p : Lock → Bool) (ls : List Lock) → not (list_any p ls) ≡ is_empty (owners_of (filter p ls))
free-of p [] = refl
free-of p (l ∷ ls) = by (free-of p ls) (p l)
  where
    by : not (list_any p ls) ≡ is_empty (owners_of (filter p ls)) → (b : Bool) → not (b || list_any p ls) ≡ is_empty (owners_of (cond b (l ∷ filter p ls) (filter p ls)))
    by ih true = sym (one-owner l.owner (filter_map unit_owner (filter p ls)) (filter_map base_owner (filter p ls)))
    by ih false = ih

-- whether one is found, and whether there is an owner

some-copied : {A : Type 0} (o : Option (Bor A)) → is_some (option_copied o) ≡ is_some o
some-copied None = refl
some-copied (Some x) = refl

find-any : (p : Lock → Bool) (ls : List Lock) → is_some (find p ls) ≡ list_any p ls
find-any p [] = refl
find-any p (l ∷ ls) = by (p l) (find-any p ls)
  where
    by : (b : Bool) → is_some (find p ls) ≡ list_any p ls → is_some (cond b (Some l) (find p ls)) ≡ (b || list_any p ls)
    by true e = refl
    by false e = e

pub found-held : (p : Lock → Bool) (ls : List Lock) (l : Lock) → find p ls ≡ Some l → In l ls
found-held p [] l h = cc
found-held p (x ∷ xs) l h = by (p x) h (found-held p xs l)
  where
    by : (b : Bool) → cond b (Some x) (find p xs) ≡ Some l → (find p xs ≡ Some l → In l xs) → In l (x ∷ xs)
    by true e more = let same : x ≡ l = cc in inl same
    by false e more = inr (more e)

pub found-passes : (p : Lock → Bool) (ls : List Lock) (l : Lock) → find p ls ≡ Some l → p l ≡ true
found-passes p [] l h = cc
found-passes p (x ∷ xs) l h = by (p x) refl h (found-passes p xs l)
  where
    by : (b : Bool) → p x ≡ b → cond b (Some x) (find p xs) ≡ Some l → (find p xs ≡ Some l → p l ≡ true) → p l ≡ true
    by true is e more = let same : x ≡ l = cc in subst (λ (y : Lock). p y ≡ true) same is
    by false is e more = more e

pub some-free : (p : Lock → Bool) (ls : List Lock) (found : Option (Bor Lock)) → option_copied found ≡ find p ls → is_empty (owners_of (filter p ls)) ≡ not (is_some found)
some-free p ls found is = sym (free-of p ls) ∙ ap not (sym (find-any p ls) ∙ (ap is_some (sym is) ∙ some-copied found))

-- a held lock that clashes with what a waiting unit asks for
pub held-free : (ls : List Lock) (w : Waiter) (lock : Option (Bor Lock)) → ((l : Lock) → option_copied lock ≡ Some l → In l ls) →
    holds_up (option_copied lock) w.reach w.unit w.family ≡ true → is_empty (clash_owners ls (asker_of w)) ≡ not (is_some lock)
held-free ls w lock held h = by (option_copied lock) refl w.reach refl h ∙ ap not (some-copied lock)
  where
    by : (o : Option Lock) → option_copied lock ≡ o → (r : Option Reach) → w.reach ≡ r → holds_up o r w.unit w.family ≡ true →
        is_empty (owners_of (clash_in (Owner.Unit w.unit) w.family w.reach ls)) ≡ not (is_some (option_copied lock))
    by None e r f g = cc
    by (Some l) e None f g = cc
    by (Some l) e (Some r) f g =
        let p = clashes (Owner.Unit w.unit) w.family r in
        ap (λ (r : Option Reach). is_empty (owners_of (clash_in (Owner.Unit w.unit) w.family r ls))) f
        ∙ (sym (free-of p ls) ∙ (ap not (into-any p l ls (held l e) g) ∙ sym (ap (λ (o : Option Lock). not (is_some o)) e)))

-- LOCKS SHOWN

pub filter-all : {A : Type 0} (p : A → Bool) (xs : List A) → ((x : A) → In x xs → p x ≡ true) → filter p xs ≡ xs
filter-all p [] h = refl
filter-all p (x ∷ xs) h = ap (λ b. cond b (x ∷ filter p xs) (filter p xs)) (h x (inl refl)) ∙ ap (λ l. x ∷ l) (filter-all p xs (λ y i. h y (inr i)))

-- an owner's locks in turn are those of any reading
pub part-told : (w : Watch) (r : WatchReading w) (o : Owner) → map (λ (n : Numbered). n.lock) (locks_in_turn o w.table) ≡ locks_by r o
part-told w r o =
    let mine = filter (is_of o) w.table in
    let ls = locks_by r o in
    let keeps : KeepsLocks mine ls = record {
      in_turn = r.part o;
      rises = r.rises o;
      locks = refl;
      same = λ n. (
        (λ i. (r.whose o n).1 (in-filter (is_of o) n w.table i)),
        (λ i. let h = (r.whose o n).0 i in into-filter (is_of o) n w.table h.0 h.1),
      );
    } in
    ap (λ ns. map (λ (n : Numbered). n.lock) (in_turn (λ (n : Numbered). n.number) ns)) (sym (filter-all (is_of o) mine (λ n i. (in-filter (is_of o) n w.table i).1)))
    ∙ (turns mine ls o keeps ∙ filter-all (is_owned_by o) ls (λ l i. let m = in-map (λ (n : Numbered). n.lock) l (r.part o) i in subst (λ x. is_owned_by o x ≡ true) m.2 ((r.whose o m.0).0 m.1).1))

as-items : (ns : List Numbered) → map shown ns ≡ map Item.Lock (map (λ (n : Numbered). n.lock) ns)
as-items [] = refl
as-items (n ∷ ns) = ap (λ l. shown n ∷ l) (as-items ns)

owned-told : (w : Watch) (r : WatchReading w) (o : Owner) → owned_by w.table o ≡ map Item.Lock (locks_by r o)
owned-told w r o = as-items (locks_in_turn o w.table) ∙ ap (map Item.Lock) (part-told w r o)

all-told : (w : Watch) (r : WatchReading w) (owner : Id → Owner) (us : List Id) →
    flat_map (λ u. owned_by w.table (owner u)) us ≡ map Item.Lock (flat_map (λ u. locks_by r (owner u)) us)
all-told w r owner [] = refl
all-told w r owner (u ∷ us) =
    ap (λ l. l ++ flat_map (λ u. owned_by w.table (owner u)) us) (owned-told w r (owner u))
    ∙ (ap (λ l. map Item.Lock (locks_by r (owner u)) ++ l) (all-told w r owner us)
    ∙ sym (map-append Item.Lock (locks_by r (owner u)) (flat_map (λ u. locks_by r (owner u)) us)))

pub items-told : (w : Watch) (r : WatchReading w) (table : List Numbered) (bs us : List Id) → w.table ≡ table → w.programs ≡ bs →
    owned_by_bases table bs ++ owned_by_units table us
    ≡ map Item.Lock (flat_map (λ b. locks_by r (Owner.Base b)) w.programs) ++ map Item.Lock (flat_map (λ u. locks_by r (Owner.Unit u)) us)
items-told w r table bs us e f =
    ap (λ t. owned_by_bases t bs ++ owned_by_units t us) (sym e)
    ∙ (ap (λ l. owned_by_bases w.table l ++ owned_by_units w.table us) (sym f)
    ∙ (ap (λ l. l ++ owned_by_units w.table us) (all-told w r Owner.Base w.programs)
    ∙ ap (λ l. map Item.Lock (flat_map (λ b. locks_by r (Owner.Base b)) w.programs) ++ l) (all-told w r Owner.Unit us)))

pub taken-shown : (ts : List TakenLock) → map (λ (t : TakenLock). Item.Lock t.lock) ts ≡ map shown (map numbered_of ts)
taken-shown [] = refl
taken-shown (t ∷ ts) = ap (λ l. Item.Lock t.lock ∷ l) (taken-shown ts)
