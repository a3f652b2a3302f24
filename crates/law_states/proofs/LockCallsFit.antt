-- The calls on a table of numbered locks make of it what the events do.
use Rattle.law_states.specs.DependencyCalls.{IsCommitted}
use Rattle.law_states.specs.KeptLocks.{Numbered, is_base_among, is_owned_by, lock_committed, lock_taken, numbered_from, on_lock, saline_of}
use Rattle.law_states.specs.LockCalls.{HasDropped, HasDroppedAll, HasSalted, HasTaken}
use Rattle.law_states.specs.Members.{In, SameMembers}
use Rattle.law_states.specs.UnitFacts.{UnitFacts}
use Rattle.law_states.specs.WatchSteps.{base_by, fate_by, table_by}
use Rattle.law_story.proofs.Fresh.{or_left, or_right}
use Rattle.law_story.proofs.Ids.{is_same_id-sym}
use Rattle.law_story.proofs.Lists.{either, in-cases, in-filter_map, in-left, in-right, into-filter_map}
use Rattle.salt_ast.specs.declared.trees.Statement.{Statement}
use Rattle.salt_model.specs.Locks.{family_of, is_same_owner, lock_of}
use Rattle.salt_model.specs.declared.events.Answer.{Answer}
use Rattle.salt_model.specs.declared.events.End.{End}
use Rattle.salt_model.specs.declared.events.End.TheVariants.{Committed}
use Rattle.salt_model.specs.declared.events.Event.TheVariants.{Did, Ended, Released}
use Rattle.salt_model.specs.declared.events.Owner.{Owner}
use Rattle.salt_model.specs.declared.events.Owner.TheVariants.{Base, Unit}
use Rattle.salt_model.specs.declared.locks.Lock.{Lock}
use Rattle.salt_model.specs.declared.locks.Reach.{Reach}
use Rattle.salt_values.specs.Id.{has_id, is_same_id}
use Rattle.salt_values.specs.declared.id.Id.{Id}
use Rattle.std.proofs.Common.{ap, append-nil, inl, inr, subst, sym, ◌∙◌}
use Rattle.std.specs.Bool.{then_some}
use Rattle.std.specs.List.{filter_map}
use Rattle.std.specs.Prelude.{Bool, List, None, Option, Some, [], false, not, option_map, refl, true, ℕ, ◌++◌, ◌||◌, ◌↔◌, ◌∷◌, ◌≡◌, ◌⊎◌}

-- the members after a fate
in-fate : (g : Lock → Option Lock) (n : Numbered) (table : List Numbered) → In n (filter_map (on_lock g) table) →
    (m : Numbered) × In m table × (g m.lock ≡ Some n.lock) × (m.number ≡ n.number)
in-fate g n table i = let m = in-filter_map (on_lock g) n table i in by m.0 (g m.0.lock) refl m.1 m.2
  where
    by : (m : Numbered) (o : Option Lock) → g m.lock ≡ o → In m table → option_map (λ l. record { number = m.number; lock = l }) o ≡ Some n →
        (m : Numbered) × In m table × (g m.lock ≡ Some n.lock) × (m.number ≡ n.number)
    by m None e i q = cc
    by m (Some l) e i q =
        let s : record { number = m.number; lock = l } ≡ n = cc in
        (m, i, e ∙ ap (λ (x : Numbered). Some x.lock) s, ap (λ (x : Numbered). x.number) s)

into-fate : (g : Lock → Option Lock) (m n : Numbered) (table : List Numbered) → In m table → g m.lock ≡ Some n.lock → m.number ≡ n.number →
    In n (filter_map (on_lock g) table)
into-fate g m n table i e q =
    into-filter_map (on_lock g) m n table i
    (ap (option_map (λ l. record { number = m.number; lock = l })) e ∙ (λ j. Some (record { number = q j; lock = n.lock })))

same-numbered : (m n : Numbered) → m.lock ≡ n.lock → m.number ≡ n.number → m ≡ n
same-numbered m n e q = λ j. record { number = q j; lock = e j }

some-same : (l m : Lock) → Some l ≡ Some m → l ≡ m
some-same l m e = cc

-- a fate that keeps or drops by a test
kept-by : (p : Lock → Bool) (table : List Numbered) (n : Numbered) →
    In n (filter_map (on_lock (λ l. then_some (not (p l)) l)) table) ↔ (In n table × (p n.lock ≡ false))
kept-by p table n = (
  (λ i. let m = in-fate (λ l. then_some (not (p l)) l) n table i in by m.0 (p m.0.lock) refl m.1 m.2 m.3),
  (λ r. into-fate (λ l. then_some (not (p l)) l) n n table r.0 (ap (λ t. then_some (not t) n.lock) r.1) refl),
)
  where
    by : (m : Numbered) (t : Bool) → p m.lock ≡ t → In m table → then_some (not t) m.lock ≡ Some n.lock → m.number ≡ n.number →
        In n table × (p n.lock ≡ false)
    by m true e i q r = cc
    by m false e i q r =
        let s = same-numbered m n (some-same m.lock n.lock q) r in (subst (λ x. In x table) s i, subst (λ (x : Numbered). p x.lock ≡ false) s e)

none-more : (n : Numbered) (xs : List Numbered) → In n (xs ++ []) ↔ In n xs
none-more n xs = ((λ i. subst (In n) (append-nil xs) i), (λ i. subst (In n) (sym (append-nil xs)) i))

through : {A B C : Type 0} → A ↔ B → C ↔ B → A ↔ C
through f g = ((λ a. g.1 (f.0 a)), (λ c. f.1 (g.0 c)))

both : {A B C : Type 0} → A ↔ B → B ↔ C → A ↔ C
both f g = ((λ a. g.0 (f.0 a)), (λ c. f.1 (g.1 c)))

-- a lock is taken with a statement
pub take-fits : (facts : UnitFacts) (u : Id) (st : Statement) (a : Answer) (k : ℕ) (r : Reach) (old new : List Numbered) → facts.reach ≡ Some r →
    HasTaken k (lock_of (Unit u) (family_of (facts.kind)) r) old new → SameMembers new (table_by facts k (Did u st a) old)
take-fits facts u st a k r old new e h n = (
  (λ i. subst (λ o. In n (all old ++ numbered_from k (lock_taken u (facts.kind) o))) (sym e) (either (λ j. in-left n (all old) _ (kept n j)) (λ q. in-right n (all old) _ (inl (sym q))) ((h n).0 i))),
  (λ i. (h n).1 (either (λ j. inl (was n j)) (λ j. either (λ q. inr (sym q)) (λ z. absurd z) j) (in-cases n (all old) _ (subst (λ o. In n (all old ++ numbered_from k (lock_taken u (facts.kind) o))) e i)))),
)
  where
    all : List Numbered → List Numbered
    all table = filter_map (on_lock (λ l. Some l)) table

    kept : (n : Numbered) → In n old → In n (filter_map (on_lock (λ l. Some l)) old)
    kept n i = into-fate (λ l. Some l) n n old i refl refl

    was : (n : Numbered) → In n (filter_map (on_lock (λ l. Some l)) old) → In n old
    was n i = let m = in-fate (λ l. Some l) n old i in subst (λ x. In x old) (same-numbered m.0 n (some-same m.0.lock n.lock m.2) m.3) m.1

-- a unit's locks are dropped where it ends otherwise than by a commit
fate-of-end : (facts : UnitFacts) (u : Id) (end : End) → (IsCommitted end → ⊥) →
    fate_by facts (Ended u end) ≡ (λ l. then_some (not (is_owned_by (Unit u) l)) l)
fate-of-end facts u (Committed n) h = absurd (h tt)
fate-of-end facts u end h = refl

pub drop-fits : (facts : UnitFacts) (u : Id) (end : End) (k : ℕ) (old new : List Numbered) → (IsCommitted end → ⊥) → HasDropped (Unit u) old new →
    SameMembers new (table_by facts k (Ended u end) old)
drop-fits facts u end k old new e h n =
    through (h n) (both (none-more n (filter_map (on_lock (fate_by facts (Ended u end))) old)) (subst (λ g. In n (filter_map (on_lock g) old) ↔ (In n old × (is_owned_by (Unit u) n.lock ≡ false))) (sym (fate-of-end facts u end e)) (kept-by (is_owned_by (Unit u)) old n)))

-- so are those of an ACID unit that commits
pub acid-fits : (facts : UnitFacts) (u : Id) (n k : ℕ) (old new : List Numbered) → base_by facts ≡ None → HasDropped (Unit u) old new →
    SameMembers new (table_by facts k (Ended u (Committed n)) old)
acid-fits facts u n k old new e h x =
    through (h x) (both (none-more x (filter_map (on_lock (fate_by facts (Ended u (Committed n)))) old)) (subst (λ g. In x (filter_map (on_lock g) old) ↔ (In x old × (is_owned_by (Unit u) x.lock ≡ false))) (λ i l. by l (is_owned_by (Unit u) l) refl i) (kept-by (is_owned_by (Unit u)) old x)))
  where
    by : (l : Lock) (t : Bool) → is_owned_by (Unit u) l ≡ t → then_some (not (is_owned_by (Unit u) l)) l ≡ lock_committed u (base_by facts) l
    by l true q = rw (q, e) refl
    by l false q = rw q refl

-- a subtransaction's become saline
pub salt-fits : (facts : UnitFacts) (u b : Id) (n k : ℕ) (old new : List Numbered) → base_by facts ≡ Some b → HasSalted u b old new →
    SameMembers new (table_by facts k (Ended u (Committed n)) old)
salt-fits facts u b n k old new e h x = (
  (λ i. (none-more x (filter_map (on_lock fate) old)).1 (either (λ r. into-fate fate x x old r.0 (rw r.1 refl) refl) (λ m. into-fate fate m.0 x old m.1 (salted m.0 m.2 ∙ ap (λ (y : Numbered). Some y.lock) (sym m.3)) (sym (ap (λ (y : Numbered). y.number) m.3))) ((h x).0 i))),
  (λ i. (h x).1 (let m = in-fate fate x old ((none-more x (filter_map (on_lock fate) old)).0 i) in by m.0 (is_owned_by (Unit u) m.0.lock) refl m.1 m.2 m.3)),
)
  where
    fate : Lock → Option Lock
    fate = lock_committed u (base_by facts)

    salted : (m : Numbered) → is_owned_by (Unit u) m.lock ≡ true → lock_committed u (base_by facts) m.lock ≡ Some (saline_of b m.lock)
    salted m q = rw (q, e) refl

    by : (m : Numbered) (t : Bool) → is_owned_by (Unit u) m.lock ≡ t → In m old → lock_committed u (base_by facts) m.lock ≡ Some x.lock →
        m.number ≡ x.number → (In x old × (is_owned_by (Unit u) x.lock ≡ false)) ⊎ ((m : Numbered) × In m old × (is_owned_by (Unit u) m.lock ≡ true) × (x ≡ record { number = m.number; lock = saline_of b m.lock }))
    by m true q i f r =
        inr (m, i, q, sym (same-numbered (record { number = m.number; lock = saline_of b m.lock }) x (some-same (saline_of b m.lock) x.lock (sym (salted m q) ∙ f)) r))
    by m false q i f r =
        let stays : lock_committed u (base_by facts) m.lock ≡ Some m.lock = rw q refl in
        let s = same-numbered m x (some-same m.lock x.lock (sym stays ∙ f)) r in
        inl (subst (λ y. In y old) s i, subst (λ (y : Numbered). is_owned_by (Unit u) y.lock ≡ false) s q)

-- released programs' are dropped, one after another
dropped-all : (bs : List Id) (old new : List Numbered) → HasDroppedAll bs old new → (n : Numbered) →
    In n new ↔ (In n old × (is_base_among bs n.lock.owner ≡ false))
dropped-all [] old new h n = ((λ i. ((h n).0 i, none n.lock.owner)), (λ r. (h n).1 r.0))
  where
    none : (o : Owner) → is_base_among [] o ≡ false
    none (Unit u) = refl
    none (Base b) = refl
dropped-all (b ∷ bs) old new h n = (
  (λ i. let r = (dropped-all bs h.0 new h.2 n).0 i in let q = (h.1 n).0 r.0 in (q.0, neither n.lock.owner q.1 r.1)),
  (λ r. (dropped-all bs h.0 new h.2 n).1 ((h.1 n).1 (r.0, first n.lock.owner r.1), rest n.lock.owner r.1)),
)
  where
    neither : (o : Owner) → is_same_owner (Base b) o ≡ false → is_base_among bs o ≡ false → is_base_among (b ∷ bs) o ≡ false
    neither (Unit u) e f = refl
    neither (Base c) e f = ap (λ t. t || has_id c bs) (is_same_id-sym c b ∙ e) ∙ f

    first : (o : Owner) → is_base_among (b ∷ bs) o ≡ false → is_same_owner (Base b) o ≡ false
    first (Unit u) e = refl
    first (Base c) e = is_same_id-sym b c ∙ or_left (is_same_id c b) _ e

    rest : (o : Owner) → is_base_among (b ∷ bs) o ≡ false → is_base_among bs o ≡ false
    rest (Unit u) e = refl
    rest (Base c) e = or_right (is_same_id c b) _ e

pub release-fits : (facts : UnitFacts) (bs : List Id) (k : ℕ) (old new : List Numbered) → HasDroppedAll bs old new →
    SameMembers new (table_by facts k (Released bs) old)
release-fits facts bs k old new h n =
    through (dropped-all bs old new h n)
    (both (none-more n (filter_map (on_lock (fate_by facts (Released bs))) old)) (kept-by (λ l. is_base_among bs l.owner) old n))
