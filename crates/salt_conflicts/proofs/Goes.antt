-- What a call leaves is the watch after its event.
use Rattle.salt_deps.specs.Kept.{dependencies}
use Rattle.law_states.proofs.CallsFit.{abandon-fits, read-fits, unread-fits}
use Rattle.law_states.proofs.LockCallsFit.{acid-fits, salt-fits, take-fits}
use Rattle.law_states.specs.Circles.{BringsNoWait}
use Rattle.law_states.specs.DependencyCalls.{AreSame, IsCommitted}
use Rattle.law_states.specs.KeptLocks.{Numbered, is_base_among, lock_taken, numbered_from, on_lock}
use Rattle.law_states.specs.KeptSources.{Dependencies, WritesIn, given_up}
use Rattle.law_states.specs.LockCalls.{HasDropped, HasSalted, HasTaken}
use Rattle.law_states.specs.KeptWaits.{Asker, drop_asker}
use Rattle.law_states.specs.Members.{SameMembers}
use Rattle.law_states.specs.UnitFacts.{UnitFacts}
use Rattle.law_states.specs.WatchSteps.{DependenciesBy, ReadsBy, WatchBy, base_by, counted_by, first_by, table_by, waits_by, won_by, writer_by}
use Rattle.law_states.specs.KeptPrograms.{unreleased_after}
use Rattle.law_states.specs.Watches.{Watch}
use Rattle.salt_ast.specs.declared.trees.Statement.{Statement}
use Rattle.salt_locks.proofs.Fits.{drops, salts, takes}
use Rattle.salt_locks.specs.Tables.{put}
use Rattle.salt_model.specs.Locks.{family_of, lock_of}
use Rattle.salt_values.specs.Id.{has_id}
use Rattle.salt_model.specs.declared.events.Answer.{Answer}
use Rattle.salt_model.specs.declared.events.End.{End}
use Rattle.salt_model.specs.declared.events.End.TheVariants.{Branched, Committed, Cut, Failed, RolledBack, Victim}
use Rattle.salt_model.specs.declared.events.Event.{Event}
use Rattle.salt_model.specs.declared.events.Event.TheVariants.{Accepted, Did, Ended, Released, Waits}
use Rattle.salt_model.specs.declared.events.Owner.{Owner}
use Rattle.salt_model.specs.declared.locks.Family.{Family}
use Rattle.salt_model.specs.declared.locks.Reach.{Reach}
use Rattle.salt_model.specs.declared.places.Place.{Place}
use Rattle.salt_values.specs.Id.{is_same_id}
use Rattle.salt_values.specs.declared.id.Id.{Id}
use Rattle.salt_conflicts.proofs.Same.{itself, same-dependencies, same-watch, watch_beside}
use Rattle.salt_conflicts.specs.Calls.{HasGivenUp, HasReadBy, handed_over, is_unreleased}
use Rattle.salt_conflicts.specs.Waiters.{is_another, waiter_of}
use Rattle.salt_conflicts.specs.Watched.{GoesBy, IsWatchBeside}
use Rattle.salt_conflicts.specs.declared.waiters.Waiter.{Waiter}
use Rattle.salt_conflicts.specs.declared.watching.Watching.{Watching}
use Rattle.std.proofs.Common.{ap, append-nil, arith, inl, inr, subst, sym, ◌∙◌}
use Rattle.std.proofs.lemmas.List.{map_push}
use Rattle.std.specs.Bool.{then_some}
use Rattle.std.specs.List.{cons_option, filter, filter_map}
use Rattle.std.specs.Prelude.{Bool, IsTrue, List, None, Option, Some, [], cond, false, length, map, not, option_map, refl, true, ℕ, ◌+◌, ◌++◌, ◌∷◌, ◌≡◌, ◌||◌}

-- of any call: what it makes of each part
pub goes : (d : Dependencies) (old x : Watching) (w : Watch) (f : UnitFacts) (e : Event) → IsWatchBeside d old w →
    SameMembers x.locks (table_by f old.taken e old.locks) → x.taken ≡ counted_by f e old.taken →
    map waiter_of (waits_by f e w.waits) ≡ x.waits → x.programs ≡ unreleased_after e old.programs →
    DependenciesBy f e d (dependencies x.deps) → GoesBy f e w x
goes d old x w f e s table taken waits programs deps =
    let new = watch_beside (dependencies x.deps) x (waits_by f e w.waits) in (
      new,
      subst (λ v. WatchBy f e v new) (sym (same-watch d old w s)) (record { locks = table; taken = taken; waits = refl; programs = programs; dependencies = deps }),
      record { table = refl; taken = refl; waits = waits; programs = refl; dependencies = itself (dependencies x.deps) },
    )

-- WAITS

pub left : (u : Id) (ws : List Asker) → map waiter_of (drop_asker u ws) ≡ filter (is_another u) (map waiter_of ws)
left u [] = refl
left u (w ∷ ws) = by (is_same_id w.unit u) (left u ws)
  where
    by : (b : Bool) → map waiter_of (drop_asker u ws) ≡ filter (is_another u) (map waiter_of ws) →
        map waiter_of (cond (not (b || false)) (w ∷ drop_asker u ws) (drop_asker u ws)) ≡ cond (not b) (waiter_of w ∷ filter (is_another u) (map waiter_of ws)) (filter (is_another u) (map waiter_of ws))
    by true e = e
    by false e = ap (λ l. waiter_of w ∷ l) e

-- LOCKS

pub same-members : {A : Type 0} (xs ys : List A) → xs ≡ ys → SameMembers xs ys
same-members xs ys e x = subst (λ zs. SameMembers xs zs) e (λ z. ((λ h. h), (λ h. h))) x

all-kept : (table : List Numbered) → filter_map (on_lock (λ l. Some l)) table ≡ table
all-kept [] = refl
all-kept (n ∷ ns) = ap (λ r. n ∷ r) (all-kept ns)

-- of an event that leaves locks
pub kept : (table : List Numbered) → SameMembers table (filter_map (on_lock (λ l. Some l)) table ++ [])
kept table = same-members table _ (sym (append-nil _ ∙ all-kept table))

fated : (bs : List Id) (table : List Numbered) → filter (is_unreleased bs) table ≡ filter_map (on_lock (λ l. then_some (not (is_base_among bs l.owner)) l)) table
fated bs [] = refl
fated bs (n ∷ ns) = by (is_base_among bs n.lock.owner) (fated bs ns)
  where
    by : (b : Bool) → filter (is_unreleased bs) ns ≡ filter_map (on_lock (λ l. then_some (not (is_base_among bs l.owner)) l)) ns →
        cond (not b) (n ∷ filter (is_unreleased bs) ns) (filter (is_unreleased bs) ns)
        ≡ cons_option (option_map (λ l. record { number = n.number; lock = l }) (then_some (not b) n.lock)) (filter_map (on_lock (λ l. then_some (not (is_base_among bs l.owner)) l)) ns)
    by true e = e
    by false e = ap (λ l. n ∷ l) e

pub released : (f : UnitFacts) (k : ℕ) (bs : List Id) (table : List Numbered) → SameMembers (filter (is_unreleased bs) table) (table_by f k (Released bs) table)
released f k bs table = same-members _ _ (fated bs table ∙ sym (append-nil _))

-- of a statement
pub unreached : (f : UnitFacts) (k : ℕ) (u : Id) (st : Statement) (a : Answer) (table : List Numbered) → f.reach ≡ None → SameMembers table (table_by f k (Did u st a) table)
unreached f k u st a table e =
    same-members table _ (sym (append-nil _ ∙ all-kept table) ∙ ap (λ (r : Option Reach). filter_map (on_lock (λ l. Some l)) table ++ numbered_from k (lock_taken u f.kind r)) (sym e))

pub reached : (f : UnitFacts) (k : ℕ) (u : Id) (st : Statement) (a : Answer) (family : Family) (r : Reach) (old new : List Numbered) → f.reach ≡ Some r →
    family_of f.kind ≡ family → new ≡ put (record { number = k; lock = lock_of (Owner.Unit u) family r }) old → SameMembers new (table_by f k (Did u st a) old)
reached f k u st a family r old new e g is =
    take-fits f u st a k r old new e
    (subst (λ ns. HasTaken k (lock_of (Owner.Unit u) (family_of f.kind) r) old ns)
    (ap (λ m. put (record { number = k; lock = lock_of (Owner.Unit u) m r }) old) g ∙ sym is)
    (takes k (lock_of (Owner.Unit u) (family_of f.kind) r) old))

pub won-none : (f : UnitFacts) (u : Id) (st : Statement) (a : Answer) → f.reach ≡ None → length (won_by f (Did u st a)) ≡ 0
won-none f u st a e = ap (λ (r : Option Reach). length (lock_taken u f.kind r)) e

pub won-one : (f : UnitFacts) (u : Id) (st : Statement) (a : Answer) (r : Reach) → f.reach ≡ Some r → length (won_by f (Did u st a)) ≡ 1
won-one f u st a r e = ap (λ (o : Option Reach). length (lock_taken u f.kind o)) e

-- of a commit
pub handed : (f : UnitFacts) (k n : ℕ) (u : Id) (base : Option Id) (old new : List Numbered) → base_by f ≡ base → new ≡ handed_over u base old →
    SameMembers new (table_by f k (Ended u (Committed n)) old)
handed f k n u None old new e is = acid-fits f u n k old new e (subst (HasDropped (Owner.Unit u) old) (sym is) (drops (Owner.Unit u) old))
handed f k n u (Some b) old new e is = salt-fits f u b n k old new e (subst (HasSalted u b old) (sym is) (salts u b old))

-- WRITERS, PAIRS AND FINISHED PROGRAMS

pub did-read : (f : UnitFacts) (u : Id) (st : Statement) (a : Answer) (base : Option Id) (r : Reach) (old new : Dependencies) → base_by f ≡ base →
    f.reach ≡ Some r → HasReadBy base r old new → DependenciesBy f (Did u st a) old new
did-read f u st a None r old new p e h = subst (DependenciesBy f (Did u st a) old) (sym (same-dependencies old new h)) (unread-fits f u st a old (inl p))
did-read f u st a (Some b) r old new p e h = read-fits f u b st a r old new p e h

-- where none is read from anew, no pair is new
pub reads-none : (f : UnitFacts) (u : Id) (st : Statement) (a : Answer) (base : Option Id) (r : Reach) (old new : Dependencies) (w : Watch) → AreSame old w.dependencies →
    base_by f ≡ base → f.reach ≡ Some r → HasReadBy base r old new → AreSame old new → BringsNoWait f (Did u st a) w
reads-none f u st a base r old new w same p e h none b c =
    subst (λ (x : Dependencies). ReadsBy f (Did u st a) x b c → IsTrue (x.reads b c)) (sym (same-dependencies old w.dependencies same))
    (λ g. (none.reads b c).0 (((did-read f u st a base r old new p e h).reads b c).1 g))

pub reaches-none : (f : UnitFacts) (u : Id) (st : Statement) (a : Answer) (w : Watch) → f.reach ≡ None → BringsNoWait f (Did u st a) w
reaches-none f u st a w e b c (inl h) = h
reaches-none f u st a w e b c (inr h) = absurd (subst (λ (r : Option Reach). WritesIn w.dependencies.writer r c) e h.2)

ended-none : (f : UnitFacts) (u : Id) (end : End) (d : Dependencies) → (IsCommitted end → ⊥) → first_by f ≡ None → DependenciesBy f (Ended u end) d d
ended-none f u end d never e = record {
  writer = λ q. written end never q;
  reads = λ x y. ((λ h. (h, given end never x)), (λ h. h.0));
  finished = λ b. ((λ h. h), (λ h. h));
}
  where
    written : (end : End) → (IsCommitted end → ⊥) → (q : Place) → d.writer q ≡ writer_by f (Ended u end) d.writer q
    written (Committed n) never q = absurd (never tt)
    written (Failed x) never q = refl
    written (Branched n x) never q = refl
    written RolledBack never q = refl
    written Victim never q = refl
    written Cut never q = refl

    given : (end : End) → (IsCommitted end → ⊥) → (x : Id) → has_id x (given_up end (first_by f)) ≡ false
    given (Committed n) never x = absurd (never tt)
    given (Failed z) never x = ap (λ o. has_id x (given_up (Failed z) o)) e
    given (Branched n z) never x = ap (λ o. has_id x (given_up (Branched n z) o)) e
    given RolledBack never x = ap (λ o. has_id x (given_up RolledBack o)) e
    given Victim never x = ap (λ o. has_id x (given_up Victim o)) e
    given Cut never x = ap (λ o. has_id x (given_up Cut o)) e

pub ended : (f : UnitFacts) (u : Id) (end : End) (first : Option Id) (old new : Dependencies) → (IsCommitted end → ⊥) → first_by f ≡ first →
    HasGivenUp first old new → DependenciesBy f (Ended u end) old new
ended f u end None old new never e h = subst (DependenciesBy f (Ended u end) old) (sym (same-dependencies old new h)) (ended-none f u end old never e)
ended f u end (Some b) old new never e h = abandon-fits f u b end old new never e h

pub accept-leaves : (f : UnitFacts) (b : Id) (d : Dependencies) → DependenciesBy f (Accepted b) d d
accept-leaves f b d = record { writer = λ q. refl; reads = λ x y. ((λ t. t), (λ t. t)); finished = λ c. ((λ t. t), (λ t. t)) }

pub wait-leaves : (f : UnitFacts) (u : Id) (owners : List Owner) (d : Dependencies) → DependenciesBy f (Waits u owners) d d
wait-leaves f u owners d = record { writer = λ q. refl; reads = λ x y. ((λ t. t), (λ t. t)); finished = λ c. ((λ t. t), (λ t. t)) }

pub plus-none : (n : ℕ) → n ≡ n + 0
plus-none n = omega arith

-- the waiting units after a call that lets one leave
pub has-left : (u : Id) (ws : List Asker) (old new : List Waiter) → map waiter_of ws ≡ old → new ≡ filter (is_another u) old → map waiter_of (drop_asker u ws) ≡ new
has-left u ws old new e h = left u ws ∙ (ap (filter (is_another u)) e ∙ sym h)

pub has-waited : (asks : List Asker) (a : Asker) (x : Waiter) (u : Id) (ws : List Asker) (old mid new : List Waiter) → map waiter_of ws ≡ old → mid ≡ filter (is_another u) old →
    new ≡ mid ++ x ∷ [] → asks ≡ a ∷ [] → waiter_of a ≡ x → map waiter_of (drop_asker u ws ++ asks) ≡ new
has-waited asks a x u ws old mid new e h push one is =
    ap (λ l. map waiter_of (drop_asker u ws ++ l)) one
    ∙ (map_push waiter_of (drop_asker u ws) a
    ∙ (ap (λ l. l ++ waiter_of a ∷ []) (has-left u ws old mid e h) ∙ (ap (λ y. mid ++ y ∷ []) is ∙ sym push)))
