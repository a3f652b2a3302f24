-- Where no unit of a program waits, locks of programs and what programs read close no circle.
use Rattle.law_states.proofs.Circles.{none-comes, units_of}
use Rattle.law_states.proofs.CirclesAfter.{circles-stay-away}
use Rattle.law_states.specs.Circles.{HoldsUp, NoneOnCircle, WaitsFor}
use Rattle.law_states.specs.KeptLocks.{Numbered, clash_in, is_owned_by, lock_committed, on_lock, saline_of}
use Rattle.law_states.specs.KeptPrograms.{unreleased_after}
use Rattle.law_states.specs.KeptSources.{WritesIn}
use Rattle.law_states.specs.KeptWaits.{Asker, clash_owners, is_base_of}
use Rattle.law_states.specs.Members.{In}
use Rattle.law_states.specs.Readings.{locks_in}
use Rattle.law_states.specs.UnitFacts.{UnitFacts}
use Rattle.law_states.specs.WatchSteps.{ReadsBy, WatchBy, base_by, counted_by, fate_by, table_by, waits_by, writer_by}
use Rattle.law_states.specs.Watches.{Watch}
use Rattle.law_story.proofs.Lists.{either, in-cases, in-filter, in-filter_map, in-left, in-map, in-order, into-filter, into-filter_map, into-map, into-order}
use Rattle.salt_ast.specs.declared.trees.Statement.{Statement}
use Rattle.salt_conflicts.specs.Waiters.{has_program}
use Rattle.salt_model.specs.Locks.{base_owner, clashes, owners_of, unit_owner}
use Rattle.salt_model.specs.declared.events.Answer.{Answer}
use Rattle.salt_model.specs.declared.events.End.TheVariants.{Committed}
use Rattle.salt_model.specs.declared.events.Event.TheVariants.{Did, Ended}
use Rattle.salt_model.specs.declared.events.Owner.TheVariants.{Base, Unit}
use Rattle.salt_model.specs.declared.events.Owner.{Owner}
use Rattle.salt_model.specs.declared.locks.Lock.{Lock}
use Rattle.salt_model.specs.declared.locks.Reach.{Reach}
use Rattle.salt_values.specs.Id.{in_order}
use Rattle.salt_values.specs.declared.id.Id.{Id}
use Rattle.std.proofs.Common.{ap, inl, inr, subst, sym, ◌∙◌}
use Rattle.std.specs.List.{filter, filter_map}
use Rattle.std.specs.Prelude.{Bool, IsTrue, List, None, Option, Some, [], cond, false, is_some, map, option_map, refl, true, ℕ, ◌||◌, ◌≡◌, ◌∷◌, ◌⊎◌}

-- none of these is a unit of a program

or-none : (p q : Bool) → (p || q) ≡ false → (p ≡ false) × (q ≡ false)
or-none true q h = cc
or-none false q h = (refl, h)

of-none : (o : Option Id) (b : Id) → is_some o ≡ false → is_base_of o b ≡ true → ⊥
of-none None b n h = cc
of-none (Some c) b n h = cc

no-program : (ws : List Asker) → has_program ws ≡ false → (w : Asker) → In w ws → (b : Id) → is_base_of w.base b ≡ true → ⊥
no-program [] none w i b h = absurd i
no-program (x ∷ ws) none w (inl e) b h =
    of-none w.base b (ap (λ (y : Asker). is_some y.base) (sym e) ∙ (or-none (is_some x.base) (has_program ws) none).0) h
no-program (x ∷ ws) none w (inr i) b h = no-program ws (or-none (is_some x.base) (has_program ws) none).1 w i b h

-- so nobody waits for another but through a lock of a unit
held-by : (new other : Watch) → has_program new.waits ≡ false → (o : Owner) (v : Id) → HoldsUp new.dependencies new.waits o v →
    HoldsUp other.dependencies other.waits o v
held-by new other none (Unit u) v h = h
held-by new other none (Base c) v h = let w = h.3 in absurd (no-program new.waits none w.0 w.1 h.0 w.3)

-- WHAT A PROGRAM READS: as if none were the last writer of a key

none-some : (b : Id) → ◌≡◌ {A = Option Id} None (Some b) → ⊥
none-some b h = cc

unwritten : (r : Option Reach) (y : Id) → WritesIn (λ p. None) r y → ⊥
unwritten None y h = h
unwritten (Some r) y h = none-some y h.2

pub reads-close-none : (f : UnitFacts) (u : Id) (st : Statement) (a : Answer) (old new : Watch) → WatchBy f (Did u st a) old new → has_program new.waits ≡ false →
    NoneOnCircle old → NoneOnCircle new
reads-close-none f u st a old new by_event none calm = none-comes bare new on (circles-stay-away f (Did u st a) idle bare goes reads-back (none-comes old idle (λ x y i h. h) calm))
  where
    idle : Watch
    idle = record {
      table = old.table;
      taken = old.taken;
      waits = old.waits;
      programs = old.programs;
      dependencies = record { writer = λ p. None; reads = old.dependencies.reads; finished = old.dependencies.finished };
    }

    bare : Watch
    bare = record {
      table = new.table;
      taken = new.taken;
      waits = new.waits;
      programs = new.programs;
      dependencies = record { writer = λ p. None; reads = old.dependencies.reads; finished = new.dependencies.finished };
    }

    reads-back : (x y : Id) → ReadsBy f (Did u st a) idle.dependencies x y → IsTrue (old.dependencies.reads x y)
    reads-back x y (inl h) = h
    reads-back x y (inr h) = absurd (unwritten f.reach y h.2)

    goes : WatchBy f (Did u st a) idle bare
    goes = record {
      locks = by_event.locks;
      taken = by_event.taken;
      waits = by_event.waits;
      programs = by_event.programs;
      dependencies = record { writer = λ p. refl; reads = λ x y. ((λ h. inl h), (λ h. reads-back x y h)); finished = by_event.dependencies.finished };
    }

    on : (x y : Id) → In y (units_of new.waits) → WaitsFor new x y → WaitsFor bare x y
    on x y i h = (h.0, h.1, h.2, (h.3.0, h.3.1, held-by new bare none h.3.0 y h.3.2))

-- LOCKS THAT A PROGRAM GETS: as if they went

unit-of : (l : Lock) (u : Id) → unit_owner l ≡ Some u → l.owner ≡ Unit u
unit-of l u e = by l.owner refl e
  where
    by : (o : Owner) → l.owner ≡ o → elim o [ Unit x ↦ Some x | Base b ↦ None ] ≡ Some u → o ≡ Unit u
    by (Unit x) q h = let s : x ≡ u = cc in ap Owner.Unit s
    by (Base b) q h = cc

unit-owns : (ls : List Lock) (u : Id) → In (Owner.Unit u) (owners_of ls) → (l : Lock) × In l ls × (l.owner ≡ Owner.Unit u)
unit-owns ls u h = either (λ i. units (in-map Owner.Unit (Owner.Unit u) _ i)) (λ i. bases (in-map Owner.Base (Owner.Unit u) _ i))
    (in-cases (Owner.Unit u) (map_units ls) _ h)
  where
    map_units : List Lock → List Owner
    map_units ms = map Owner.Unit (in_order (filter_map unit_owner ms))

    units : (x : Id) × In x (in_order (filter_map unit_owner ls)) × (Owner.Unit x ≡ Owner.Unit u) → (l : Lock) × In l ls × (l.owner ≡ Owner.Unit u)
    units m = let k = in-filter_map unit_owner m.0 ls (in-order m.0 _ m.1) in (k.0, k.1, unit-of k.0 m.0 k.2 ∙ m.2)

    bases : (b : Id) × In b (in_order (filter_map base_owner ls)) × (Owner.Base b ≡ Owner.Unit u) → (l : Lock) × In l ls × (l.owner ≡ Owner.Unit u)
    bases m = let e : ◌≡◌ {A = Owner} (Owner.Base m.0) (Owner.Unit u) = m.2 in absurd cc

owned-by-unit : (ls : List Lock) (l : Lock) (u : Id) → In l ls → l.owner ≡ Owner.Unit u → In (Owner.Unit u) (owners_of ls)
owned-by-unit ls l u i e =
    in-left (Owner.Unit u) (map Owner.Unit (in_order (filter_map unit_owner ls))) _
    (into-map Owner.Unit u _ (into-order u _ (into-filter_map unit_owner l u ls i (ap (λ (o : Owner). elim o [ Unit x ↦ Some x | Base b ↦ None ]) e))))

-- whose lock clashes in one list clashes in another where the locks of units are
still-clashes : (ls ms : List Lock) (w : Asker) (u : Id) → ((l : Lock) → In l ls → l.owner ≡ Owner.Unit u → In l ms) → In (Owner.Unit u) (clash_owners ls w) →
    In (Owner.Unit u) (clash_owners ms w)
still-clashes ls ms w u sub h = by w.reach h
  where
    by : (r : Option Reach) → In (Owner.Unit u) (owners_of (clash_in (Owner.Unit w.unit) w.family r ls)) → In (Owner.Unit u) (owners_of (clash_in (Owner.Unit w.unit) w.family r ms))
    by None i = absurd i
    by (Some r) i =
        let p = clashes (Owner.Unit w.unit) w.family r in
        let m = unit-owns (filter p ls) u i in
        let k = in-filter p m.0 ls m.1 in
        owned-by-unit (filter p ms) m.0 u (into-filter p m.0 ms (sub m.0 k.0 m.2) k.1) m.2

-- a lock that is still a unit's would stay if the program got none
still-fated : (u : Id) (p : Option Id) (m n : Numbered) (x : Id) → n.lock.owner ≡ Owner.Unit x → on_lock (lock_committed u p) m ≡ Some n →
    on_lock (lock_committed u None) m ≡ Some n
still-fated u p m n x is h = by (is_owned_by (Owner.Unit u) m.lock) p h
  where
    by : (t : Bool) (p : Option Id) →
        ◌≡◌ {A = Option Numbered} (option_map (λ l. record { number = m.number; lock = l }) (cond t (option_map (λ b. saline_of b m.lock) p) (Some m.lock))) (Some n) →
        ◌≡◌ {A = Option Numbered} (option_map (λ l. record { number = m.number; lock = l }) (cond t None (Some m.lock))) (Some n)
    by true None g = g
    by true (Some b) g =
        let s : ◌≡◌ {A = Numbered} (record { number = m.number; lock = saline_of b m.lock }) n = cc in
        let e : ◌≡◌ {A = Owner} (Owner.Base b) (Owner.Unit x) = ap (λ (y : Numbered). y.lock.owner) s ∙ is in
        absurd cc
    by false p g = g

pub commits-close-none : (f : UnitFacts) (u : Id) (n : ℕ) (old new : Watch) → WatchBy f (Ended u (Committed n)) old new → has_program new.waits ≡ false →
    NoneOnCircle old → NoneOnCircle new
commits-close-none f u n old new by_event none calm = none-comes acid new on (circles-stay-away g (Ended u (Committed n)) old acid goes (inl refl) calm)
  where
    g : UnitFacts
    g = record f { kind = None }

    acid : Watch
    acid = record {
      table = table_by g old.taken (Ended u (Committed n)) old.table;
      taken = counted_by g (Ended u (Committed n)) old.taken;
      waits = waits_by g (Ended u (Committed n)) old.waits;
      programs = unreleased_after (Ended u (Committed n)) old.programs;
      dependencies = record {
        writer = writer_by g (Ended u (Committed n)) old.dependencies.writer;
        reads = old.dependencies.reads;
        finished = old.dependencies.finished;
      };
    }

    goes : WatchBy g (Ended u (Committed n)) old acid
    goes = record {
      locks = λ m. ((λ h. h), (λ h. h));
      taken = refl;
      waits = refl;
      programs = refl;
      dependencies = record { writer = λ p. refl; reads = λ x y. ((λ h. (h, refl)), (λ h. h.0)); finished = λ b. ((λ h. h), (λ h. h)) };
    }

    still-there : (x : Id) (l : Lock) → In l (locks_in new) → l.owner ≡ Owner.Unit x → In l (locks_in acid)
    still-there x l i is =
        let m = in-map (λ (k : Numbered). k.lock) l new.table i in
        subst (λ y. In y (locks_in acid)) m.2
        (into-map (λ (k : Numbered). k.lock) m.0 acid.table
        (there m.0 (ap (λ (y : Lock). y.owner) m.2 ∙ is) (in-cases m.0 (filter_map (on_lock (fate_by f (Ended u (Committed n)))) old.table) _ ((by_event.locks m.0).0 m.1))))
      where
        there : (k : Numbered) → k.lock.owner ≡ Owner.Unit x → In k (filter_map (on_lock (fate_by f (Ended u (Committed n)))) old.table) ⊎ In k [] → In k acid.table
        there k owned (inr j) = absurd j
        there k owned (inl j) =
            let b = in-filter_map (on_lock (fate_by f (Ended u (Committed n)))) k old.table j in
            in-left k (filter_map (on_lock (fate_by g (Ended u (Committed n)))) old.table) _
            (into-filter_map (on_lock (fate_by g (Ended u (Committed n)))) b.0 k old.table b.1 (still-fated u (base_by f) b.0 k x owned b.2))

    waits-on : (w : Asker) (y : Id) (o : Owner) → In o (clash_owners (locks_in new) w) → HoldsUp new.dependencies new.waits o y →
        (p : Owner) × In p (clash_owners (locks_in acid) w) × HoldsUp acid.dependencies acid.waits p y
    waits-on w y (Unit x) i h = (Owner.Unit x, still-clashes (locks_in new) (locks_in acid) w x (still-there x) i, h)
    waits-on w y (Base c) i h = let v = h.3 in absurd (no-program new.waits none v.0 v.1 h.0 v.3)

    on : (x y : Id) → In y (units_of new.waits) → WaitsFor new x y → WaitsFor acid x y
    on x y i h = (h.0, subst (In h.0) by_event.waits h.1, h.2, waits-on h.0 y h.3.0 h.3.1 h.3.2)
