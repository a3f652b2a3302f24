-- What an event brings to the graph of waiting units: mostly nothing.
use Rattle.law_states.proofs.Circles.{none-comes, units_of}
use Rattle.law_states.specs.Circles.{BringsNoWait, HoldsUp, IsAwaited, NoneOnCircle, WaitsFor}
use Rattle.law_states.specs.KeptLocks.{Numbered, clash_in, is_base_among, is_owned_by, lock_committed, numbered_from, on_lock, saline_of}
use Rattle.law_states.specs.KeptSources.{Dependencies, FinishedAfter, Through, itself, through}
use Rattle.law_states.specs.KeptWaits.{Asker, clash_owners, drop_asker}
use Rattle.law_states.specs.Members.{In}
use Rattle.law_states.specs.Readings.{locks_in}
use Rattle.law_states.specs.UnitFacts.{UnitFacts}
use Rattle.law_states.specs.WatchSteps.{ReadsBy, WatchBy, base_by, fate_by, table_by, taken_by_now, waits_by, won_by}
use Rattle.law_states.specs.Watches.{Watch}
use Rattle.law_story.proofs.Ids.{and_left, and_right, is_same_id-refl, is_same_id-true}
use Rattle.law_story.proofs.Lists.{either, in-cases, in-filter, in-filter_map, in-left, in-map, in-order, in-right, into-filter, into-filter_map, into-map, into-order, not-true}
use Rattle.salt_model.specs.Locks.{base_owner, clashes, family_of, is_clash, is_same_owner, lock_of, owners_of, unit_owner}
use Rattle.salt_model.specs.declared.events.End.TheVariants.{Committed}
use Rattle.salt_model.specs.declared.events.Event.{Event}
use Rattle.salt_model.specs.declared.events.Event.TheVariants.{Did, Early, Ended, Finished, Ready, Released, Waits}
use Rattle.salt_model.specs.declared.events.Owner.{Owner}
use Rattle.salt_model.specs.declared.events.Owner.TheVariants.{Base, Unit}
use Rattle.salt_model.specs.declared.locks.Family.{Family}
use Rattle.salt_model.specs.declared.locks.Lock.{Lock}
use Rattle.salt_model.specs.declared.locks.Mode.{Mode}
use Rattle.salt_model.specs.declared.locks.Reach.{Reach}
use Rattle.salt_ranges.specs.Ranges.{meets}
use Rattle.salt_values.specs.Id.{has_id, in_order, is_same_id}
use Rattle.salt_values.specs.declared.id.Id.{Id}
use Rattle.std.proofs.Common.{ap, inl, inr, subst, sym, ◌∙◌}
use Rattle.std.specs.Bool.{then_some}
use Rattle.std.specs.List.{filter, filter_map}
use Rattle.std.specs.Prelude.{Bool, IsTrue, List, None, Option, Some, [], cond, false, map, not, option_map, refl, true, ℕ, ⊤, ◌&&◌, ◌+◌, ◌==◌, ◌||◌, ◌∷◌, ◌≡◌, ◌⊎◌}
use Rattle.salt_model.specs.declared.locks.Family.TheVariants as family

-- owners of locks

unit-of : (l : Lock) (u : Id) → unit_owner l ≡ Some u → l.owner ≡ Unit u
unit-of l u e = by l.owner refl e
  where
    by : (o : Owner) → l.owner ≡ o → elim o [ Unit x ↦ Some x | Base b ↦ None ] ≡ Some u → o ≡ Unit u
    by (Unit x) q h = let s : x ≡ u = cc in ap Owner.Unit s
    by (Base b) q h = cc

base-of : (l : Lock) (b : Id) → base_owner l ≡ Some b → l.owner ≡ Base b
base-of l b e = by l.owner refl e
  where
    by : (o : Owner) → l.owner ≡ o → elim o [ Unit x ↦ None | Base c ↦ Some c ] ≡ Some b → o ≡ Base b
    by (Unit x) q h = cc
    by (Base c) q h = let s : c ≡ b = cc in ap Owner.Base s

owner-in : (ls : List Lock) (o : Owner) → In o (owners_of ls) → (l : Lock) × In l ls × (l.owner ≡ o)
owner-in ls o h = either (λ i. units (in-map Owner.Unit o _ i)) (λ i. bases (in-map Owner.Base o _ i)) (in-cases o (map Owner.Unit (in_order (filter_map unit_owner ls))) _ h)
  where
    units : (u : Id) × In u (in_order (filter_map unit_owner ls)) × (Owner.Unit u ≡ o) → (l : Lock) × In l ls × (l.owner ≡ o)
    units m = let k = in-filter_map unit_owner m.0 ls (in-order m.0 _ m.1) in (k.0, k.1, unit-of k.0 m.0 k.2 ∙ m.2)

    bases : (b : Id) × In b (in_order (filter_map base_owner ls)) × (Owner.Base b ≡ o) → (l : Lock) × In l ls × (l.owner ≡ o)
    bases m = let k = in-filter_map base_owner m.0 ls (in-order m.0 _ m.1) in (k.0, k.1, base-of k.0 m.0 k.2 ∙ m.2)

into-owners : (ls : List Lock) (l : Lock) (o : Owner) → In l ls → l.owner ≡ o → In o (owners_of ls)
into-owners ls l (Unit u) i e =
    in-left (Owner.Unit u) (map Owner.Unit (in_order (filter_map unit_owner ls))) _
    (into-map Owner.Unit u _ (into-order u _ (into-filter_map unit_owner l u ls i (ap (λ (o : Owner). elim o [ Unit x ↦ Some x | Base b ↦ None ]) e))))
into-owners ls l (Base b) i e =
    in-right (Owner.Base b) (map Owner.Unit (in_order (filter_map unit_owner ls))) _
    (into-map Owner.Base b _ (into-order b _ (into-filter_map base_owner l b ls i (ap (λ (o : Owner). elim o [ Unit x ↦ None | Base c ↦ Some c ]) e))))

-- a lock of an owner that a waiting unit clashes with
record Clash (ls : List Lock) (w : Asker) (o : Owner) : Type 0 where
  lock : Lock
  reach : Reach
  held : In lock ls
  whose : lock.owner ≡ o
  asked : w.reach ≡ Some reach
  meets_it : clashes (Unit w.unit) w.family reach lock ≡ true

clash-in : (ls : List Lock) (w : Asker) (o : Owner) → In o (clash_owners ls w) → Clash ls w o
clash-in ls w o h = by w.reach refl h
  where
    by : (r : Option Reach) → w.reach ≡ r → In o (owners_of (clash_in (Unit w.unit) w.family r ls)) → Clash ls w o
    by None e i = absurd i
    by (Some r) e i =
        let m = owner-in (filter (clashes (Unit w.unit) w.family r) ls) o i in
        let k = in-filter (clashes (Unit w.unit) w.family r) m.0 ls m.1 in
        record { lock = m.0; reach = r; held = k.0; whose = m.2; asked = e; meets_it = k.1 }

into-clash : (ls : List Lock) (w : Asker) (o : Owner) → Clash ls w o → In o (clash_owners ls w)
into-clash ls w o c =
    rw (c.asked) (into-owners (filter (clashes (Unit w.unit) w.family c.reach) ls) c.lock o (into-filter (clashes (Unit w.unit) w.family c.reach) c.lock ls c.held c.meets_it) c.whose)

-- a saline lock clashes with no more than it did before
was-clashing : (f : Family) (m : Mode) (asked : Family) (n : Mode) → is_clash family.Saline m asked n ≡ true → is_clash f m asked n ≡ true
was-clashing family.Saline m asked n h = h
was-clashing family.Acid m family.Saline n h = h
was-clashing family.Acid m family.Acid n h = h
was-clashing family.Acid m family.Alkaline n h = cc
was-clashing family.Alkaline m family.Saline n h = h
was-clashing family.Alkaline m family.Acid n h = h
was-clashing family.Alkaline m family.Alkaline n h = cc

owner-same : (o p : Owner) → is_same_owner o p ≡ true → p ≡ o
owner-same (Unit u) (Unit v) h = ap Owner.Unit (sym (is_same_id-true u v h))
owner-same (Base b) (Base c) h = ap Owner.Base (sym (is_same_id-true b c h))
owner-same (Unit u) (Base c) h = cc
owner-same (Base b) (Unit v) h = cc

-- what an event leaves of a program's locks and pairs
abbrev Spared : Event → Id → Type 0
Spared (Released bs) b = has_id b bs ≡ false
Spared Ready b = ⊥
Spared (Early bs) b = ⊥
Spared e b = ⊤

abbrev SparedOwner : Event → Owner → Type 0
SparedOwner e (Unit u) = ⊤
SparedOwner e (Base b) = Spared e b

-- where a lock after an event comes from: it was there, or it was a unit's and is its program's, or the event's unit has taken it, or an
-- early opening begins with it
abbrev Salted : UnitFacts → Event → Lock → Lock → Type 0
Salted f (Ended u (Committed n)) m l = (b : Id) × (base_by f ≡ Some b) × (m.owner ≡ Unit u) × (l ≡ saline_of b m)
Salted f e m l = ⊥

abbrev Won : Event → Lock → Type 0
Won (Did u st a) l = l.owner ≡ Unit u
Won (Early bs) l = ⊤
Won e l = ⊥

abbrev Came : UnitFacts → Event → List Numbered → Lock → Type 0
Came f e old l = ((m : Numbered) × In m old × (m.lock ≡ l) × SparedOwner e l.owner) ⊎ ((m : Numbered) × In m old × Salted f e m.lock l) ⊎ Won e l

numbered-lock : (g : Lock → Option Lock) (m n : Numbered) → on_lock g m ≡ Some n → g m.lock ≡ Some n.lock
numbered-lock g m n h = by (g m.lock) h
  where
    by : (o : Option Lock) → ◌≡◌ {A = Option Numbered} (option_map (λ l. record { number = m.number; lock = l }) o) (Some n) → o ≡ Some n.lock
    by None e = cc
    by (Some l) e = let s : ◌≡◌ {A = Numbered} (record { number = m.number; lock = l }) n = cc in ap (λ (x : Numbered). Some x.lock) s

-- the fate of a lock
abbrev Fared : UnitFacts → Event → Lock → Lock → Type 0
Fared f e m l = ((m ≡ l) × SparedOwner e l.owner) ⊎ Salted f e m l

spared-others : (bs : List Id) (o : Owner) → is_base_among bs o ≡ false → SparedOwner (Released bs) o
spared-others bs (Unit u) h = tt
spared-others bs (Base b) h = h

kept-of : (t : Bool) (m l : Lock) → then_some t m ≡ Some l → (t ≡ true) × (m ≡ l)
kept-of true m l h = (refl, cc)
kept-of false m l h = cc

some-same : (m l : Lock) → ◌≡◌ {A = Option Lock} (Some m) (Some l) → m ≡ l
some-same m l h = cc

owned-by : (u : Id) (m : Lock) → is_owned_by (Unit u) m ≡ true → m.owner ≡ Unit u
owned-by u m h = owner-same (Unit u) m.owner h

committed-fate : (f : UnitFacts) (u : Id) (n : ℕ) (m l : Lock) → lock_committed u (base_by f) m ≡ Some l → Fared f (Ended u (Committed n)) m l
committed-fate f u n m l h = by (is_owned_by (Unit u) m) refl (base_by f) refl h
  where
    free : (o : Owner) → SparedOwner (Ended u (Committed n)) o
    free (Unit v) = tt
    free (Base b) = tt

    by : (t : Bool) → is_owned_by (Unit u) m ≡ t → (p : Option Id) → base_by f ≡ p → cond t (option_map (λ b. saline_of b m) p) (Some m) ≡ Some l → Fared f (Ended u (Committed n)) m l
    by false e p g k = inl (some-same m l k, free l.owner)
    by true e None g k = cc
    by true e (Some b) g k = inr (b, g, owned-by u m e, sym (some-same (saline_of b m) l k))

fate : (f : UnitFacts) (e : Event) (m l : Lock) → fate_by f e m ≡ Some l → Fared f e m l
fate f (Released bs) m l h =
    let k = kept-of (not (is_base_among bs m.owner)) m l h in
    inl (k.1, subst (λ (x : Lock). SparedOwner (Released bs) x.owner) k.1 (spared-others bs m.owner (not-true (is_base_among bs m.owner) k.0)))
fate f Ready m l h = cc
fate f (Early bs) m l h = cc
fate f (Ended u (Committed n)) m l h = committed-fate f u n m l h
fate f (Ended u end) m l h = inl ((kept-of (not (is_owned_by (Unit u) m)) m l h).1, free l.owner)
  where
    free : (o : Owner) → SparedOwner (Ended u end) o
    free (Unit v) = tt
    free (Base b) = tt
fate f e m l h = inl (some-same m l h, free l.owner)
  where
    free : (o : Owner) → SparedOwner e o
    free (Unit v) = tt
    free (Base b) = tt

-- locks that are won are the unit's, or those that an early opening begins with
won : (f : UnitFacts) (e : Event) (l : Lock) → In l (won_by f e) → Won e l
won f (Did u st a) l h = by f.reach h
  where
    by : (r : Option Reach) → In l (elim r [ None ↦ [] | Some s ↦ lock_of (Unit u) (family_of f.kind) s ∷ [] ]) → l.owner ≡ Unit u
    by None i = absurd i
    by (Some r) (inl s) = ap (λ (x : Lock). x.owner) (sym s)
    by (Some r) (inr s) = absurd s
won f (Early bs) l h = tt
won f e l h = absurd h

from-lock : (n : Numbered) (k : ℕ) (ls : List Lock) → In n (numbered_from k ls) → In n.lock ls
from-lock n k [] i = i
from-lock n k (l ∷ ls) (inl e) = inl (ap (λ (x : Numbered). x.lock) e)
from-lock n k (l ∷ ls) (inr i) = inr (from-lock n (k + 1) ls i)

came : (f : UnitFacts) (e : Event) (k : ℕ) (old : List Numbered) (n : Numbered) → In n (table_by f k e old) → Came f e old n.lock
came f e k old n h =
    either (λ i. let m = in-filter_map (on_lock (fate_by f e)) n old i in
    either (λ s. inl (m.0, m.1, s.0, s.1)) (λ s. inr (inl (m.0, m.1, s))) (fate f e m.0.lock n.lock (numbered-lock (fate_by f e) m.0 n m.2)))
    (λ i. inr (inr (won f e n.lock (from-lock n (taken_by_now e k) (won_by f e) i))))
    (in-cases n (filter_map (on_lock (fate_by f e)) old) _ h)

-- waiting units

-- the event's unit does not wait after it, and nothing does behind an early opening
abbrev OfAnother : Event → Asker → Type 0
OfAnother (Did u st a) w = is_same_id w.unit u ≡ false
OfAnother (Ended u end) w = is_same_id w.unit u ≡ false
OfAnother (Early bs) w = ⊥
OfAnother e w = ⊤

dropped : (u : Id) (w : Asker) (ws : List Asker) → In w (drop_asker u ws) → In w ws × (is_same_id w.unit u ≡ false)
dropped u w ws i = let m = in-filter (λ (w : Asker). not (has_id w.unit (u ∷ []))) w ws i in (m.0, other (is_same_id w.unit u) m.1)
  where
    other : (t : Bool) → not (t || false) ≡ true → t ≡ false
    other true h = cc
    other false h = refl

still-waits : (f : UnitFacts) (e : Event) (old : Watch) (w : Asker) → BringsNoWait f e old → In w (waits_by f e old.waits) → In w old.waits × OfAnother e w
still-waits f (Waits u owners) old w calm i = absurd calm
still-waits f (Did u st a) old w calm i = dropped u w old.waits i
still-waits f (Ended u end) old w calm i = dropped u w old.waits i
still-waits f Ready old w calm i = absurd i
still-waits f (Early bs) old w calm i = absurd i
still-waits f e old w calm i = (i, tt)

-- pairs

no-new-pair : (f : UnitFacts) (e : Event) (old : Watch) (x y : Id) → BringsNoWait f e old → Spared e x → ReadsBy f e old.dependencies x y →
    IsTrue (old.dependencies.reads x y)
no-new-pair f (Did u st a) old x y calm s h = calm x y h
no-new-pair f (Ended u end) old x y calm s h = h.0
no-new-pair f (Released bs) old x y calm s h = h.0
no-new-pair f Ready old x y calm s h = absurd s
no-new-pair f (Early bs) old x y calm s h = absurd s
no-new-pair f e old x y calm s h = h

spared-on : (f : UnitFacts) (e : Event) (old : Dependencies) (x y : Id) → ReadsBy f e old x y → Spared e x → Spared e y
spared-on f (Released bs) old x y h s = h.2
spared-on f Ready old x y h s = s
spared-on f (Early bs) old x y h s = s
spared-on f e old x y h s = tt

still-finished : (f : UnitFacts) (e : Event) (old : Dependencies) (b : Id) → Spared e b → IsTrue (old.finished b) → FinishedAfter e old b
still-finished f (Finished c) old b s h = inr h
still-finished f (Released bs) old b s h = (h, s)
still-finished f Ready old b s h = absurd s
still-finished f (Early bs) old b s h = absurd s
still-finished f e old b s h = h

-- the whole
module _ (f : UnitFacts) (e : Event) (old new : Watch) (by_event : WatchBy f e old new) (calm : BringsNoWait f e old) where
  waited : (w : Asker) → In w new.waits → In w old.waits × OfAnother e w
  waited w i = still-waits f e old w calm (subst (In w) by_event.waits i)

  -- a way of pairs was one, and where it begins at a program that is spared it ends at one
  ways : (c b : Id) → Through new.dependencies.reads c b → Spared e c → Through old.dependencies.reads c b × Spared e b
  ways c b itself s = (itself, s)
  ways c b (through {c = x} h r) s =
      let k = (by_event.dependencies.reads c x).0 h in
      let m = ways x b r (spared-on f e old.dependencies c x k s) in
      (through (no-new-pair f e old c x calm s k) m.0, m.1)

  unfinished : (b : Id) → Spared e b → new.dependencies.finished b ≡ false → old.dependencies.finished b ≡ false
  unfinished b s h = by (old.dependencies.finished b) refl
    where
      by : (t : Bool) → old.dependencies.finished b ≡ t → t ≡ false
      by false g = refl
      by true g = let now : new.dependencies.finished b ≡ true = (by_event.dependencies.finished b).1 (still-finished f e old.dependencies b s g) in absurd cc

  held-up : (o : Owner) → SparedOwner e o → (v : Id) → HoldsUp new.dependencies new.waits o v → HoldsUp old.dependencies old.waits o v
  held-up (Unit u) s v h = h
  held-up (Base c) s v h = let way = ways c h.0 h.1 s in let w = h.3 in (h.0, way.0, unfinished h.0 way.1 h.2, (w.0, (waited w.0 w.1).0, w.2, w.3))

  -- a lock that was a unit's and is its program's clashed before
  salted-clash : (u b : Id) (w : Asker) (r : Reach) (m : Lock) → m.owner ≡ Unit u → is_same_id w.unit u ≡ false → clashes (Unit w.unit) w.family r (saline_of b m) ≡ true →
      clashes (Unit w.unit) w.family r m ≡ true
  salted-clash u b w r m is other h =
      let first = and_left ((m.table == r.table) && meets m.range r.range) (is_clash family.Saline m.mode w.family r.mode) h in
      let table = and_left (m.table == r.table) (meets m.range r.range) first in
      let range = and_right (m.table == r.table) (meets m.range r.range) first in
      let mode = was-clashing m.family m.mode w.family r.mode (and_right ((m.table == r.table) && meets m.range r.range) (is_clash family.Saline m.mode w.family r.mode) h) in
      rw (is, other, table, range, mode) refl

  no-salted : (e2 : Event) → (w : Asker) → In w old.waits → OfAnother e2 w → (m : Numbered) → In m old.table → (l : Lock) → Salted f e2 m.lock l → BringsNoWait f e2 old →
      (r : Reach) → w.reach ≡ Some r → clashes (Unit w.unit) w.family r l ≡ true → ⊥
  no-salted (Ended u (Committed n)) w i other m j l s quiet r asked h = by quiet
    where
      by : (base_by f ≡ None) ⊎ (IsAwaited old u → ⊥) → ⊥
      by (inl none) = let t : ◌≡◌ {A = Option Id} None (Some s.0) = sym none ∙ s.1 in absurd cc
      by (inr free) = free (
        w,
        i,
        into-clash (locks_in old) w (Unit u) (record {
          lock = m.lock;
          reach = r;
          held = into-map (λ (n : Numbered). n.lock) m old.table j;
          whose = s.2;
          asked = asked;
          meets_it = salted-clash u s.0 w r m.lock s.2 other (subst (λ (x : Lock). clashes (Unit w.unit) w.family r x ≡ true) s.3 h);
        }),
      )
  no-salted e2 w i other m j l s quiet r asked h = absurd s

  -- a lock that is won is a unit's that does not wait, or none waits
  no-won : (e2 : Event) → (l : Lock) → Won e2 l → ((w : Asker) → In w new.waits → OfAnother e2 w) → (v : Id) → In v (units_of new.waits) →
      HoldsUp new.dependencies new.waits l.owner v → ⊥
  no-won (Did u st a) l is others v i h =
      let s : u ≡ v = subst (λ o. HoldsUp new.dependencies new.waits o v) is h in
      let m = in-map (λ (w : Asker). w.unit) v new.waits i in
      let no : is_same_id m.0.unit u ≡ false = others m.0 m.1 in
      let yes : is_same_id m.0.unit u ≡ true = subst (λ z. is_same_id z u ≡ true) (s ∙ sym m.2) (is_same_id-refl u) in
      absurd cc
  no-won (Early bs) l is others v i h = let m = in-map (λ (w : Asker). w.unit) v new.waits i in others m.0 m.1
  no-won e2 l is others v i h = absurd is

  waited-for : (u v : Id) → In v (units_of new.waits) → WaitsFor new u v → WaitsFor old u v
  waited-for u v j h =
      let c = clash-in (locks_in new) h.0 h.3.0 h.3.1 in
      let n = in-map (λ (n : Numbered). n.lock) c.lock new.table c.held in
      (h.0, (waited h.0 h.1).0, h.2, from c n.0 n.2 (came f e old.taken old.table n.0 ((by_event.locks n.0).0 n.1)))
    where
      w : Asker
      w = h.0

      o : Owner
      o = h.3.0

      from : (c : Clash (locks_in new) w o) (n : Numbered) → n.lock ≡ c.lock → Came f e old.table n.lock →
          (p : Owner) × In p (clash_owners (locks_in old) w) × HoldsUp old.dependencies old.waits p v
      from c n is (inl k) = (
        o,
        into-clash (locks_in old) w o (record {
          lock = c.lock;
          reach = c.reach;
          held = subst (λ x. In x (locks_in old)) (k.2 ∙ is) (into-map (λ (n : Numbered). n.lock) k.0 old.table k.1);
          whose = c.whose;
          asked = c.asked;
          meets_it = c.meets_it;
        }),
        held-up o (subst (SparedOwner e) (ap (λ (x : Lock). x.owner) is ∙ c.whose) k.3) v h.3.2,
      )
      from c n is (inr (inl k)) =
          absurd (no-salted e w (waited w h.1).0 (waited w h.1).1 k.0 k.1 n.lock k.2 calm c.reach c.asked (subst (λ (x : Lock). clashes (Unit w.unit) w.family c.reach x ≡ true) (sym is) c.meets_it))
      from c n is (inr (inr k)) =
          absurd (no-won e n.lock k (λ x m. (waited x m).1) v j (subst (λ p. HoldsUp new.dependencies new.waits p v) (sym (ap (λ (x : Lock). x.owner) is ∙ c.whose)) h.3.2))

  pub circles-stay-away : NoneOnCircle old → NoneOnCircle new
  circles-stay-away = none-comes old new waited-for
