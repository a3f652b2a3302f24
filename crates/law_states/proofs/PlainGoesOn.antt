-- The state by lists goes on as states do, and is read by closures in rounds.
use Rattle.law_states.proofs.Closures.{any-in, into-any}
use Rattle.law_states.proofs.KeptTable.{append-rises, fate-rises, fates-below}
use Rattle.law_states.proofs.Numbering.{below-counted}
use Rattle.law_states.proofs.PairLists.{all_sources-exact, due_in-exact}
use Rattle.law_states.specs.KeptLocks.{Numbered, Sooner, is_owned_by, on_lock}
use Rattle.law_states.specs.KeptSources.{FinishedAfter, WritesIn, given_up, unless_among}
use Rattle.law_states.specs.Members.{Ascends, In}
use Rattle.law_states.specs.Overlays.{Edit}
use Rattle.law_states.specs.PairClosures.{Pair, all_sources, due_in, has_pair}
use Rattle.law_states.specs.PlainStates.{IsInTurn, PlainState, PlainWatch, as_state, finished_after, pair_at, pair_with, pairs_after, pairs_among, pairs_read, state_after, watch_after, watch_of, writer_in, writers_after, writers_by}
use Rattle.law_states.specs.Readings.{WatchReading}
use Rattle.law_states.specs.States.{After}
use Rattle.law_states.specs.UnitFacts.{UnitFacts, facts_in}
use Rattle.law_states.specs.WatchSteps.{ReadsBy, base_by, fate_by, first_by, taken_by_now, won_by, writer_by}
use Rattle.law_story.proofs.Every.{every-filter}
use Rattle.law_story.proofs.Ids.{and_left, and_right, is_same_id-refl, is_same_id-true}
use Rattle.law_story.proofs.Lists.{either, has-in, in-cases, in-filter, in-filter_map, in-has, in-left, in-right, in-without, into-filter, into-filter_map}
use Rattle.law_story.proofs.Places.{equal-is, place_same}
use Rattle.salt_model.specs.Tables.{is_within, place, place_cmp}
use Rattle.salt_model.specs.declared.events.End.TheVariants.{Committed}
use Rattle.salt_model.specs.declared.events.Event.{Event}
use Rattle.salt_model.specs.declared.events.Event.TheVariants.{Did, Early, Ended, Finished, Ready, Released}
use Rattle.salt_model.specs.declared.locks.Reach.{Reach}
use Rattle.salt_model.specs.declared.places.Place.{Place}
use Rattle.salt_values.specs.Id.{has_id, is_same_id, without}
use Rattle.salt_values.specs.declared.id.Id.{Id}
use Rattle.std.proofs.Common.{ap, inl, inr, subst, sym, ◌∙◌}
use Rattle.std.proofs.lemmas.Bool.{eq-eqb, eqb-true}
use Rattle.std.specs.Bool.{then_some}
use Rattle.std.specs.FinMap.Entries.{find, find-where_key, where_key}
use Rattle.std.specs.List.{filter, filter_map, flat_map}
use Rattle.std.specs.Ordering.{is_eq}
use Rattle.std.specs.Prelude.{Bool, IsTrue, List, None, Option, Some, [], cond, false, is_some, map, not, option_and_then, refl, true, ◌&&◌, ◌++◌, ◌==◌, ◌↔◌, ◌∷◌, ◌≡◌, ◌⊎◌}

-- last writers

abbrev or_find : Option Id → Option Id → Option Id
or_find None o = o
or_find (Some b) o = Some b

find-both : (p : Place) (xs ys : List (Place × Id)) → find place_cmp p (xs ++ ys) ≡ or_find (find place_cmp p xs) (find place_cmp p ys)
find-both p [] ys = refl
find-both p (x ∷ xs) ys = by (is_eq (place_cmp p x.0)) (find-both p xs ys)
  where
    by : (t : Bool) → find place_cmp p (xs ++ ys) ≡ or_find (find place_cmp p xs) (find place_cmp p ys) →
        cond t (Some x.1) (find place_cmp p (xs ++ ys)) ≡ or_find (cond t (Some x.1) (find place_cmp p xs)) (find place_cmp p ys)
    by true e = refl
    by false e = e

find-given : (p : Place) (b : Id) (ds : List Edit) →
    find place_cmp p (map (λ (d : Edit). (d.0, b)) ds) ≡ cond (is_some (find place_cmp p ds)) (Some b) None
find-given p b [] = refl
find-given p b (d ∷ ds) = by (is_eq (place_cmp p d.0)) (find-given p b ds)
  where
    by : (t : Bool) → find place_cmp p (map (λ (d : Edit). (d.0, b)) ds) ≡ cond (is_some (find place_cmp p ds)) (Some b) None →
        cond t (Some b) (find place_cmp p (map (λ (d : Edit). (d.0, b)) ds)) ≡ cond (is_some (cond t (Some d.1) (find place_cmp p ds))) (Some b) None
    by true e = refl
    by false e = e

-- a test on places is one on those that compare alike
kept-at : (test : Place → Bool) (p : Place) (ws : List (Place × Id)) →
    find place_cmp p (where_key place_cmp test ws) ≡ cond (test p) (find place_cmp p ws) None
kept-at test p ws = find-where_key place_cmp test p (λ x e. ap test (sym (place_same p x e))) ws

committed-writer : (o : Option Id) (ds : List Edit) (ws : List (Place × Id)) (p : Place) →
    writer_in (writers_by o ds ++ where_key place_cmp (λ q. not (is_some (find place_cmp q ds))) ws) p ≡ cond (is_some (find place_cmp p ds)) o (writer_in ws p)
committed-writer None ds ws p = kept-at (λ q. not (is_some (find place_cmp q ds))) p ws ∙ by (is_some (find place_cmp p ds))
  where
    by : (t : Bool) → cond (not t) (find place_cmp p ws) None ≡ cond t None (writer_in ws p)
    by true = refl
    by false = refl
committed-writer (Some b) ds ws p =
    find-both p (map (λ (d : Edit). (d.0, b)) ds) (where_key place_cmp (λ q. not (is_some (find place_cmp q ds))) ws)
    ∙ (λ i. or_find (find-given p b ds i) (kept-at (λ q. not (is_some (find place_cmp q ds))) p ws i))
    ∙ by (is_some (find place_cmp p ds))
  where
    by : (t : Bool) → or_find (cond t (Some b) None) (cond (not t) (find place_cmp p ws) None) ≡ cond t (Some b) (writer_in ws p)
    by true = refl
    by false = refl

released-writer : (bs : List Id) (ws : List (Place × Id)) (p : Place) →
    writer_in (where_key place_cmp (λ q. is_some (unless_among bs (writer_in ws q))) ws) p ≡ unless_among bs (writer_in ws p)
released-writer bs ws p = kept-at (λ q. is_some (unless_among bs (writer_in ws q))) p ws ∙ by (writer_in ws p)
  where
    but : (b : Id) (t : Bool) → cond (is_some (then_some (not t) b)) (Some b) None ≡ then_some (not t) b
    but b true = refl
    but b false = refl

    by : (o : Option Id) → cond (is_some (unless_among bs o)) o None ≡ unless_among bs o
    by None = refl
    by (Some b) = but b (has_id b bs)

writers-on : (f : UnitFacts) (e : Event) (ws : List (Place × Id)) (p : Place) → writer_in (writers_after f e ws) p ≡ writer_by f e (writer_in ws) p
writers-on f (Ended u (Committed n)) ws p = committed-writer (base_by f) f.changes ws p
writers-on f (Ended u end) ws p = refl
writers-on f (Released bs) ws p = released-writer bs ws p
writers-on f Ready ws p = refl
writers-on f e ws p = refl

-- pairs

both-true : (p q : Bool) → p ≡ true → q ≡ true → (p && q) ≡ true
both-true true q e f = f
both-true false q e f = cc

pair-of : (ps : List Pair) (x y : Id) → has_pair ps x y ≡ true → In (record { reader = x; source = y }) ps
pair-of ps x y h =
    let m = any-in (λ (p : Pair). is_same_id x p.reader && is_same_id y p.source) ps h in
    let a = is_same_id-true x m.0.reader (and_left (is_same_id x m.0.reader) _ m.2) in
    let b = is_same_id-true y m.0.source (and_right (is_same_id x m.0.reader) _ m.2) in
    subst (λ (p : Pair). In p ps) (λ i. record { reader = sym a i; source = sym b i }) m.1

of-pair : (ps : List Pair) (x y : Id) → In (record { reader = x; source = y }) ps → has_pair ps x y ≡ true
of-pair ps x y i =
    into-any (λ (p : Pair). is_same_id x p.reader && is_same_id y p.source) (record { reader = x; source = y }) ps i
    (both-true _ _ (is_same_id-refl x) (is_same_id-refl y))

-- a key that one wrote last
found-place : (p : Place) (ws : List (Place × Id)) (y : Id) → writer_in ws p ≡ Some y → (w : Place × Id) × In w ws × (p ≡ w.0)
found-place p [] y h = cc
found-place p (w ∷ ws) y h = by (is_eq (place_cmp p w.0)) refl h (found-place p ws y)
  where
    by : (t : Bool) → is_eq (place_cmp p w.0) ≡ t → cond t (Some w.1) (find place_cmp p ws) ≡ Some y →
        (writer_in ws p ≡ Some y → (v : Place × Id) × In v ws × (p ≡ v.0)) → (v : Place × Id) × In v (w ∷ ws) × (p ≡ v.0)
    by true e q more = (w, inl refl, place_same p w.0 (equal-is _ e))
    by false e q more = let m = more q in (m.0, inr m.1, m.2)

un-not : (t : Bool) → not t ≡ true → t ≡ false
un-not true h = cc
un-not false h = refl

abbrev Path-of : Pair → Pair → Type 0
Path-of p q = p ≡ q

some-pair : (b y x z : Id) → pair_with b y ≡ Some (record { reader = x; source = z }) → (b ≡ x) × (y ≡ z) × (is_same_id y b ≡ false)
some-pair b y x z h = by (is_same_id y b) refl h
  where
    by : (t : Bool) → is_same_id y b ≡ t → then_some {T = Pair} (not t) (record { reader = b; source = y }) ≡ Some (record { reader = x; source = z }) →
        (b ≡ x) × (y ≡ z) × (is_same_id y b ≡ false)
    by true e q = cc
    by false e q =
        let s : Path-of (record { reader = b; source = y }) (record { reader = x; source = z }) = cc in
        (ap (λ (p : Pair). p.reader) s, ap (λ (p : Pair). p.source) s, e)

read-in : (b : Id) (r : Reach) (ws : List (Place × Id)) (x y : Id) → In (record { reader = x; source = y }) (filter_map (pair_at b r ws) ws) →
    (b ≡ x) × (is_same_id y x ≡ false) × WritesIn (writer_in ws) (Some r) y
read-in b r ws x y i =
    let m = in-filter_map (pair_at b r ws) (record { reader = x; source = y }) ws i in by m.0 (is_within r m.0.0) refl (writer_in ws m.0.0) refl m.2
  where
    at : (w : Place × Id) → is_within r w.0 ≡ true → place r.table w.0.key ≡ w.0
    at w e = λ j. record { table = eqb-true r.table w.0.table (and_left (r.table == w.0.table) _ e) j; key = w.0.key }

    by : (w : Place × Id) (t : Bool) → is_within r w.0 ≡ t → (o : Option Id) → writer_in ws w.0 ≡ o →
        cond t (option_and_then (pair_with b) o) None ≡ Some (record { reader = x; source = y }) →
        (b ≡ x) × (is_same_id y x ≡ false) × WritesIn (writer_in ws) (Some r) y
    by w false e o q h = cc
    by w true e None q h = cc
    by w true e (Some z) q h =
        let s = some-pair b z x y h in (
          s.0,
          subst (λ v. is_same_id v x ≡ false) s.1 (subst (λ v. is_same_id z v ≡ false) s.0 s.2),
          (w.0.key, and_right (r.table == w.0.table) _ e, ap (writer_in ws) (at w e) ∙ q ∙ ap Some s.1),
        )

into-read : (r : Reach) (ws : List (Place × Id)) (x y : Id) → is_same_id y x ≡ false → WritesIn (writer_in ws) (Some r) y →
    In (record { reader = x; source = y }) (filter_map (pair_at x r ws) ws)
into-read r ws x y n w =
    let m = found-place (place r.table w.0) ws y w.2 in
    into-filter_map (pair_at x r ws) m.0 (record { reader = x; source = y }) ws m.1
    (subst (λ (p : Place). cond (is_within r p) (option_and_then (pair_with x) (writer_in ws p)) None ≡ Some (record { reader = x; source = y })) m.2
    ((λ i. cond (both-true (r.table == r.table) _ (eq-eqb r.table r.table refl) w.1 i) (option_and_then (pair_with x) (w.2 i)) None) ∙ ap (λ t. then_some {T = Pair} (not t) (record { reader = x; source = y })) n))

reads-did : (o : Option Id) (q : Option Reach) (ws : List (Place × Id)) (ps : List Pair) (x y : Id) →
    (has_pair (pairs_read o q ws ++ ps) x y ≡ true) ↔ ((has_pair ps x y ≡ true) ⊎ ((o ≡ Some x) × (is_same_id y x ≡ false) × WritesIn (writer_in ws) q y))
reads-did o q ws ps x y = (
  (λ h. either (λ i. inr (new o q i)) (λ i. inl (of-pair ps x y i)) (in-cases (record { reader = x; source = y }) (pairs_read o q ws) ps (pair-of (pairs_read o q ws ++ ps) x y h))),
  (λ h. of-pair (pairs_read o q ws ++ ps) x y (either (λ e. in-right _ (pairs_read o q ws) ps (pair-of ps x y e)) (λ m. in-left _ (pairs_read o q ws) ps (old o q m.0 m.1 m.2)) h)),
)
  where
    new : (o : Option Id) (q : Option Reach) → In (record { reader = x; source = y }) (pairs_read o q ws) →
        (o ≡ Some x) × (is_same_id y x ≡ false) × WritesIn (writer_in ws) q y
    new None q i = absurd i
    new (Some b) None i = absurd i
    new (Some b) (Some r) i = let m = read-in b r ws x y i in (ap Some m.0, m.1, m.2)

    old : (o : Option Id) (q : Option Reach) → o ≡ Some x → is_same_id y x ≡ false → WritesIn (writer_in ws) q y →
        In (record { reader = x; source = y }) (pairs_read o q ws)
    old None q e n w = cc
    old (Some b) None e n w = absurd w
    old (Some b) (Some r) e n w =
        let s : b ≡ x = cc in subst (λ c. In (record { reader = x; source = y }) (filter_map (pair_at c r ws) ws)) (sym s) (into-read r ws x y n w)

reads-filter : (test : Pair → Bool) (ps : List Pair) (x y : Id) →
    (has_pair (filter test ps) x y ≡ true) ↔ ((has_pair ps x y ≡ true) × (test (record { reader = x; source = y }) ≡ true))
reads-filter test ps x y = (
  (λ h. let m = in-filter test (record { reader = x; source = y }) ps (pair-of (filter test ps) x y h) in (of-pair ps x y m.0, m.1)),
  (λ h. of-pair (filter test ps) x y (into-filter test (record { reader = x; source = y }) ps (pair-of ps x y h.0) h.1)),
)

-- the pairs among programs that an early opening names
pair-with-back : (b z x y : Id) → pair_with b z ≡ Some (record { reader = x; source = y }) → (b ≡ x) × (z ≡ y) × (is_same_id z b ≡ false)
pair-with-back b z x y h = go (is_same_id z b) refl h
  where
    go : (t : Bool) → is_same_id z b ≡ t → then_some {T = Pair} (not t) (record { reader = b; source = z }) ≡ Some (record { reader = x; source = y }) → (b ≡ x) × (z ≡ y) × (is_same_id z b ≡ false)
    go true e g = cc
    go false e g = let m : ◌≡◌ {A = Pair} (record { reader = b; source = z }) (record { reader = x; source = y }) = cc in (ap (λ (p : Pair). p.reader) m, ap (λ (p : Pair). p.source) m, e)

among-rest : (bs cs : List Id) (x y : Id) → In (record { reader = x; source = y }) (flat_map (λ b. filter_map (pair_with b) bs) cs) → In x cs × In y bs × (is_same_id y x ≡ false)
among-rest bs [] x y i = absurd i
among-rest bs (c ∷ cs) x y i = either
    (λ j. let m = in-filter_map (pair_with c) (record { reader = x; source = y }) bs j in let r = pair-with-back c m.0 x y m.2 in (inl r.0, subst (λ z. In z bs) r.1 m.1, subst (λ z. is_same_id y z ≡ false) r.0 (subst (λ z. is_same_id z c ≡ false) r.1 r.2)))
    (λ j. let r = among-rest bs cs x y j in (inr r.0, r.1, r.2))
    (in-cases (record { reader = x; source = y }) (filter_map (pair_with c) bs) _ i)

among-pair : (bs : List Id) (x y : Id) → In (record { reader = x; source = y }) (pairs_among bs) → IsTrue (has_id x bs) × IsTrue (has_id y bs) × (is_same_id y x ≡ false)
among-pair bs x y i = let r = among-rest bs bs x y i in (in-has x bs r.0, in-has y bs r.1, r.2)

rest-among : (bs cs : List Id) (x y : Id) → In x cs → In y bs → is_same_id y x ≡ false → In (record { reader = x; source = y }) (flat_map (λ b. filter_map (pair_with b) bs) cs)
rest-among bs [] x y i j n = absurd i
rest-among bs (c ∷ cs) x y (inl e) j n = in-left (record { reader = x; source = y }) (filter_map (pair_with c) bs) _ (subst (λ z. In (record { reader = x; source = y }) (filter_map (pair_with z) bs)) (sym e) (into-filter_map (pair_with x) y (record { reader = x; source = y }) bs j (rw n refl)))
rest-among bs (c ∷ cs) x y (inr i) j n = in-right (record { reader = x; source = y }) (filter_map (pair_with c) bs) _ (rest-among bs cs x y i j n)

pair-among : (bs : List Id) (x y : Id) → IsTrue (has_id x bs) → IsTrue (has_id y bs) → is_same_id y x ≡ false → In (record { reader = x; source = y }) (pairs_among bs)
pair-among bs x y i j n = rest-among bs bs x y (has-in x bs i) (has-in y bs j) n

reads-on : (f : UnitFacts) (e : Event) (w : PlainWatch) (x y : Id) →
    IsTrue (has_pair (pairs_after f e w.writers w.pairs) x y) ↔ ReadsBy f e (watch_of w).dependencies x y
reads-on f (Did u st a) w x y = reads-did (base_by f) f.reach w.writers w.pairs x y
reads-on f (Ended u end) w x y =
    let r = reads-filter (λ p. not (has_id p.reader (given_up end (first_by f)))) w.pairs x y in
    ((λ h. let m = r.0 h in (m.0, un-not _ m.1)), (λ h. r.1 (h.0, ap not h.1)))
reads-on f (Released bs) w x y =
    let r = reads-filter (λ p. not (has_id p.reader bs) && not (has_id p.source bs)) w.pairs x y in
    ((λ h. let m = r.0 h in (m.0, un-not _ (and_left (not (has_id x bs)) _ m.1), un-not _ (and_right (not (has_id x bs)) _ m.1))), (λ h. r.1 (h.0, both-true _ _ (ap not h.1) (ap not h.2))))
reads-on f Ready w x y = ((λ h. cc), (λ h. absurd h))
reads-on f (Early bs) w x y = ((λ h. among-pair bs x y (pair-of (pairs_among bs) x y h)), (λ h. of-pair (pairs_among bs) x y (pair-among bs x y h.0 h.1 h.2)))
reads-on f e w x y = ((λ h. h), (λ h. h))

finished-on : (e : Event) (w : PlainWatch) (b : Id) → IsTrue (has_id b (finished_after e w.finished)) ↔ FinishedAfter e (watch_of w).dependencies b
finished-on (Finished c) w b = (
  (λ h. either (λ i. inl i) (λ i. inr (in-has b w.finished i)) (has-in b (c ∷ w.finished) h)),
  (λ h. in-has b (c ∷ w.finished) (either (λ e. inl e) (λ t. inr (has-in b w.finished t)) h)),
)
finished-on (Released cs) w b = (
  (λ h. let m = in-without b cs w.finished (has-in b (without cs w.finished) h) in (in-has b w.finished m.0, m.1)),
  (λ h. in-has b (without cs w.finished) (into-filter (λ u. not (has_id u cs)) b w.finished (has-in b w.finished h.0) (ap not h.1))),
)
finished-on Ready w b = ((λ h. cc), (λ h. absurd h))
finished-on (Early bs) w b = ((λ h. cc), (λ h. absurd h))
finished-on e w b = ((λ h. h), (λ h. h))

-- the whole
pub plain-says : (e : Event) (p : PlainState) → After e (as_state p) (as_state (state_after e p))
plain-says e p = record {
  units = refl;
  watch = record {
    locks = λ n. ((λ i. i), (λ i. i));
    taken = refl;
    waits = refl;
    programs = refl;
    dependencies = record {
      writer = writers-on (facts_in p.units e) e p.watch.writers;
      reads = reads-on (facts_in p.units e) e p.watch;
      finished = finished-on e p.watch;
    };
  };
  names = λ b. refl;
  can_stop = refl;
  over_net = refl;
  net = λ shape. refl;
}

-- locks stay in turn

pub turn-stays : (f : UnitFacts) (e : Event) (w : PlainWatch) → IsInTurn w → IsInTurn (watch_after f e w)
turn-stays f e w h = record {
  rises = append-rises (filter_map (on_lock (fate_by f e)) w.table) (won_by f e) (taken_by_now e w.taken)
      (fate-rises (fate_by f e) w.table h.rises) (fates-below f e w.taken w.table h.below);
  below = below-counted f e w.taken w.table h.below;
}

-- and what is computed of them is a reading
filter-rises : (test : Numbered → Bool) (ns : List Numbered) → Ascends Sooner ns → Ascends Sooner (filter test ns)
filter-rises test [] h = tt
filter-rises test (n ∷ ns) h = by (test n) (filter-rises test ns h.1)
  where
    by : (t : Bool) → Ascends Sooner (filter test ns) → Ascends Sooner (cond t (n ∷ filter test ns) (filter test ns))
    by true more = (every-filter (Sooner n) test ns h.0, more)
    by false more = more

pub plain-reading : (w : PlainWatch) → IsInTurn w → WatchReading (watch_of w)
plain-reading w h = record {
  sources = all_sources w.pairs;
  due = due_in w.pairs w.finished;
  part = λ o. filter (λ n. is_owned_by o n.lock) w.table;
  closes = all_sources-exact w.pairs;
  are_due = due_in-exact (writer_in w.writers) w.pairs w.finished;
  rises = λ o. filter-rises (λ n. is_owned_by o n.lock) w.table h.rises;
  whose = λ o n. ((λ i. in-filter (λ m. is_owned_by o m.lock) n w.table i), (λ i. into-filter (λ m. is_owned_by o m.lock) n w.table i.0 i.1));
}
