-- The search in the graph of waiting units finds a victim exactly where one waits for itself.
use Rattle.law_states.proofs.Closures.{any-in, into-any}
use Rattle.law_states.proofs.PairLists.{on-cycle}
use Rattle.law_states.specs.Circles.{HoldsUp, NoneOnCircle, WaitsFor, WaitsThrough, at_once, onward}
use Rattle.law_states.specs.KeptSources.{Dependencies, Through}
use Rattle.law_states.specs.KeptWaits.{AreDistinct, Asker, clash_owners, edges_of, graph_unit, is_base_of, victim_in, waiting_for}
use Rattle.law_states.specs.Members.{In}
use Rattle.law_states.specs.PairClosures.{Leads, LeadsBack, here, on}
use Rattle.law_states.specs.Readings.{locks_in}
use Rattle.law_states.specs.Watches.{Watch}
use Rattle.law_story.proofs.Coming.{neither}
use Rattle.law_story.proofs.Ids.{and_left, and_right, is_same_id-refl, is_same_id-true}
use Rattle.law_story.proofs.Lists.{either, in-cases, in-filter, in-left, in-map, in-right, into-filter, into-map, not-true}
use Rattle.salt_model.specs.Waiting.{WaitUnit, edges_in, is_on_cycle, names_of, victim_of}
use Rattle.salt_model.specs.Words.{greatest}
use Rattle.salt_model.specs.declared.events.Owner.{Owner}
use Rattle.salt_model.specs.declared.events.Owner.TheVariants.{Base, Unit}
use Rattle.salt_model.specs.declared.locks.Lock.{Lock}
use Rattle.salt_values.specs.Id.{is_older, is_same_id}
use Rattle.salt_values.specs.declared.id.Id.{Id}
use Rattle.std.proofs.Common.{ap, inl, inr, subst, sym}
use Rattle.std.specs.List.{filter, flat_map, list_any}
use Rattle.std.specs.Option.{option_or}
use Rattle.std.specs.Prelude.{Bool, List, None, Option, Some, [], cond, false, map, not, refl, true, ◌&&◌, ◌↔◌, ◌∷◌, ◌≡◌}

in-flat : {A B : Type 0} (f : A → List B) (y : B) (xs : List A) → In y (flat_map f xs) → (x : A) × In x xs × In y (f x)
in-flat f y [] h = absurd h
in-flat f y (x ∷ xs) h =
    either (λ g. (x, inl refl, g)) (λ g. let r = in-flat f y xs g in (r.0, inr r.1, r.2)) (in-cases y (f x) (flat_map f xs) h)

into-flat : {A B : Type 0} (f : A → List B) (x : A) (y : B) (xs : List A) → In x xs → In y (f x) → In y (flat_map f xs)
into-flat f x y [] i h = absurd i
into-flat f x y (z ∷ zs) (inl e) h = in-left y (f z) (flat_map f zs) (subst (λ w. In y (f w)) (sym e) h)
into-flat f x y (z ∷ zs) (inr i) h = in-right y (f z) (flat_map f zs) (into-flat f x y zs i h)

-- no victim is no circle, and no circle is no victim

greatest-none : (us : List Id) → greatest us ≡ None → us ≡ []
greatest-none [] h = refl
greatest-none (u ∷ us) h = by (greatest us) h
  where
    by : (o : Option Id) → ◌≡◌ {A = Option Id} (elim o [ None ↦ Some u | Some v ↦ Some (cond (is_older u v) v u) ]) None → u ∷ us ≡ []
    by None g = cc
    by (Some v) g = cc

pub on-none : (graph : List WaitUnit) → victim_of graph ≡ None → (w : WaitUnit) → In w graph → LeadsBack graph w → ⊥
on-none graph h w i back =
    names-none (filter (is_on_cycle graph) graph) (greatest-none _ (neither (greatest (names_of (filter (λ w. w.acid) (filter (is_on_cycle graph) graph)))) _ h).1)
    (into-filter (is_on_cycle graph) w graph i ((on-cycle graph w i).1 back))
  where
    names-none : (ws : List WaitUnit) → names_of ws ≡ [] → In w ws → ⊥
    names-none [] e m = m
    names-none (x ∷ ws) e m = cc

pub none-on : (graph : List WaitUnit) → ((w : WaitUnit) → In w graph → LeadsBack graph w → ⊥) → victim_of graph ≡ None
none-on graph n = ap (λ on. option_or (greatest (names_of (filter (λ (w : WaitUnit). w.acid) on))) (greatest (names_of on))) (empty (filter (is_on_cycle graph) graph) (λ w i. i))
  where
    empty : (ws : List WaitUnit) → ((w : WaitUnit) → In w ws → In w (filter (is_on_cycle graph) graph)) → ws ≡ []
    empty [] h = refl
    empty (w ∷ ws) h = let m = in-filter (is_on_cycle graph) w graph (h w (inl refl)) in absurd (n w m.0 ((on-cycle graph w m.0).0 m.1))

-- the graph of waiting units: whom one waits for

abbrev pub Awaits : Dependencies → List Lock → List Asker → (Id → List Id) → Asker → Id → Type 0
Awaits d ls ws sources w v = (o : Owner) × In o (clash_owners ls w) × In v (edges_of d ws sources o)

abbrev pub units_of : List Asker → List Id
units_of ws = map (λ (w : Asker). w.unit) ws

module _ (d : Dependencies) (ls : List Lock) (all : List Asker) (sources : Id → List Id) where
  abbrev graph_over : List Asker → List WaitUnit
  graph_over ws = map (graph_unit d ls all sources) ws

  awaits-edge : (w : Asker) (v : Id) → In v (graph_unit d ls all sources w).edges → Awaits d ls all sources w v
  awaits-edge w v h = in-flat (edges_of d all sources) v (clash_owners ls w) h

  edge-awaits : (w : Asker) (v : Id) → Awaits d ls all sources w v → In v (graph_unit d ls all sources w).edges
  edge-awaits w v a = into-flat (edges_of d all sources) a.0 v (clash_owners ls w) a.1 a.2

  -- an edge is that of a waiting unit of the name
  at-edge : (ws : List Asker) (u v : Id) → In v (edges_in (graph_over ws) u) → (w : Asker) × In w ws × (w.unit ≡ u) × Awaits d ls all sources w v
  at-edge [] u v h = absurd h
  at-edge (w ∷ ws) u v h = by (is_same_id u w.unit) refl h (at-edge ws u v)
    where
      by : (t : Bool) → is_same_id u w.unit ≡ t → In v (cond t (graph_unit d ls all sources w).edges (edges_in (graph_over ws) u)) →
          (In v (edges_in (graph_over ws) u) → (w : Asker) × In w ws × (w.unit ≡ u) × Awaits d ls all sources w v) → (x : Asker) × In x (w ∷ ws) × (x.unit ≡ u) × Awaits d ls all sources x v
      by true e g more = (w, inl refl, sym (is_same_id-true u w.unit e), awaits-edge w v g)
      by false e g more = let m = more g in (m.0, inr m.1, m.2, m.3)

  -- where each waits once, its edges stand at its name
  edge-at : (ws : List Asker) (w : Asker) (v : Id) → AreDistinct (units_of ws) → In w ws → Awaits d ls all sources w v → In v (edges_in (graph_over ws) w.unit)
  edge-at [] w v n i a = absurd i
  edge-at (x ∷ ws) w v n i a = by (is_same_id w.unit x.unit) refl i (edge-at ws w v n.1)
    where
      by : (t : Bool) → is_same_id w.unit x.unit ≡ t → In w (x ∷ ws) → (In w ws → Awaits d ls all sources w v → In v (edges_in (graph_over ws) w.unit)) →
          In v (cond t (graph_unit d ls all sources x).edges (edges_in (graph_over ws) w.unit))
      by true e (inl s) more = subst (λ (z : Asker). In v (graph_unit d ls all sources z).edges) (sym s) (edge-awaits w v a)
      by true e (inr j) more = absurd (n.0 (subst (λ z. In z (units_of ws)) (is_same_id-true w.unit x.unit e) (into-map (λ (y : Asker). y.unit) w ws j)))
      by false e (inl s) more = let t : is_same_id w.unit x.unit ≡ true = subst (λ (z : Asker). is_same_id w.unit z.unit ≡ true) (sym s) (is_same_id-refl w.unit) in absurd cc
      by false e (inr j) more = more j a

-- whom an owner holds up, by any lists of the programs that each comes to
module _ (d : Dependencies) (ws : List Asker) (sources : Id → List Id) (closes : (c b : Id) → In b (sources c) ↔ Through d.reads c b) where
  pub holds-edge : (o : Owner) (v : Id) → HoldsUp d ws o v → In v (edges_of d ws sources o)
  holds-edge (Unit u) v h = inl h
  holds-edge (Base c) v h =
      let w = h.3 in
      let there = into-any (λ b. not (d.finished b) && is_base_of w.0.base b) h.0 (sources c) ((closes c h.0).1 h.1) (rw (h.2, w.3) refl) in
      subst (λ z. In z (waiting_for d ws (sources c))) w.2
      (into-map (λ (w : Asker). w.unit) w.0 _ (into-filter (λ (w : Asker). list_any (λ b. not (d.finished b) && is_base_of w.base b) (sources c)) w.0 ws w.1 there))

  pub edge-holds : (o : Owner) (v : Id) → In v (edges_of d ws sources o) → HoldsUp d ws o v
  edge-holds (Unit u) v (inl e) = e
  edge-holds (Unit u) v (inr e) = absurd e
  edge-holds (Base c) v h =
      let m = in-map (λ (w : Asker). w.unit) v _ h in
      let k = in-filter (λ (w : Asker). list_any (λ b. not (d.finished b) && is_base_of w.base b) (sources c)) m.0 ws m.1 in
      let a = any-in (λ b. not (d.finished b) && is_base_of m.0.base b) (sources c) k.1 in (
        a.0,
        (closes c a.0).0 a.1,
        not-true (d.finished a.0) (and_left (not (d.finished a.0)) (is_base_of m.0.base a.0) a.2),
        (m.0, k.0, m.2, and_right (not (d.finished a.0)) (is_base_of m.0.base a.0) a.2),
      )

-- the search finds none exactly where none is on a circle
module _ (x : Watch) (sources : Id → List Id) (closes : (c b : Id) → In b (sources c) ↔ Through x.dependencies.reads c b) (once : AreDistinct (units_of x.waits)) where
  abbrev unit_in : Asker → WaitUnit
  unit_in = graph_unit x.dependencies (locks_in x) x.waits sources

  abbrev whole : List WaitUnit
  whole = map unit_in x.waits

  holds-up : (o : Owner) (v : Id) → In v (edges_of x.dependencies x.waits sources o) → HoldsUp x.dependencies x.waits o v
  holds-up o v h = edge-holds x.dependencies x.waits sources closes o v h

  step-waits : (u v : Id) → In v (edges_in whole u) → WaitsFor x u v
  step-waits u v h = let k = at-edge x.dependencies (locks_in x) x.waits sources x.waits u v h in (k.0, k.1, k.2, (k.3.0, k.3.1, holds-up k.3.0 v k.3.2))

  by-lock : (o : Owner) (v : Id) → HoldsUp x.dependencies x.waits o v → In v (edges_of x.dependencies x.waits sources o)
  by-lock o v h = holds-edge x.dependencies x.waits sources closes o v h

  waits-step : (u v : Id) → WaitsFor x u v → In v (edges_in whole u)
  waits-step u v h =
      subst (λ z. In v (edges_in whole z)) h.2
      (edge-at x.dependencies (locks_in x) x.waits sources x.waits h.0 v once h.1 (h.3.0, h.3.1, by-lock h.3.0 v h.3.2))

  leads-waits : (u v c : Id) → WaitsFor x u v → Leads (edges_in whole) v c → WaitsThrough x u c
  leads-waits u v c h here = at_once h
  leads-waits u v c h (on {b = b} e r) = onward h (leads-waits v b c (step-waits v b e) r)

  waits-leads : (u c : Id) → WaitsThrough x u c → (v : Id) × WaitsFor x u v × Leads (edges_in whole) v c
  waits-leads u c (at_once h) = (c, h, here)
  waits-leads u c (onward {v = v} h r) = let m = waits-leads v c r in (v, h, on (waits-step v m.0 m.1) m.2)

  pub none-found : NoneOnCircle x → victim_in x.dependencies (locks_in x) x.waits sources ≡ None
  none-found none = none-on whole (λ y i back. from y (in-map unit_in y x.waits i) back)
    where
      at : (w : Asker) → In w x.waits → LeadsBack whole (unit_in w) → ⊥
      at w i b =
          let a = awaits-edge x.dependencies (locks_in x) x.waits sources w b.0 b.1 in
          none w.unit (leads-waits w.unit b.0 w.unit (w, i, refl, (a.0, a.1, holds-up a.0 b.0 a.2)) b.2)

      from : (y : WaitUnit) → (w : Asker) × In w x.waits × (unit_in w ≡ y) → LeadsBack whole y → ⊥
      from y k back = at k.0 k.1 (subst (LeadsBack whole) (sym k.2) back)

  pub found-none : victim_in x.dependencies (locks_in x) x.waits sources ≡ None → NoneOnCircle x
  found-none none u r =
      let m = waits-leads u u r in
      let h = m.1 in
      on-none whole none (unit_in h.0) (into-map unit_in h.0 x.waits h.1)
      (m.0, edge-awaits x.dependencies (locks_in x) x.waits sources h.0 m.0 (h.3.0, h.3.1, by-lock h.3.0 m.0 h.3.2), subst (Leads (edges_in whole) m.0) (sym h.2) m.2)

-- between two watches: who waits for one that waits did so before
pub none-comes : (old new : Watch) → ((u v : Id) → In v (units_of new.waits) → WaitsFor new u v → WaitsFor old u v) → NoneOnCircle old → NoneOnCircle new
none-comes old new before none u r = none u (goes u u r (inner u u r))
  where
    inner : (u c : Id) → WaitsThrough new u c → In u (units_of new.waits)
    inner u c (at_once h) = subst (λ z. In z (units_of new.waits)) h.2 (into-map (λ (w : Asker). w.unit) h.0 new.waits h.1)
    inner u c (onward h r) = subst (λ z. In z (units_of new.waits)) h.2 (into-map (λ (w : Asker). w.unit) h.0 new.waits h.1)

    goes : (u c : Id) → WaitsThrough new u c → In c (units_of new.waits) → WaitsThrough old u c
    goes u c (at_once h) i = at_once (before u c i h)
    goes u c (onward {v = v} h r) i = onward (before u v (inner v c r) h) (goes v c r i)

-- where none waits none is on a circle
pub none-waiting : (x : Watch) → x.waits ≡ [] → NoneOnCircle x
none-waiting x empty u (at_once h) = absurd (subst (In h.0) empty h.1)
none-waiting x empty u (onward h r) = absurd (subst (In h.0) empty h.1)
