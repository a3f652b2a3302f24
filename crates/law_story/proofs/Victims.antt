-- The victim is the youngest unit on a cycle of the waiting units.
use Rattle.law_story.proofs.Fresh.{or_left, or_right}
use Rattle.law_story.proofs.Ids.{is_same_id-refl, is_same_id-true}
use Rattle.law_story.proofs.Lists.{In, either, filter-short, has-in, in-filter, in-has, in-map, into-filter, into-map}
use Rattle.law_story.proofs.NextFits.{greatest-in}
use Rattle.law_story.proofs.Widening.{Path, all-come, comes-by, here, onward}
use Rattle.law_story.specs.Cycles.{IsOnCycle, IsRightVictim, Leads, at_once, through}
use Rattle.salt_model.specs.Trace.{Trace}
use Rattle.salt_model.specs.Units.{wait_list}
use Rattle.salt_model.specs.Waiting.{WaitUnit, edges_in, is_acid, is_on_cycle, names_of, victim, wait_graph, wait_unit}
use Rattle.salt_model.specs.Words.{greatest}
use Rattle.salt_values.specs.Id.{has_id, without}
use Rattle.salt_values.specs.Id.{is_older, is_same_id}
use Rattle.salt_values.specs.declared.id.Id.{Id}
use Rattle.std.proofs.Common.{ap, arith, inl, inr, subst, sym, ◌∙◌}
use Rattle.std.proofs.lemmas.Bool.Decides.{nat_tests}
use Rattle.std.specs.List.{filter}
use Rattle.std.specs.Option.{option_or}
use Rattle.std.specs.Prelude.{Bool, List, None, Option, Some, [], cond, false, if◌then◌else◌, length, map, not, refl, true, ◌∷◌, ◌≡◌, ◌≤◌, ◌⊎◌}

-- names are in one order

younger-than : (a b c : Id) → is_older a b ≡ false → is_older c b ≡ true → is_older c a ≡ true
younger-than a b c h g = grind (arith, nat_tests)

apart : (a b : Id) → is_older a b ≡ false → is_same_id b a ≡ false → is_older b a ≡ true
apart a b h g = grind (arith, nat_tests)

not-older : (a b : Id) → is_older a b ≡ false → (is_older b a ≡ true) ⊎ (b ≡ a)
not-older a b h = by (is_same_id b a) refl
  where
    by : (t : Bool) → is_same_id b a ≡ t → (is_older b a ≡ true) ⊎ (b ≡ a)
    by true e = inr (is_same_id-true b a e)
    by false e = inl (apart a b h e)

greatest-none : (us : List Id) → greatest us ≡ None → us ≡ []
greatest-none [] h = refl
greatest-none (u ∷ us) h = by (greatest us) h
  where
    by : (o : Option Id) → ◌≡◌ {A = Option Id} (elim o [ None ↦ Some u | Some v ↦ Some (if is_older u v then v else u) ]) None → u ∷ us ≡ []
    by None e = cc
    by (Some v) e = cc

-- every name is older than the greatest, or is it
greatest-most : (us : List Id) (u v : Id) → greatest us ≡ Some u → In v us → (is_older v u ≡ true) ⊎ (v ≡ u)
greatest-most [] u v h i = absurd i
greatest-most (x ∷ us) u v h i = by (λ y e j. greatest-most us y v e j) (greatest us) refl h i
  where
    alone : greatest us ≡ None → x ≡ u → In v (x ∷ us) → (is_older v u ≡ true) ⊎ (v ≡ u)
    alone e s (inl g) = inr (sym g ∙ s)
    alone e s (inr j) = absurd (subst (In v) (greatest-none us e) j)

    pick : (y : Id) → (In v us → (is_older v y ≡ true) ⊎ (v ≡ y)) → (b : Bool) → is_older x y ≡ b → cond b y x ≡ u → In v (x ∷ us) → (is_older v u ≡ true) ⊎ (v ≡ u)
    pick y more true o s (inl g) = inl (subst (λ z. is_older z u ≡ true) g (subst (λ z. is_older x z ≡ true) s o))
    pick y more true o s (inr j) = subst (λ z. (is_older v z ≡ true) ⊎ (v ≡ z)) s (more j)
    pick y more false o s (inl g) = inr (sym g ∙ s)
    pick y more false o s (inr j) = subst (λ z. (is_older v z ≡ true) ⊎ (v ≡ z)) s (either (λ k. inl (younger-than x y v o k)) (λ k. subst (λ z. (is_older z x ≡ true) ⊎ (z ≡ x)) (sym k) (not-older x y o)) (more j))

    by : ((y : Id) → greatest us ≡ Some y → In v us → (is_older v y ≡ true) ⊎ (v ≡ y)) → (o : Option Id) → greatest us ≡ o →
        ◌≡◌ {A = Option Id} (elim o [ None ↦ Some x | Some y ↦ Some (if is_older x y then y else x) ]) (Some u) → In v (x ∷ us) → (is_older v u ≡ true) ⊎ (v ≡ u)
    by more None e g j = alone e (cc) j
    by more (Some y) e g j = pick y (more y e) (is_older x y) refl (cc) j

-- ways in a graph

no-edges : (graph : List WaitUnit) (u : Id) → has_id u (names_of graph) ≡ false → edges_in graph u ≡ []
no-edges [] u h = refl
no-edges (w ∷ ws) u h = rw (or_left (is_same_id u w.unit) _ h) (no-edges ws u (or_right (is_same_id u w.unit) _ h))

names-short : (graph : List WaitUnit) → length (names_of graph) ≤ length graph
names-short [] = omega arith
names-short (w ∷ ws) = let h = names-short ws in omega arith

module _ (graph : List WaitUnit) where
  leads-by : (u v w : Id) → In v (edges_in graph u) → Path (edges_in graph) v w → Leads graph u w
  leads-by u v w h here = at_once (in-has v _ h)
  leads-by u v w h (onward {v = x} g r) = through (in-has v _ h) (leads-by v x w g r)

  by-leads : (u w : Id) → Leads graph u w → (v : Id) × In v (edges_in graph u) × Path (edges_in graph) v w
  by-leads u w (at_once h) = (w, has-in w _ h, here)
  by-leads u w (through {v = v} h r) = let m = by-leads v w r in (v, has-in v _ h, onward m.1 m.2)

  -- a unit that leads anywhere waits
  waits : (u w : Id) → Leads graph u w → In u (names_of graph)
  waits u w r = by (has_id u (names_of graph)) refl
    where
      by : (b : Bool) → has_id u (names_of graph) ≡ b → In u (names_of graph)
      by true e = has-in u _ e
      by false e = let m = by-leads u w r in absurd (subst (In m.0) (no-edges graph u e) m.1)

  inner : (x y : Id) → In x (edges_in graph y) → In x (names_of graph) ⊎ (edges_in graph x ≡ [])
  inner x y h = by (has_id x (names_of graph)) refl
    where
      by : (b : Bool) → has_id x (names_of graph) ≡ b → In x (names_of graph) ⊎ (edges_in graph x ≡ [])
      by true e = inl (has-in x _ e)
      by false e = inr (no-edges graph x e)

  on-leads : (w : WaitUnit) → edges_in graph w.unit ≡ w.edges → is_on_cycle graph w ≡ true → Leads graph w.unit w.unit
  on-leads w e h =
      let m = comes-by (edges_in graph) (length graph) w.edges w.unit (has-in w.unit _ h) in
      leads-by w.unit m.0 w.unit (subst (In m.0) (sym e) m.1) m.2

  leads-on : (w : WaitUnit) → edges_in graph w.unit ≡ w.edges → Leads graph w.unit w.unit → is_on_cycle graph w ≡ true
  leads-on w e r =
      let m = by-leads w.unit w.unit r in
      let few : length (without w.edges (names_of graph)) ≤ length graph = let s = filter-short (λ u. not (has_id u w.edges)) (names_of graph) in let t = names-short graph in omega arith in
      in-has w.unit _ (all-come (edges_in graph) (names_of graph) inner (length graph) w.edges few m.0 w.unit (subst (In m.0) e m.1) m.2 (waits w.unit w.unit r))

-- the graph of a trace: what stands at a name

edges-of : (trace : Trace) (u : Id) (us : List Id) → In u us → edges_in (map (wait_unit trace) us) u ≡ (wait_unit trace u).edges
edges-of trace u [] i = absurd i
edges-of trace u (v ∷ us) i = by (edges-of trace u us) (is_same_id u v) refl i
  where
    by : (In u us → edges_in (map (wait_unit trace) us) u ≡ (wait_unit trace u).edges) → (b : Bool) → is_same_id u v ≡ b → In u (v ∷ us) → cond b (wait_unit trace v).edges (edges_in (map (wait_unit trace) us) u) ≡ (wait_unit trace u).edges
    by more true e i = ap (λ x. (wait_unit trace x).edges) (sym (is_same_id-true u v e))
    by more false e (inl g) = let s : is_same_id u u ≡ false = subst (λ x. is_same_id u x ≡ false) g e in let t = is_same_id-refl u in cc
    by more false e (inr j) = more j

module _ (trace : Trace) where
  abbrev on : List WaitUnit
  on = filter (is_on_cycle (wait_graph trace)) (wait_graph trace)

  abbrev acid_on : List WaitUnit
  acid_on = filter (λ w. w.acid) on

  unit-at : (w : WaitUnit) → In w (wait_graph trace) → (edges_in (wait_graph trace) w.unit ≡ w.edges) × (w.acid ≡ is_acid trace w.unit)
  unit-at w i =
      let m = in-map (wait_unit trace) w (wait_list trace) i in
      subst (λ x. (edges_in (wait_graph trace) x.unit ≡ x.edges) × (x.acid ≡ is_acid trace x.unit)) m.2 (edges-of trace m.0 (wait_list trace) m.1, refl)

  on-cycle : (u : Id) → In u (names_of on) → IsOnCycle trace u
  on-cycle u i =
      let m = in-map (λ (w : WaitUnit). w.unit) u on i in
      let f = in-filter (is_on_cycle (wait_graph trace)) m.0 (wait_graph trace) m.1 in
      subst (IsOnCycle trace) m.2 (on-leads (wait_graph trace) m.0 (unit-at m.0 f.0).0 f.1)

  cycle-unit : (u : Id) → IsOnCycle trace u → (w : WaitUnit) × In w on × (w.unit ≡ u) × (w.acid ≡ is_acid trace u)
  cycle-unit u r =
      let m = in-map (λ (w : WaitUnit). w.unit) u (wait_graph trace) (waits (wait_graph trace) u u r) in
      let a = unit-at m.0 m.1 in
      (m.0, into-filter (is_on_cycle (wait_graph trace)) m.0 (wait_graph trace) m.1 (leads-on (wait_graph trace) m.0 a.0 (subst (IsOnCycle trace) (sym m.2) r)), m.2, a.1 ∙ ap (is_acid trace) m.2)

  cycle-on : (u : Id) → IsOnCycle trace u → In u (names_of on)
  cycle-on u r = let w = cycle-unit u r in subst (λ x. In x (names_of on)) w.2 (into-map (λ (w : WaitUnit). w.unit) w.0 on w.1)

  acid-cycle : (u : Id) → In u (names_of acid_on) → IsOnCycle trace u × (is_acid trace u ≡ true)
  acid-cycle u i =
      let m = in-map (λ (w : WaitUnit). w.unit) u acid_on i in
      let f = in-filter (λ w. w.acid) m.0 on m.1 in
      let g = in-filter (is_on_cycle (wait_graph trace)) m.0 (wait_graph trace) f.0 in
      (on-cycle u (subst (λ x. In x (names_of on)) m.2 (into-map (λ (w : WaitUnit). w.unit) m.0 on f.0)), ap (is_acid trace) (sym m.2) ∙ sym (unit-at m.0 g.0).1 ∙ f.1)

  cycle-acid : (u : Id) → IsOnCycle trace u → is_acid trace u ≡ true → In u (names_of acid_on)
  cycle-acid u r a =
      let w = cycle-unit u r in
      subst (λ x. In x (names_of acid_on)) w.2 (into-map (λ (w : WaitUnit). w.unit) w.0 acid_on (into-filter (λ w. w.acid) w.0 on w.1 (w.3 ∙ a)))

  no-acid : names_of acid_on ≡ [] → (v : Id) → IsOnCycle trace v → is_acid trace v ≡ true → ⊥
  no-acid e v r a = subst (In v) e (cycle-acid v r a)

  pub victim-right : IsRightVictim trace (victim trace)
  victim-right = by (greatest (names_of acid_on)) refl (greatest (names_of on)) refl
    where
      by : (o : Option Id) → greatest (names_of acid_on) ≡ o → (p : Option Id) → greatest (names_of on) ≡ p → IsRightVictim trace (option_or o p)
      by (Some u) e p f =
          let mine = acid-cycle u (greatest-in u _ e) in
          record {
            on_cycle = mine.0;
            acid_first = λ v r a. mine.1;
            youngest = λ v r a. greatest-most (names_of acid_on) u v e (cycle-acid v r (a ∙ mine.1));
          }
      by None e (Some u) f = record {
        on_cycle = on-cycle u (greatest-in u _ f);
        acid_first = λ v r a. absurd (no-acid (greatest-none _ e) v r a);
        youngest = λ v r a. greatest-most (names_of on) u v f (cycle-on v r);
      }
      by None e None f = λ u r. subst (In u) (greatest-none _ f) (cycle-on u r)
