-- When settling has ended each waiting unit clashes, and no cycle is left.
use Rattle.law_states.proofs.Askers.{all-ask, asked-asks, asked-turns, wait-waiting}
use Rattle.law_states.proofs.LocksAfter.{held-asks, held-turns}
use Rattle.law_states.specs.KeptWaits.{IsSettled, asker, waiting}
use Rattle.law_states.specs.Members.{In}
use Rattle.law_story.proofs.Coming.{neither}
use Rattle.law_story.proofs.Lists.{into-filter}
use Rattle.law_story.proofs.NextFits.{find-in, wait-open}
use Rattle.law_story.proofs.Sound.{none-open, none-open-early}
use Rattle.law_story.proofs.Upheld.{OfBoots, holds, may-fit}
use Rattle.salt_ast.specs.declared.trees.Statement.{Statement}
use Rattle.salt_model.specs.After.{reach_now}
use Rattle.salt_model.specs.Locks.{clash_locks, clashes, clashing, family_of, owners_of}
use Rattle.salt_model.specs.Next.{next, said_event}
use Rattle.salt_model.specs.Phases.{Serving, phase}
use Rattle.salt_model.specs.Played.{IsPlayed}
use Rattle.salt_model.specs.Trace.{Asked, Trace, from, start_of, ◌asks◌, ◌says◌, ◌turns◌}
use Rattle.salt_model.specs.Turns.{does, does_next, follow, settle, settle_by}
use Rattle.salt_model.specs.Units.{is_open, kind_of, wait_list}
use Rattle.salt_model.specs.Waiting.{WaitUnit, asked_by, clashing_now, edges_to, is_acid, is_on_cycle, names_of, next_unblocked, victim, victim_of, wait_graph, wait_unit}
use Rattle.salt_model.specs.Words.{Every, greatest, is_empty}
use Rattle.salt_model.specs.declared.events.Event.TheVariants.{Down, Early, Opened, Ready}
use Rattle.salt_model.specs.declared.events.Owner.{Owner}
use Rattle.salt_model.specs.declared.events.Owner.TheVariants.{Base, Unit}
use Rattle.salt_model.specs.declared.locks.Lock.{Lock}
use Rattle.salt_model.specs.declared.locks.Reach.{Reach}
use Rattle.salt_values.specs.Id.{is_older}
use Rattle.salt_values.specs.declared.id.Id.{Id}
use Rattle.std.proofs.Common.{ap, inl, inr, subst, sym, ◌∙◌}
use Rattle.std.specs.List.{filter, find, flat_map}
use Rattle.std.specs.Prelude.{Bool, List, None, Option, Some, [], cond, false, is_some, map, option_map, refl, true, ◌++◌, ◌∷◌, ◌≡◌}

find-same : {A : Type 0} (p q : A → Bool) (xs : List A) → ((x : A) → In x xs → p x ≡ q x) → find p xs ≡ find q xs
find-same p q [] h = refl
find-same p q (x ∷ xs) h = λ i. cond (h x (inl refl) i) (Some x) (find-same p q xs (λ y m. h y (inr m)) i)

map-same : {A B : Type 0} (f g : A → B) (xs : List A) → ((x : A) → In x xs → f x ≡ g x) → map f xs ≡ map g xs
map-same f g [] h = refl
map-same f g (x ∷ xs) h = λ i. h x (inl refl) i ∷ map-same f g xs (λ y m. h y (inr m)) i

flat-same : (f g : Owner → List Id) → ((o : Owner) → f o ≡ g o) → (xs ys : List Owner) → xs ≡ ys → flat_map f xs ≡ flat_map g ys
flat-same f g h xs ys e = one xs ∙ ap (flat_map g) e
  where
    one : (xs : List Owner) → flat_map f xs ≡ flat_map g xs
    one [] = refl
    one (x ∷ xs) = λ i. h x i ++ one xs i

-- a line and a turn of `go all` leave who waits for whom
abbrev Alike : Trace → Trace → Type 0
Alike here trace =
    (wait_list here ≡ wait_list trace) × ((u : Id) → In u (wait_list trace) → clashing_now here u ≡ clashing_now trace u) ×
    ((o : Owner) → edges_to here o ≡ edges_to trace o) × ((u : Id) → is_acid here u ≡ is_acid trace u)

alike-victim : (here trace : Trace) → Alike here trace → victim here ≡ victim trace
alike-victim here trace a =
    ap victim_of (ap (map (wait_unit here)) a.0 ∙ map-same (wait_unit here) (wait_unit trace) (wait_list trace) (λ u m. λ i. record { unit = u; acid = a.3 u i; edges = flat-same (edges_to here) (edges_to trace) a.2 (clashing_now here u) (clashing_now trace u) (a.1 u m) i }))

alike-served : (here trace : Trace) → Alike here trace → next_unblocked here ≡ next_unblocked trace
alike-served here trace a = ap (find (λ u. is_empty (clashing_now here u))) a.0 ∙ find-same _ _ (wait_list trace) (λ u m. ap is_empty (a.1 u m))

now-same : (here trace : Trace) (u : Id) → asked_by u here ≡ asked_by u trace → ((st : Statement) → clashing here u st ≡ clashing trace u st) →
    clashing_now here u ≡ clashing_now trace u
now-same here trace u e h = ap (λ (o : Option Statement). elim o [ None ↦ [] | Some st ↦ clashing here u st ]) e ∙ by (asked_by u trace)
  where
    by : (o : Option Statement) → ◌≡◌ {A = List Owner} (elim o [ None ↦ [] | Some st ↦ clashing here u st ]) (elim o [ None ↦ [] | Some st ↦ clashing trace u st ])
    by None = refl
    by (Some st) = h st

alike-asks : (trace : Trace) (asked : Asked) → IsPlayed trace → OfBoots (start_of trace).kept → Alike (trace asks asked) trace
alike-asks trace asked p w =
    (refl, (λ u m. now-same (trace asks asked) trace u (asked-asks trace asked u (wait-waiting trace p w u m)) (λ st. clash u (reach_now u trace st))), edges, (λ u. refl))
  where
    clash : (u : Id) (r : Option Reach) → owners_of (clash_locks (trace asks asked) u (kind_of u trace) r) ≡ owners_of (clash_locks trace u (kind_of u trace) r)
    clash u None = refl
    clash u (Some r) = ap (λ (ls : List Lock). owners_of (filter (clashes (Unit u) (family_of (kind_of u trace)) r) ls)) (held-asks trace asked)

    edges : (o : Owner) → edges_to (trace asks asked) o ≡ edges_to trace o
    edges (Unit v) = refl
    edges (Base c) = refl

alike-turns : (trace : Trace) (b : Id) → IsPlayed trace → OfBoots (start_of trace).kept → Alike (trace turns b) trace
alike-turns trace b p w =
    (refl, (λ u m. now-same (trace turns b) trace u (asked-turns trace b u (wait-waiting trace p w u m)) (λ st. clash u (reach_now u trace st))), edges, (λ u. refl))
  where
    clash : (u : Id) (r : Option Reach) → owners_of (clash_locks (trace turns b) u (kind_of u trace) r) ≡ owners_of (clash_locks trace u (kind_of u trace) r)
    clash u None = refl
    clash u (Some r) = ap (λ (ls : List Lock). owners_of (filter (clashes (Unit u) (family_of (kind_of u trace)) r) ls)) (held-turns trace b)

    edges : (o : Owner) → edges_to (trace turns b) o ≡ edges_to trace o
    edges (Unit v) = refl
    edges (Base c) = refl

-- what settling leaves
settles : (trace : Trace) → Every (λ w. is_some w.asked ≡ true) (waiting trace) → settle trace ≡ None →
    (victim trace ≡ None) × (next_unblocked trace ≡ None)
settles trace h e = by (victim trace) (next_unblocked trace) refl refl e
  where
    asks-some : (us : List Id) (u : Id) → Every (λ w. is_some w.asked ≡ true) (map (asker trace) us) → In u us → is_some (asked_by u trace) ≡ true
    asks-some [] u h m = absurd m
    asks-some (v ∷ us) u h (inl e) = subst (λ x. is_some (asked_by x trace) ≡ true) e h.0
    asks-some (v ∷ us) u h (inr m) = asks-some us u h.1 m

    served : (u : Id) → next_unblocked trace ≡ Some u → does_next trace u ≡ None → ⊥
    served u s n = go (asked_by u trace) (asks-some (wait_list trace) u h (find-in (λ u. is_empty (clashing_now trace u)) u (wait_list trace) s).0) n
      where
        go : (o : Option Statement) → is_some o ≡ true → option_map (does trace u) o ≡ None → ⊥
        go None i q = cc
        go (Some st) i q = cc

    by : (v s : Option Id) → victim trace ≡ v → next_unblocked trace ≡ s → settle_by trace v s ≡ None →
        (victim trace ≡ None) × (next_unblocked trace ≡ None)
    by (Some u) s p q e = cc
    by None (Some u) p q e = absurd (served u q e)
    by None None p q e = (p, q)

none-waits : (trace : Trace) → ((u : Id) → is_open trace u ≡ true → ⊥) → (us : List Id) → wait_list trace ≡ us →
    (victim trace ≡ None) × (next_unblocked trace ≡ None)
none-waits trace n [] e = (ap (λ us. victim_of (map (wait_unit trace) us)) e, ap (find (λ u. is_empty (clashing_now trace u))) e)
none-waits trace n (u ∷ us) e = absurd (n u (wait-open trace u (subst (In u) (sym e) (inl refl))))

none-next : (trace : Trace) → IsPlayed trace → OfBoots (start_of trace).kept → phase trace ≡ Serving → next trace ≡ None →
    (victim trace ≡ None) × (next_unblocked trace ≡ None)
none-next (from k) p w s n = cc
none-next (trace asks asked) p w s n =
    let h = none-next trace p.0 w p.1.0 p.1.1 in
    let a = alike-asks trace asked p.0 w in
    (alike-victim (trace asks asked) trace a ∙ h.0, alike-served (trace asks asked) trace a ∙ h.1)
none-next (trace turns b) p w s n =
    let h = none-next trace p.0 w p.1 p.2 in
    let a = alike-turns trace b p.0 w in
    (alike-victim (trace turns b) trace a ∙ h.0, alike-served (trace turns b) trace a ∙ h.1)
none-next (trace says Down why) p w s n = cc
none-next (trace says Opened boot m) p w s n = cc
none-next (trace says Ready) p w s n =
    let k = holds trace p.0 w in none-waits (trace says Ready) (none-open trace k.sound (may-fit trace Ready k.comes p.1)) (wait_list trace) refl
none-next (trace says Early bs) p w s n =
    let k = holds trace p.0 w in
    none-waits (trace says Early bs) (none-open-early trace bs k.sound (may-fit trace (Early bs) k.comes p.1)) (wait_list trace) refl
none-next (trace says e) p w s n =
    settles (trace says e) (all-ask (trace says e) p w)
    (neither (follow (trace says e) e) (settle (trace says e)) (subst (λ q. said_event q (trace says e) e ≡ None) s n)).1

-- no victim: no unit on a cycle
greatest-none : (us : List Id) → greatest us ≡ None → us ≡ []
greatest-none [] h = refl
greatest-none (u ∷ us) h = by (greatest us) h
  where
    by : (o : Option Id) → ◌≡◌ {A = Option Id} (elim o [ None ↦ Some u | Some v ↦ Some (cond (is_older u v) v u) ]) None → u ∷ us ≡ []
    by None g = cc
    by (Some v) g = cc

no-cycle : (graph : List WaitUnit) → victim_of graph ≡ None → (w : WaitUnit) → In w graph → is_on_cycle graph w ≡ false
no-cycle graph h w i = by (is_on_cycle graph w) refl
  where
    names-none : (ws : List WaitUnit) → names_of ws ≡ [] → In w ws → ⊥
    names-none [] e m = m
    names-none (x ∷ ws) e m = cc

    by : (b : Bool) → is_on_cycle graph w ≡ b → b ≡ false
    by false e = refl
    by true e =
        absurd (names-none (filter (is_on_cycle graph) graph) (greatest-none _ (neither (greatest (names_of (filter (λ w. w.acid) (filter (is_on_cycle graph) graph)))) _ h).1) (into-filter (is_on_cycle graph) w graph i e))

find-none : {A : Type 0} (p : A → Bool) (xs : List A) → find p xs ≡ None → (x : A) → In x xs → p x ≡ false
find-none p [] h x m = absurd m
find-none {A = A} p (y ∷ ys) h x m = by (p y) refl h m (find-none p ys)
  where
    by : (b : Bool) → p y ≡ b → cond b (Some y) (find p ys) ≡ None → In x (y ∷ ys) → (find p ys ≡ None → (x : A) → In x ys → p x ≡ false) →
        p x ≡ false
    by true e g m more = cc
    by false e g (inl s) more = subst (λ z. p z ≡ false) s e
    by false e g (inr m) more = more g x m

pub settled : (trace : Trace) → IsPlayed trace → OfBoots (start_of trace).kept → phase trace ≡ Serving → next trace ≡ None → IsSettled trace
settled trace p w s n =
    let h = none-next trace p w s n in
    record {
      clash = find-none (λ u. is_empty (clashing_now trace u)) (wait_list trace) h.1;
      ask = λ u i. each (wait_list trace) u (all-ask trace p w) i;
      no_cycle = no-cycle (wait_graph trace) h.0;
    }
  where
    each : (us : List Id) (u : Id) → Every (λ w. is_some w.asked ≡ true) (map (asker trace) us) → In u us → is_some (asked_by u trace) ≡ true
    each [] u h m = absurd m
    each (v ∷ us) u h (inl e) = subst (λ x. is_some (asked_by x trace) ≡ true) e h.0
    each (v ∷ us) u h (inr m) = each us u h.1 m
