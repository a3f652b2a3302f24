-- Sources and due programs of lists of pairs, computed; and a unit lies on a cycle where the graph's edges lead back to it.
use Rattle.law_states.proofs.Closures.{any-in, into-any}
use Rattle.law_states.proofs.Widening.{come-all, come-in, come-old}
use Rattle.law_states.specs.KeptSources.{IsDue, Through, itself, through}
use Rattle.law_states.specs.Members.{In}
use Rattle.law_states.specs.PairClosures.{Leads, LeadsBack, Pair, all_sources, dependencies_of, due_in, has_pair, here, on, sources_of}
use Rattle.law_story.proofs.Ids.{and_left, and_right, is_same_id-refl, is_same_id-true}
use Rattle.law_story.proofs.Lists.{all-in, either, has-in, in-filter, in-has, in-map, into-all, into-filter}
use Rattle.salt_model.specs.Waiting.{WaitUnit, edges_in, is_on_cycle, names_of}
use Rattle.salt_model.specs.Words.{widened}
use Rattle.salt_values.specs.Id.{has_id}
use Rattle.salt_model.specs.declared.places.Place.{Place}
use Rattle.salt_values.specs.Id.{is_same_id}
use Rattle.salt_values.specs.declared.id.Id.{Id}
use Rattle.std.proofs.Common.{ap, inl, inr, subst, sym}
use Rattle.std.specs.List.{filter, list_all}
use Rattle.std.specs.Prelude.{Bool, IsTrue, List, Option, [], cond, false, length, map, refl, suc, true, ◌&&◌, ◌↔◌, ◌∷◌, ◌≡◌, ◌⊎◌}

-- pairs as steps
pair-step : (pairs : List Pair) (x y : Id) → has_pair pairs x y ≡ true → In y (sources_of pairs x)
pair-step pairs x y h =
    let m = any-in (λ (p : Pair). is_same_id x p.reader && is_same_id y p.source) pairs h in
    subst (λ z. In z (sources_of pairs x)) (sym (is_same_id-true y m.0.source (and_right (is_same_id x m.0.reader) _ m.2))) (mapped m.0 (filter (λ p. is_same_id x p.reader) pairs) (into-filter (λ p. is_same_id x p.reader) m.0 pairs m.1 (and_left (is_same_id x m.0.reader) _ m.2)))
  where
    mapped : (p : Pair) (ps : List Pair) → In p ps → In p.source (map (λ p. p.source) ps)
    mapped p [] i = absurd i
    mapped p (q ∷ ps) (inl e) = inl (ap (λ (x : Pair). x.source) e)
    mapped p (q ∷ ps) (inr i) = inr (mapped p ps i)

step-pair : (pairs : List Pair) (x y : Id) → In y (sources_of pairs x) → (p : Pair) × In p pairs × (is_same_id x p.reader ≡ true) × (p.source ≡ y)
step-pair pairs x y h =
    let m = in-map (λ (p : Pair). p.source) y (filter (λ p. is_same_id x p.reader) pairs) h in
    let i = in-filter (λ (p : Pair). is_same_id x p.reader) m.0 pairs m.1 in
    (m.0, i.0, i.1, m.2)

pair-test : (pairs : List Pair) (x y : Id) → In y (sources_of pairs x) → has_pair pairs x y ≡ true
pair-test pairs x y h =
    let m = step-pair pairs x y h in
    into-any (λ (p : Pair). is_same_id x p.reader && is_same_id y p.source) m.0 pairs m.1
    (rw m.2 (subst (λ z. is_same_id y z ≡ true) (sym m.3) (is_same_id-refl y)))

pairs-lead : (pairs : List Pair) (b c : Id) → Through (has_pair pairs) b c → Leads (sources_of pairs) b c
pairs-lead pairs b c itself = here
pairs-lead pairs b c (through {c = x} h r) = on (pair-step pairs b x h) (pairs-lead pairs x c r)

lead-pairs : (pairs : List Pair) (b c : Id) → Leads (sources_of pairs) b c → Through (has_pair pairs) b c
lead-pairs pairs b c here = itself
lead-pairs pairs b c (on {b = x} i r) = through (pair-test pairs b x i) (lead-pairs pairs x c r)

-- the sources of pairs: names of their steps
abbrev named : List Pair → List Id
named pairs = map (λ p. p.source) pairs

step-named : (pairs : List Pair) (x y : Id) → In y (sources_of pairs x) → In y (map (λ p. p.source) pairs)
step-named pairs x y h = let m = step-pair pairs x y h in subst (λ z. In z (map (λ p. p.source) pairs)) m.3 (mapped m.0 pairs m.1)
  where
    mapped : (p : Pair) (ps : List Pair) → In p ps → In p.source (map (λ p. p.source) ps)
    mapped p [] i = absurd i
    mapped p (q ∷ ps) (inl e) = inl (ap (λ (x : Pair). x.source) e)
    mapped p (q ∷ ps) (inr i) = inr (mapped p ps i)

length-map : {A B : Type 0} (f : A → B) (xs : List A) → length (map f xs) ≡ length xs
length-map f [] = refl
length-map f (x ∷ xs) = ap suc (length-map f xs)

last-named : (pairs : List Pair) (b c : Id) → Leads (sources_of pairs) b c → (b ≡ c) ⊎ In c (map (λ p. p.source) pairs)
last-named pairs b c here = inl refl
last-named pairs b c (on {b = x} i r) =
    either (λ e. inr (subst (λ y. In y (map (λ p. p.source) pairs)) e (step-named pairs b x i))) (λ n. inr n) (last-named pairs x c r)

-- the computed sources are those that one comes to
pub all_sources-exact : (pairs : List Pair) (b c : Id) → In c (all_sources pairs b) ↔ Through (has_pair pairs) b c
all_sources-exact pairs b c = (
  (λ h. let r = come-in (sources_of pairs) (named pairs) (length pairs) c (b ∷ []) h in lead-pairs pairs b c (either (λ e. subst (λ x. Leads (sources_of pairs) x c) (sym e) r.2) (λ x. absurd x) r.1)),
  (λ r. back (pairs-lead pairs b c r)),
)
  where
    back : Leads (sources_of pairs) b c → In c (widened (sources_of pairs) (length pairs) (b ∷ []))
    back r = either
        (λ e. subst (λ y. In y (widened (sources_of pairs) (length pairs) (b ∷ []))) e (come-old (sources_of pairs) (named pairs) (length pairs) b (b ∷ []) (inl refl)))
        (λ i. subst (λ n. In c (widened (sources_of pairs) n (b ∷ []))) (length-map (λ (p : Pair). p.source) pairs) (come-all (sources_of pairs) (named pairs) (λ x y z p q. step-named pairs x y p) (b ∷ []) b c (inl refl) r i))
        (last-named pairs b c r)

-- and the due ones those that are due
pub due_in-exact : (writer : Place → Option Id) (pairs : List Pair) (finished : List Id) (b : Id) →
    In b (due_in pairs finished) ↔ IsDue (dependencies_of writer pairs finished) b
due_in-exact writer pairs finished b = (
  (λ h. let m = in-filter test b finished h in record { finished = in-has b finished m.0; sources = λ c r. all-in (λ c. has_id c finished) c (all_sources pairs b) m.1 ((all_sources-exact pairs b c).1 r) }),
  (λ d. into-filter test b finished (has-in b finished d.finished) (into-all (λ c. has_id c finished) (all_sources pairs b) (λ c i. d.sources c ((all_sources-exact pairs b c).0 i)))),
)
  where
    test : Id → Bool
    test b = list_all (λ c. has_id c finished) (all_sources pairs b)

-- CYCLES

-- a unit with an edge is one of the graph
edge-named : (graph : List WaitUnit) (x y : Id) → In y (edges_in graph x) → In x (names_of graph)
edge-named [] x y h = absurd h
edge-named (w ∷ ws) x y h = by (is_same_id x w.unit) refl (edge-named ws x y) h
  where
    by : (t : Bool) → is_same_id x w.unit ≡ t → (In y (edges_in ws x) → In x (names_of ws)) → In y (cond t w.edges (edges_in ws x)) →
        In x (w.unit ∷ names_of ws)
    by true e more i = inl (sym (is_same_id-true x w.unit e))
    by false e more i = inr (more i)

in-names : (w : WaitUnit) (graph : List WaitUnit) → In w graph → In w.unit (names_of graph)
in-names w [] h = absurd h
in-names w (v ∷ ws) (inl e) = inl (ap (λ (x : WaitUnit). x.unit) e)
in-names w (v ∷ ws) (inr h) = inr (in-names w ws h)

-- the rounds of the definition find each way back
pub on-cycle : (graph : List WaitUnit) (w : WaitUnit) → In w graph → IsTrue (is_on_cycle graph w) ↔ LeadsBack graph w
on-cycle graph w i = (
  (λ h. come-in (edges_in graph) (names_of graph) (length graph) w.unit w.edges (has-in w.unit _ h)),
  (λ r. in-has w.unit _ (subst (λ n. In w.unit (widened (edges_in graph) n w.edges)) (length-map (λ (x : WaitUnit). x.unit) graph)
      (come-all (edges_in graph) (names_of graph) (λ x y z p q. edge-named graph y z q) w.edges r.0 w.unit r.1 r.2 (in-names w graph i)))),
)
