-- The victim of a list is that of the graph of the story.
use Rattle.law_states.specs.KeptWaits.{AreDistinct}
use Rattle.law_states.specs.PairClosures.{Leads, here, on}
use Rattle.law_story.proofs.Ids.{is_same_id-refl, is_same_id-true}
use Rattle.law_story.proofs.Lists.{In, into-map, or_cases, or_left_true, or_right_true}
use Rattle.salt_model.specs.Waiting.{edges_in}
use Rattle.salt_values.specs.Id.{is_same_id}
use Rattle.salt_values.specs.declared.id.Id.{Id}
use Rattle.salt_waits.proofs.Circles.{listed, place_of}
use Rattle.salt_waits.specs.Victims.{WaitsFor, at_once, graph_of, through}
use Rattle.salt_waits.specs.declared.units.WaitUnit.{WaitUnit}
use Rattle.std.specs.List.{list_any}
use Rattle.std.proofs.Common.{⊎_elim, Bool, Contains, List, Some, [], ap, cond, false, inl, inr, map, refl, slice_get, subst, suc, sym, true, zero, ℕ, ◌∷◌, ◌≡◌, ◌∙◌, ◌⊎◌}

-- members by place and by equation

at_place : {X : Type 0} (xs : List X) (x : X) (at : ℕ) → slice_get xs at ≡ Some x → In x xs
at_place [] x at e = absurd (cc e)
at_place (y ∷ ys) x zero e = inl (cc e)
at_place (y ∷ ys) x (suc at) e = inr (at_place ys x at e)

place_in : {X : Type 0} (xs : List X) (x : X) → In x xs → (at : ℕ) × (slice_get xs at ≡ Some x)
place_in [] x h = absurd h
place_in (y ∷ ys) x (inl e) = (zero, ap Some e)
place_in (y ∷ ys) x (inr h) = let at = place_in ys x h in (suc at.0, at.1)

pub into : {X : Type 0} (xs : List X) (x : X) → Contains xs x → In x xs
into xs x h = let at = place_of xs x h in at_place xs x at.0 at.1

pub from_in : {X : Type 0} (xs : List X) (x : X) → In x xs → Contains xs x
from_in xs x h = let at = place_in xs x h in listed xs at.0 x at.1

-- a name among edges, by test and as a fact

named_among : (n : Id) (es : List Id) → list_any (λ e. is_same_id e n) es ≡ true → In n es
named_among n [] h = absurd (cc h)
named_among n (e ∷ es) h = ⊎_elim (λ same. inl (is_same_id-true e n same)) (λ more. inr (named_among n es more)) (or_cases (is_same_id e n) _ h)

among_named : (n : Id) (es : List Id) → In n es → list_any (λ e. is_same_id e n) es ≡ true
among_named n [] h = absurd h
among_named n (e ∷ es) (inl same) = or_left_true (is_same_id e n) _ (subst (λ x. is_same_id x n ≡ true) (sym same) (is_same_id-refl n))
among_named n (e ∷ es) (inr h) = or_right_true (is_same_id e n) _ (among_named n es h)

-- what the graph has at a name: nothing, or the edges of the first unit of this name
at_name : (list : List WaitUnit) (n : Id) → (edges_in (graph_of list) n ≡ []) ⊎ ((u : WaitUnit) × In u list × (u.unit ≡ n) × (edges_in (graph_of list) n ≡ u.edges))
at_name [] n = inl refl
at_name (u ∷ us) n = by (at_name us n) (is_same_id n u.unit) refl
  where
    by : (edges_in (graph_of us) n ≡ []) ⊎ ((v : WaitUnit) × In v us × (v.unit ≡ n) × (edges_in (graph_of us) n ≡ v.edges)) → (b : Bool) → is_same_id n u.unit ≡ b
        → (cond b u.edges (edges_in (graph_of us) n) ≡ []) ⊎ ((v : WaitUnit) × In v (u ∷ us) × (v.unit ≡ n) × (cond b u.edges (edges_in (graph_of us) n) ≡ v.edges))
    by more true e = inr (u, inl refl, sym (is_same_id-true n u.unit e), refl)
    by (inl none) false e = inl none
    by (inr found) false e = inr (found.0, inr found.1, found.2, found.3)

-- where names are distinct a unit's edges stand at its name
own_edges : (list : List WaitUnit) → AreDistinct (map (λ (u : WaitUnit). u.unit) list) → (u : WaitUnit) → In u list → edges_in (graph_of list) u.unit ≡ u.edges
own_edges [] distinct u h = absurd h
own_edges (v ∷ vs) distinct u h = by (own_edges vs (distinct.1) u) (is_same_id u.unit v.unit) refl h
  where
    by : (In u vs → edges_in (graph_of vs) u.unit ≡ u.edges) → (b : Bool) → is_same_id u.unit v.unit ≡ b → In u (v ∷ vs) → cond b v.edges (edges_in (graph_of vs) u.unit) ≡ u.edges
    by more b e (inl same) = ap (λ t. cond t v.edges (edges_in (graph_of vs) u.unit)) (sym e ∙ subst (λ x. is_same_id x.unit v.unit ≡ true) same (is_same_id-refl v.unit)) ∙ ap (λ (x : WaitUnit). x.edges) same
    by more true e (inr h) = absurd (distinct.0 (subst (λ n. In n (map (λ (u : WaitUnit). u.unit) vs)) (is_same_id-true u.unit v.unit e) (into-map (λ (u : WaitUnit). u.unit) u vs h)))
    by more false e (inr h) = more h

pub leads_waits : (list : List WaitUnit) (u w : WaitUnit) → In u list → In w list → {n : Id} → In n u.edges → Leads (edges_in (graph_of list)) n w.unit → WaitsFor list u w
leads_waits list u w in_u in_w {n} h here = at_once (from_in list u in_u) (from_in list w in_w) (among_named w.unit u.edges h)
leads_waits list u w in_u in_w {n} h (on {b = b} step more) = by (λ v in_v next. leads_waits list v w in_v in_w next more) (at_name list n)
  where
    by : ((v : WaitUnit) → In v list → In b v.edges → WaitsFor list v w) → (edges_in (graph_of list) n ≡ []) ⊎ ((v : WaitUnit) × In v list × (v.unit ≡ n) × (edges_in (graph_of list) n ≡ v.edges)) → WaitsFor list u w
    by rest (inl none) = absurd (subst (In b) none step)
    by rest (inr v) = through (from_in list u in_u) (from_in list v.0 v.1) (among_named v.0.unit u.edges (subst (λ x. In x u.edges) (sym v.2) h)) (rest v.0 v.1 (subst (In b) v.3 step))

pub waits_leads : (list : List WaitUnit) → AreDistinct (map (λ (u : WaitUnit). u.unit) list) → {u w : WaitUnit} → WaitsFor list u w → (n : Id) × In n u.edges × Leads (edges_in (graph_of list)) n w.unit
waits_leads list distinct {u = u} {w = w} (at_once in_u in_w named) = (w.unit, named_among w.unit u.edges named, here)
waits_leads list distinct {u = u} (through {v = v} in_u in_v named more) =
    let rest = waits_leads list distinct more in
    (v.unit, named_among v.unit u.edges named, on (subst (In rest.0) (sym (own_edges list distinct v (into list v in_v))) rest.1) rest.2)
