-- Edges lead from a place back to it exactly where the unit at this place waits for itself.
use Rattle.salt_waits.specs.Graphs.{Graph, HasEdge, InRange, IsGraphOf, Leads, at_once, through}
use Rattle.salt_waits.specs.Victims.{IsOnCycle, WaitsFor, names}
use Rattle.salt_waits.specs.Victims as victims
use Rattle.salt_waits.specs.declared.units.WaitUnit.{WaitUnit}
use Rattle.std.proofs.Common.{Contains, IsTrue, List, Some, [], ap, arith, get_or, length, refl, slice_get, subst, suc, sym, zero, ℕ, ◌<◌, ◌∷◌, ◌↔◌, ◌≡◌, ◌∙◌}
use Rattle.std.proofs.lemmas.List.{get_or_default}
use Rattle.std.proofs.lemmas.Option.{get_or_from_slice_get, slice_get-get_or, slice_get_within}

-- an item of a list stands at a place
pub place_of : {X : Type 0} (xs : List X) (x : X) → Contains xs x → (at : ℕ) × (slice_get xs at ≡ Some x)
place_of xs x h = (h.0, slice_get-get_or xs h.0 x h.1 ∙ ap Some h.2)

pub listed : {X : Type 0} (xs : List X) (at : ℕ) (x : X) → slice_get xs at ≡ Some x → Contains xs x
listed xs at x is = (at, slice_get_within xs at x is, get_or_from_slice_get xs at x x is)

-- at a place below the length stands an item
item_at : {X : Type 0} (xs : List X) (at : ℕ) → at < length xs → (x : X) × (slice_get xs at ≡ Some x)
item_at [] at below = absurd (omega (arith, below))
item_at (x ∷ xs) zero below = (x, refl)
item_at (x ∷ xs) (suc at) below = item_at xs at (omega (arith, below))

pub same_item : {X : Type 0} (x y : X) → Some x ≡ Some y → x ≡ y
same_item x y e = cc e

-- an edge of a place leads to a unit that the one at this place names
named_at : (list : List WaitUnit) (g : Graph) → IsGraphOf list g → (i j : ℕ) (u : WaitUnit) → slice_get list i ≡ Some u → HasEdge g i j → (v : WaitUnit) × (slice_get list j ≡ Some v) × IsTrue (names u v)
named_at list g is i j u at edge = let named = (is.1 i u edge.0 at edge.1).only j edge.2 in (named.0, named.2, named.3)

edge_at : (list : List WaitUnit) (g : Graph) → IsGraphOf list g → (i j : ℕ) (u v : WaitUnit) → slice_get list i ≡ Some u → slice_get list j ≡ Some v → IsTrue (names u v) → HasEdge g i j
edge_at list g is i j u v at_u at_v named =
    let below = slice_get_within list i u at_u in
    let row = item_at g i (omega (arith, below, is.0)) in
    (row.0, row.1, (is.1 i u row.0 at_u row.1).all j v (slice_get_within list j v at_v) at_v named)

leads_waits : (list : List WaitUnit) (g : Graph) → IsGraphOf list g → {i j : ℕ} (u : WaitUnit) → slice_get list i ≡ Some u → Leads g i j → (v : WaitUnit) × (slice_get list j ≡ Some v) × WaitsFor list u v
leads_waits list g is {i = i} {j = j} u at (at_once edge) =
    let next = named_at list g is i j u at edge in
    (next.0, next.1, victims.at_once (listed list i u at) (listed list j next.0 next.1) next.2)
leads_waits list g is {i = i} u at (through {b = b} edge more) =
    let next = named_at list g is i b u at edge in
    let last = leads_waits list g is next.0 next.1 more in
    (last.0, last.1, victims.through (listed list i u at) (listed list b next.0 next.1) next.2 last.2)

waits_leads : (list : List WaitUnit) (g : Graph) → IsGraphOf list g → {u v : WaitUnit} (i j : ℕ) → slice_get list i ≡ Some u → slice_get list j ≡ Some v → WaitsFor list u v → Leads g i j
waits_leads list g is {u = u} {v = v} i j at_u at_v (victims.at_once in_u in_v named) = at_once (edge_at list g is i j u v at_u at_v named)
waits_leads list g is {u = u} i j at_u at_v (victims.through {v = w} in_u in_w named more) =
    let k = place_of list w in_w in
    through (edge_at list g is i k.0 u w at_u k.1 named) (waits_leads list g is k.0 j k.1 at_v more)

pub circles : (list : List WaitUnit) (g : Graph) → IsGraphOf list g → (at : ℕ) (u : WaitUnit) → slice_get list at ≡ Some u → Leads g at at ↔ IsOnCycle list u
circles list g is at u at_u = (λ leads. let back = leads_waits list g is u at_u leads in record { listed = listed list at u at_u; back = subst (WaitsFor list u) (same_item back.0 u (sym back.1 ∙ at_u)) back.2 }, λ on. waits_leads list g is at at at_u at_u on.back)

-- the edges of a graph of units lead to its places
pub in_range : (list : List WaitUnit) (g : Graph) → IsGraphOf list g → InRange g (length g)
in_range list g is k d below m e within =
    let u = item_at list k (omega (arith, below, is.0)) in
    let row = slice_get-get_or g k d below in
    let named = (is.1 k u.0 (get_or g k d) u.1 row).only (get_or (get_or g k d).items m e) (m, within, get_or_default (get_or g k d).items m (get_or (get_or g k d).items m e) e within) in
    omega (arith, named.1, is.0)
