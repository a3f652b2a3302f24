-- What a value of `Deps` shows is what its parts keep: pairs are told as they are read.
use Rattle.law_states.specs.KeptSources.{Dependencies}
use Rattle.law_story.proofs.Ids.{is_same_id-true}
use Rattle.salt_deps.proofs.Leaving.{of-those}
use Rattle.salt_deps.proofs.Names.{same-at}
use Rattle.salt_deps.specs.Group.{is_mutual, reads_in}
use Rattle.salt_deps.specs.Kept.{dependencies, kept_of}
use Rattle.salt_deps.specs.Maps.{is_source, keys_in, sources_at}
use Rattle.salt_deps.specs.Shown.{ShownDeps, has_pair, pairs_among, pairs_by, pairs_in, pairs_read}
use Rattle.salt_deps.specs.declared.deps.Deps.{Deps}
use Rattle.salt_deps.specs.declared.group.Group.{Group}
use Rattle.salt_deps.specs.declared.readings.Readings.{Readings}
use Rattle.salt_model.specs.Tables.{place_cmp}
use Rattle.salt_model.specs.declared.places.Place.{Place}
use Rattle.salt_values.specs.Id.{has_id, is_same_id}
use Rattle.salt_values.specs.Order.{id_cmp}
use Rattle.salt_values.specs.declared.id.Id.{Id}
use Rattle.std.proofs.Common.{ap, subst, sym, ◌∙◌}
use Rattle.std.proofs.lemmas.List.Folds.{list_any-append}
use Rattle.std.specs.BTreeMap.{BTreeMap, get, is_at, keys}
use Rattle.std.specs.BTreeSet.{BTreeSet}
use Rattle.std.specs.List.{filter}
use Rattle.std.specs.Map.{keys_of, lookup}
use Rattle.std.specs.Prelude.{Bool, List, None, Some, [], cond, false, map, not, refl, true, ◌&&◌, ◌∷◌, ◌≡◌, ◌||◌}

spread : (a b c : Bool) → ((a && b) || (a && c)) ≡ (a && (b || c))
spread true b c = refl
spread false b c = refl

-- one program beside each of some
beside : (x y z : Id) (ys : List Id) → has_pair x y (map (λ w. (z, w)) ys) ≡ (is_same_id x z && has_id y ys)
beside x y z [] = by (is_same_id x z)
  where
    by : (a : Bool) → false ≡ (a && false)
    by true = refl
    by false = refl
beside x y z (w ∷ ys) = ap (λ t. (is_same_id x z && is_same_id y w) || t) (beside x y z ys) ∙ spread (is_same_id x z) (is_same_id y w) (has_id y ys)

has-pairs : (given : Id → List Id) (xs : List Id) (x y : Id) → has_pair x y (pairs_by given xs) ≡ (has_id x xs && has_id y (given x))
has-pairs given [] x y = refl
has-pairs given (z ∷ xs) x y =
    list_any-append (λ p. is_same_id x p.0 && is_same_id y p.1) (map (λ w. (z, w)) (given z)) (pairs_by given xs)
    ∙ (ap (λ t. t || has_pair x y (pairs_by given xs)) (beside x y z (given z))
    ∙ (ap (λ t. (is_same_id x z && has_id y (given z)) || t) (has-pairs given xs x y)
    ∙ by (is_same_id x z) (has_id x xs) refl))
  where
    absorbed : (a s : Bool) → (a || (s && a)) ≡ a
    absorbed true s = refl
    absorbed false true = refl
    absorbed false false = refl

    by : (t s : Bool) → is_same_id x z ≡ t → ((t && has_id y (given z)) || (s && has_id y (given x))) ≡ ((t || s) && has_id y (given x))
    by true s e = subst (λ w. (has_id y (given w) || (s && has_id y (given x))) ≡ has_id y (given x)) (is_same_id-true x z e) (absorbed (has_id y (given x)) s)
    by false s e = refl

neither : (a b : Bool) → (a || b) ≡ false → (a ≡ false) × (b ≡ false)
neither true b h = cc
neither false b h = (refl, h)

-- who is no key has no sources
unkeyed : (x : Id) (es : List (Id × BTreeSet Id)) → has_id x (keys_of es) ≡ false → lookup (is_at (id_cmp x)) es ≡ None
unkeyed x [] n = refl
unkeyed x (e ∷ es) n =
    let none = neither (is_same_id x e.0) (has_id x (keys_of es)) n in
    ap (λ t. cond t (Some e.1) (lookup (is_at (id_cmp x)) es)) (same-at x e.0 ∙ none.0) ∙ unkeyed x es none.1

read-shown : (sources : BTreeMap Id (BTreeSet Id)) (x y : Id) → has_pair x y (pairs_read sources) ≡ is_source sources x y
read-shown sources x y = has-pairs (sources_at sources) (keys sources) x y ∙ by (has_id x (keys sources)) refl
  where
    by : (t : Bool) → has_id x (keys sources) ≡ t → (t && has_id y (sources_at sources x)) ≡ is_source sources x y
    by true e = refl
    by false e = sym (ap (λ o. has_id y (keys_in o)) (unkeyed x sources.entries e))

among-shown : (g : Group) (x y : Id) → has_pair x y (pairs_among g) ≡ is_mutual g x y
among-shown g x y =
    has-pairs (λ z. filter (λ w. not (is_same_id w z)) g.sources.keys) g.readers.keys x y
    ∙ ap (λ t. has_id x g.readers.keys && t) (of-those (λ w. not (is_same_id w x)) y g.sources.keys)

reads-shown : (r : Readings) (x y : Id) → has_pair x y (pairs_in r) ≡ reads_in r x y
reads-shown r x y =
    list_any-append (λ p. is_same_id x p.0 && is_same_id y p.1) (pairs_read r.links.sources) (pairs_among r.group)
    ∙ (ap (λ t. t || has_pair x y (pairs_among r.group)) (read-shown r.links.sources x y)
    ∙ ap (λ t. is_source r.links.sources x y || t) (among-shown r.group x y))

abbrev pub shown : BTreeMap Place Id → Readings → List Id → ShownDeps
shown last readings finished = record { writers = last.entries; reads = pairs_in readings; finished = finished }

pub is-kept : (last : BTreeMap Place Id) (readings : Readings) (finished : List Id) → dependencies (shown last readings finished) ≡ kept_of last (reads_in readings) finished
is-kept last readings finished = λ i. record { writer = get place_cmp last; reads = λ x y. reads-shown readings x y i; finished = λ b. has_id b finished }

pub was-kept : (d : Deps) (last : BTreeMap Place Id) (readings : Readings) (finished : List Id) → shown last readings finished ≡ d → dependencies d ≡ kept_of last (reads_in readings) finished
was-kept d last readings finished is = ap dependencies (sym is) ∙ is-kept last readings finished

-- what parts keep before and after, values show
pub over : (R : Dependencies → Dependencies → Type 0) (d : Deps) (last last' : BTreeMap Place Id) (readings readings' : Readings) (finished finished' : List Id) → shown last readings finished ≡ d →
    R (kept_of last (reads_in readings) finished) (kept_of last' (reads_in readings') finished') → R (dependencies d) (dependencies (shown last' readings' finished'))
over R d last last' readings readings' finished finished' is h =
    subst (λ a. R a (dependencies (shown last' readings' finished'))) (sym (was-kept d last readings finished is))
    (subst (R (kept_of last (reads_in readings) finished)) (sym (is-kept last' readings' finished')) h)
