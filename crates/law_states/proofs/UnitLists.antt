-- Lists of open units and of their names.
use Rattle.law_states.specs.OpenUnits.{OpenUnit, change_unit, names_in, unit_named}
use Rattle.law_story.proofs.Ids.{is_same_id-refl, is_same_id-true}
use Rattle.law_story.proofs.Lists.{In, either, in-cases, or_right_true}
use Rattle.law_story.specs.Names.{is_named, is_unit_of}
use Rattle.salt_model.specs.Trace.{Trace, from, ◌asks◌, ◌says◌, ◌turns◌}
use Rattle.salt_model.specs.Units.{units_begun}
use Rattle.salt_model.specs.Words.{Every}
use Rattle.salt_model.specs.declared.events.Event.TheVariants.{Began}
use Rattle.salt_values.specs.Id.{is_same_id}
use Rattle.salt_values.specs.declared.id.Id.{Id}
use Rattle.std.proofs.Common.{ap, inl, inr, subst, sym, ◌∙◌}
use Rattle.std.specs.List.{filter}
use Rattle.std.specs.Prelude.{Bool, List, Some, [], cond, false, map, refl, true, ◌&&◌, ◌∷◌, ◌≡◌}

pub filter-same : {A : Type 0} (p q : A → Bool) (xs : List A) → ((x : A) → In x xs → p x ≡ q x) → filter p xs ≡ filter q xs
filter-same p q [] h = refl
filter-same p q (x ∷ xs) h = let rest = filter-same p q xs (λ y g. h y (inr g)) in λ i. cond (h x (inl refl) i) (x ∷ rest i) (rest i)

-- a test that is two tests
pub filter-both : {A : Type 0} (p q r : A → Bool) → ((x : A) → r x ≡ (q x && p x)) → (xs : List A) → filter r xs ≡ filter q (filter p xs)
filter-both p q r h [] = refl
filter-both {A = A} p q r h (x ∷ xs) = ap (λ b. cond b (x ∷ filter r xs) (filter r xs)) (h x) ∙ by (p x) (q x) (filter-both p q r h xs)
  where
    by : (a b : Bool) → filter r xs ≡ filter q (filter p xs) →
        cond (q x && a) (x ∷ filter r xs) (filter r xs) ≡ filter q (cond a (x ∷ filter p xs) (filter p xs))
    by true b e = on (q x) e
      where
        on : (c : Bool) → filter r xs ≡ filter q (filter p xs) →
            cond (c && true) (x ∷ filter r xs) (filter r xs) ≡ cond c (x ∷ filter q (filter p xs)) (filter q (filter p xs))
        on true g = ap (λ ys. x ∷ ys) g
        on false g = g
    by false b e = off (q x) e
      where
        off : (c : Bool) → filter r xs ≡ filter q (filter p xs) → cond (c && false) (x ∷ filter r xs) (filter r xs) ≡ filter q (filter p xs)
        off true g = g
        off false g = g

pub map-filter : {A B : Type 0} (f : A → B) (q : B → Bool) (xs : List A) → map f (filter (λ x. q (f x)) xs) ≡ filter q (map f xs)
map-filter f q [] = refl
map-filter f q (x ∷ xs) = by (q (f x)) (map-filter f q xs)
  where
    by : (b : Bool) → map f (filter (λ x. q (f x)) xs) ≡ filter q (map f xs) →
        map f (cond b (x ∷ filter (λ x. q (f x)) xs) (filter (λ x. q (f x)) xs)) ≡ cond b (f x ∷ filter q (map f xs)) (filter q (map f xs))
    by true e = ap (λ ys. f x ∷ ys) e
    by false e = e

pub every-kept : {A : Type 0} (P Q : A → Type 0) (p : A → Bool) → ((x : A) → p x ≡ true → P x → Q x) → (xs : List A) → Every P xs →
    Every Q (filter p xs)
every-kept P Q p f [] h = tt
every-kept P Q p f (x ∷ xs) h = by (p x) refl (every-kept P Q p f xs h.1)
  where
    by : (b : Bool) → p x ≡ b → Every Q (filter p xs) → Every Q (cond b (x ∷ filter p xs) (filter p xs))
    by true e more = (f x e h.0, more)
    by false e more = more

pub every-unmapped : {A B : Type 0} (P : B → Type 0) (f : A → B) (xs : List A) → Every P (map f xs) → Every (λ x. P (f x)) xs
every-unmapped P f [] h = tt
every-unmapped P f (x ∷ xs) h = (h.0, every-unmapped P f xs h.1)

pub every-pair : {A : Type 0} (P Q : A → Type 0) (xs : List A) → Every P xs → Every Q xs → Every (λ x. P x × Q x) xs
every-pair P Q [] h g = tt
every-pair P Q (x ∷ xs) h g = ((h.0, g.0), every-pair P Q xs h.1 g.1)

pub every-change : (P Q : OpenUnit → Type 0) (u : Id) (f : OpenUnit → OpenUnit) → ((o : OpenUnit) → is_same_id o.unit u ≡ true → P o → Q (f o)) →
    ((o : OpenUnit) → is_same_id o.unit u ≡ false → P o → Q o) → (os : List OpenUnit) → Every P os → Every Q (change_unit u f os)
every-change P Q u f own other [] h = tt
every-change P Q u f own other (o ∷ os) h = (by (is_same_id o.unit u) refl, every-change P Q u f own other os h.1)
  where
    by : (b : Bool) → is_same_id o.unit u ≡ b → Q (cond b (f o) o)
    by true e = own o e h.0
    by false e = other o e h.0

pub names-change : (u : Id) (f : OpenUnit → OpenUnit) → ((o : OpenUnit) → (f o).unit ≡ o.unit) → (os : List OpenUnit) →
    names_in (change_unit u f os) ≡ names_in os
names-change u f same [] = refl
names-change u f same (o ∷ os) = let rest = names-change u f same os in λ i. by (is_same_id o.unit u) i ∷ rest i
  where
    by : (b : Bool) → (cond b (f o) o).unit ≡ o.unit
    by true = same o
    by false = refl

-- a unit of the list is found by its name
pub named-in : (P : OpenUnit → Type 0) (u : Id) (os : List OpenUnit) → In u (names_in os) → Every P os →
    (o : OpenUnit) × (unit_named u os ≡ Some o) × (o.unit ≡ u) × P o
named-in P u [] i h = absurd i
named-in P u (o ∷ os) i h = by (is_same_id o.unit u) refl i (λ j. named-in P u os j h.1)
  where
    by : (b : Bool) → is_same_id o.unit u ≡ b → In u (names_in (o ∷ os)) →
        (In u (names_in os) → (p : OpenUnit) × (unit_named u os ≡ Some p) × (p.unit ≡ u) × P p) →
        (p : OpenUnit) × (cond b (Some o) (unit_named u os) ≡ Some p) × (p.unit ≡ u) × P p
    by true e j more = (o, refl, is_same_id-true o.unit u e, h.0)
    by false e (inl j) more = let t : is_same_id o.unit u ≡ true = subst (λ v. is_same_id v u ≡ true) (sym j) (is_same_id-refl u) in cc
    by false e (inr j) more = more j

pub begun-named : (trace : Trace) (v : Id) → In v (units_begun trace) → is_named v trace ≡ true
begun-named (from k) v h = absurd h
begun-named (trace asks asked) v h = begun-named trace v h
begun-named (trace turns b) v h = begun-named trace v h
begun-named (trace says Began u kind) v h =
    either (λ i. or_right_true (is_same_id v u) (is_named v trace) (begun-named trace v i))
    (either (λ e. rw (subst (λ w. is_same_id v w ≡ true) (sym e) (is_same_id-refl v)) refl) (λ x. absurd x))
    (in-cases v (units_begun trace) (u ∷ []) h)
begun-named (trace says e) v h = or_right_true (is_unit_of v e) (is_named v trace) (begun-named trace v h)
