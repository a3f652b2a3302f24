-- What calls make of what is kept, by its tests.
use Rattle.salt_deps.proofs.Reading.{are-writers}
use Rattle.salt_deps.specs.Due.{AreSettled}
use Rattle.salt_deps.specs.Kept.{kept_of}
use Rattle.salt_deps.specs.Reads.{AreFresh, reads_entry}
use Rattle.law_states.specs.DependencyCalls.{HasFinished}
use Rattle.law_states.specs.KeptSources.{WritesIn, itself, unless_among}
use Rattle.law_story.proofs.Ids.{and_left, and_right, is_same_id-refl, is_same_id-sym, is_same_id-true}
use Rattle.law_story.proofs.Lists.{either, or_cases, or_left_true}
use Rattle.salt_model.specs.Tables.{place_cmp, place_total}
use Rattle.salt_values.specs.Id.{has_id}
use Rattle.salt_model.specs.declared.locks.Mode.{Mode}
use Rattle.salt_model.specs.declared.places.Place.{Place}
use Rattle.salt_ranges.specs.declared.range.KeyRange.{KeyRange}
use Rattle.salt_values.specs.Id.{is_same_id}
use Rattle.salt_values.specs.declared.id.Id.{Id}
use Rattle.std.proofs.Common.{ap, inl, inr, subst, sym, ◌∙◌, ◌↔◌, ◌⊎◌}
use Rattle.std.specs.BTreeMap.{BTreeMap, IsOrdered, get}
use Rattle.std.specs.List.{list_any}
use Rattle.std.specs.Ordering.{is_eq, ordering_reverse}
use Rattle.std.specs.Prelude.{Bool, IsTrue, List, Option, Some, cond, false, if◌then◌else◌, not, refl, true, ℕ, ◌&&◌, ◌||◌, ◌∷◌, ◌≡◌}
use Rattle.std.specs.declared.cmp.Ordering.TheVariants.{Equal, Greater, Less}
use Rattle.std.specs.declared.cmp.Ordering.{Ordering}

eq-reversed : (r : Ordering) → is_eq (ordering_reverse r) ≡ is_eq r
eq-reversed Less = refl
eq-reversed Equal = refl
eq-reversed Greater = refl

swapped : (p q : Place) → is_eq (place_cmp p q) ≡ is_eq (place_cmp q p)
swapped p q = ap is_eq (place_total.antisymm p q) ∙ eq-reversed (place_cmp q p)

-- the last writers, where one is written or taken out
pub wrote : (base made : Option Id) (p : Place) (old new : Place → Option Id) → base ≡ made → ((q : Place) → new q ≡ cond (is_eq (place_cmp p q)) made (old q)) →
    (q : Place) → new q ≡ (if is_eq (place_cmp q p) then base else old q)
wrote base made p old new is u q =
    subst (λ b. new q ≡ (if is_eq (place_cmp q p) then b else old q)) (sym is) (u q ∙ ap (λ t. cond t made (old q)) (swapped p q))

-- a read adds what was written last in its range
pub read-more : (base : Id) (t : ℕ) (range : KeyRange) (mode : Mode) (m : BTreeMap Place Id) (old new : Id → Id → Bool) (fresh : List Id) → IsOrdered place_cmp m →
    AreFresh base t range m.entries old fresh → ((x y : Id) → new x y ≡ (old x y || (is_same_id x base && has_id y fresh))) → (x y : Id) →
    IsTrue (new x y) ↔ (IsTrue (old x y) ⊎ ((base ≡ x) × (is_same_id y x ≡ false) × WritesIn (get place_cmp m) (Some (record { table = t; range = range; mode = mode })) y))
read-more base t range mode m old new fresh ordered read is x y = (
  (λ h. either (λ e. inl e) (λ e. inr (forth e)) (or_cases (old x y) _ (sym (is x y) ∙ h))),
  (λ h. is x y ∙ either (λ e. or_left_true (old x y) _ e) (λ e. back e (old x y) refl) h),
)
  where
    written-there : (list_any (reads_entry base t range y) m.entries ≡ true) ↔ ((is_same_id y base ≡ false) × WritesIn (get place_cmp m) (Some (record { table = t; range = range; mode = mode })) y)
    written-there = are-writers base t range mode m ordered y

    forth : (is_same_id x base && has_id y fresh) ≡ true → (base ≡ x) × (is_same_id y x ≡ false) × WritesIn (get place_cmp m) (Some (record { table = t; range = range; mode = mode })) y
    forth h =
        let same = is_same_id-true x base (and_left (is_same_id x base) (has_id y fresh) h) in
        let w = written-there.0 (and_left (list_any (reads_entry base t range y) m.entries) (not (old base y)) (sym (read y) ∙ and_right (is_same_id x base) (has_id y fresh) h)) in
        (sym same, subst (λ z. is_same_id y z ≡ false) (sym same) w.0, w.1)

    back : (base ≡ x) × (is_same_id y x ≡ false) × WritesIn (get place_cmp m) (Some (record { table = t; range = range; mode = mode })) y → (b : Bool) → old x y ≡ b → (b || (is_same_id x base && has_id y fresh)) ≡ true
    back h true e = refl
    back h false e =
        let there = written-there.1 (subst (λ z. is_same_id y z ≡ false) (sym h.0) h.1, h.2) in
        let before : old base y ≡ false = subst (λ z. old z y ≡ false) (sym h.0) e in
        let now : has_id y fresh ≡ true = read y ∙ rw (there, before) refl in
        rw (sym h.0, is_same_id-refl base, now) refl

pub left : (a b : Bool) → IsTrue (a && not b) ↔ (IsTrue a × (b ≡ false))
left true true = ((λ h. absurd cc), (λ h. let no : true ≡ false = h.1 in absurd cc))
left true false = ((λ h. (refl, refl)), (λ h. refl))
left false b = ((λ h. absurd cc), (λ h. let no : false ≡ true = h.0 in absurd cc))

pub abandoned : (base : Id) (old new : Id → Id → Bool) → ((x y : Id) → new x y ≡ (old x y && not (is_same_id x base))) → (x y : Id) →
    IsTrue (new x y) ↔ (IsTrue (old x y) × (is_same_id x base ≡ false))
abandoned base old new is x y = ((λ h. (left (old x y) (is_same_id x base)).0 (sym (is x y) ∙ h)), (λ h. is x y ∙ (left (old x y) (is_same_id x base)).1 h))

neither : (a b : Bool) → (a || b) ≡ false → (a ≡ false) × (b ≡ false)
neither true b h = cc
neither false b h = (refl, h)

pub finishes : (base : Id) (due released forgotten taken : List Id) (writers writers' : BTreeMap Place Id) (pairs pairs' : Id → Id → Bool) (finished marked_names finished' : List Id) →
    AreSettled pairs (base ∷ finished) due → released ≡ due → forgotten ≡ released → taken ≡ released →
    ((q : Place) → get place_cmp writers' q ≡ unless_among due (get place_cmp writers q)) →
    ((x y : Id) → pairs' x y ≡ (pairs x y && not (has_id x forgotten || has_id y forgotten))) →
    ((b : Id) → has_id b marked_names ≡ (is_same_id base b || has_id b finished)) →
    ((b : Id) → has_id b finished' ≡ (has_id b marked_names && not (has_id b taken))) →
    HasFinished base released (kept_of writers pairs finished) (kept_of writers' pairs' finished')
finishes base due released forgotten taken writers writers' pairs pairs' finished marked_names finished' settled list forgets takes dropped cut marks out = record {
  due = λ b. (
    (λ i. let s = (are b).0 i in record { finished = s b itself; sources = s }),
    (λ d. (are b).1 d.sources),
  );
  writer = subst (λ bs. (q : Place) → get place_cmp writers' q ≡ unless_among bs (get place_cmp writers q)) (sym list) dropped;
  reads = λ x y. (
    (λ h. let k = (left (pairs x y) (has_id x released || has_id y released)).0 (sym (reads x y) ∙ h) in
        let n = neither (has_id x released) (has_id y released) k.1 in (k.0, n.0, n.1)),
    (λ h. reads x y ∙ rw (h.0, h.1, h.2) refl),
  );
  finished = λ b. (
    (λ h. let k = (left (is_same_id base b || has_id b finished) (has_id b released)).0 (sym (names b) ∙ h) in
        (ap (λ t. t || has_id b finished) (is_same_id-sym b base) ∙ k.0, k.1)),
    (λ h. names b ∙ (left (is_same_id base b || has_id b finished) (has_id b released)).1 (ap (λ t. t || has_id b finished) (is_same_id-sym base b) ∙ h.0, h.1)),
  );
}
  where
    are : AreSettled pairs (base ∷ finished) released
    are = subst (AreSettled pairs (base ∷ finished)) (sym list) settled

    reads : (x y : Id) → pairs' x y ≡ (pairs x y && not (has_id x released || has_id y released))
    reads = subst (λ (l : List Id). (x y : Id) → pairs' x y ≡ (pairs x y && not (has_id x l || has_id y l))) forgets cut

    names : (b : Id) → has_id b finished' ≡ ((is_same_id base b || has_id b finished) && not (has_id b released))
    names b = out b ∙ (ap (λ t. t && not (has_id b taken)) (marks b) ∙ ap (λ (l : List Id). (is_same_id base b || has_id b finished) && not (has_id b l)) takes)
