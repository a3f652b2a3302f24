-- The programs in their first part, as units begin, change and end.
use Rattle.law_states.specs.OpenUnits.{OpenUnit, change_unit, unit_named, without_unit}
use Rattle.law_states.specs.Readings.{first_parts}
use Rattle.law_states.specs.Members.{In}
use Rattle.salt_model.specs.Units.{program_begun}
use Rattle.salt_values.specs.Id.{is_same_id}
use Rattle.salt_values.specs.declared.id.Id.{Id}
use Rattle.std.proofs.Common.{ap, inl, inr, subst, sym, ◌∙◌}
use Rattle.std.specs.List.{cons_option}
use Rattle.std.specs.Prelude.{Bool, List, None, Option, Some, [], cond, false, not, refl, true, ◌++◌, ◌∷◌, ◌≡◌, ◌⊎◌}

abbrev begun_by : OpenUnit → Option Id
begun_by o = program_begun o.kind

pub first-same : (u : Id) (f : OpenUnit → OpenUnit) (os : List OpenUnit) → ((o : OpenUnit) → (f o).kind ≡ o.kind) →
    first_parts (change_unit u f os) ≡ first_parts os
first-same u f [] h = refl
first-same u f (o ∷ os) h = by (is_same_id o.unit u) (first-same u f os h)
  where
    by : (t : Bool) → first_parts (change_unit u f os) ≡ first_parts os →
        cons_option (begun_by (cond t (f o) o)) (first_parts (change_unit u f os)) ≡ cons_option (begun_by o) (first_parts os)
    by true e = ap (λ k. cons_option (program_begun k) (first_parts (change_unit u f os))) (h o) ∙ ap (cons_option (begun_by o)) e
    by false e = ap (cons_option (begun_by o)) e

-- b is among those of one unit and others
in-one : (x : Option Id) (b : Id) (bs cs : List Id) → (In b bs → In b cs) → In b (cons_option x bs) → In b (cons_option x cs)
in-one None b bs cs h i = h i
in-one (Some c) b bs cs h (inl e) = inl e
in-one (Some c) b bs cs h (inr i) = inr (h i)

in-more : (x : Option Id) (b : Id) (bs : List Id) → In b bs → In b (cons_option x bs)
in-more None b bs i = i
in-more (Some c) b bs i = inr i

pub first-without : (u b : Id) (os : List OpenUnit) → In b (first_parts (without_unit u os)) → In b (first_parts os)
first-without u b [] i = i
first-without u b (o ∷ os) i = by (is_same_id o.unit u) i (first-without u b os)
  where
    by : (t : Bool) → In b (first_parts (cond (not t) (o ∷ without_unit u os) (without_unit u os))) →
        (In b (first_parts (without_unit u os)) → In b (first_parts os)) → In b (first_parts (o ∷ os))
    by true i more = in-more (begun_by o) b (first_parts os) (more i)
    by false i more = in-one (begun_by o) b (first_parts (without_unit u os)) (first_parts os) more i

pub first-begun : (b : Id) (os : List OpenUnit) (o : OpenUnit) → In b (first_parts (os ++ o ∷ [])) → In b (first_parts os) ⊎ (begun_by o ≡ Some b)
first-begun b [] o i = by (begun_by o) i
  where
    by : (x : Option Id) → In b (cons_option x []) → ⊥ ⊎ (x ≡ Some b)
    by None i = absurd i
    by (Some c) (inl e) = inr (ap Some e)
    by (Some c) (inr i) = absurd i
first-begun b (p ∷ os) o i = by (begun_by p) i (first-begun b os o)
  where
    by : (x : Option Id) → In b (cons_option x (first_parts (os ++ o ∷ []))) →
        (In b (first_parts (os ++ o ∷ [])) → In b (first_parts os) ⊎ (begun_by o ≡ Some b)) →
        In b (cons_option x (first_parts os)) ⊎ (begun_by o ≡ Some b)
    by None i more = more i
    by (Some c) (inl e) more = inl (inl e)
    by (Some c) (inr i) more = later (more i)
      where
        later : In b (first_parts os) ⊎ (begun_by o ≡ Some b) → ((c ≡ b) ⊎ In b (first_parts os)) ⊎ (begun_by o ≡ Some b)
        later (inl j) = inl (inr j)
        later (inr e) = inr e

pub first-in : (u b : Id) (os : List OpenUnit) (o : OpenUnit) → unit_named u os ≡ Some o → begun_by o ≡ Some b → In b (first_parts os)
first-in u b [] o h e = cc
first-in u b (p ∷ os) o h e = by (is_same_id p.unit u) h (λ t. first-in u b os o t e)
  where
    here : p ≡ o → In b (first_parts (p ∷ os))
    here q = subst (λ x. In b (cons_option x (first_parts os))) (sym e ∙ ap begun_by (sym q)) (inl refl)

    by : (t : Bool) → cond t (Some p) (unit_named u os) ≡ Some o → (unit_named u os ≡ Some o → In b (first_parts os)) → In b (first_parts (p ∷ os))
    by true h more = here (ap (λ x. elim x [ None ↦ p | Some y ↦ y ]) h)
    by false h more = in-more (begun_by p) b (first_parts os) (more h)

-- a unit that is not there is not taken away
pub without-none : (u : Id) (os : List OpenUnit) → unit_named u os ≡ None → without_unit u os ≡ os
without-none u [] h = refl
without-none u (o ∷ os) h = by (is_same_id o.unit u) h (without-none u os)
  where
    by : (t : Bool) → cond t (Some o) (unit_named u os) ≡ None → (unit_named u os ≡ None → without_unit u os ≡ os) →
        cond (not t) (o ∷ without_unit u os) (without_unit u os) ≡ o ∷ os
    by true h more = cc
    by false h more = ap (λ xs. o ∷ xs) (more h)
