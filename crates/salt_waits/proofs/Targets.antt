-- The places of the units that one names, place by place.
use Rattle.salt_values.specs.Id.{is_same_id}
use Rattle.salt_values.specs.declared.id.Id.{Id}
use Rattle.salt_waits.proofs.Marks.{no_more}
use Rattle.salt_waits.specs.Graphs.{AreTargets, AreTargetsBelow, Graph, IsGraphBelow}
use Rattle.salt_waits.specs.Victims.{names}
use Rattle.salt_waits.specs.declared.units.WaitUnit.{WaitUnit}
use Rattle.std.proofs.Common.{⊎_elim, Bool, Contains, IsTrue, List, Some, Vec, Global, [], ap, arith, eq-or-lt_of_le, false, inl, inr, length, length-append, refl, slice_get, subst, suc, sym, zero, ℕ, ◌+◌, ◌++◌, ◌<◌, ◌∷◌, ◌≡◌, ◌∙◌, ◌⊎◌}
use Rattle.std.specs.List.{list_any}
use Rattle.std.proofs.lemmas.List.Elements.{Contains-append_left, Contains-push, Contains-push_cases}

pub no_targets : (list : List WaitUnit) (u : WaitUnit) → AreTargetsBelow 0 list u []
no_targets list u = record { all = λ at v below. absurd (omega (arith, below)); only = λ at h. absurd (no_more at h) }

-- a place is below, or the next one
next_or_below : (at bound : ℕ) → at < bound + 1 → (at ≡ bound) ⊎ (at < bound)
next_or_below at bound below = eq-or-lt_of_le (omega (arith, below))

same_unit : {X : Type 0} (list : List X) (at bound : ℕ) (u v : X) → slice_get list bound ≡ Some u → at ≡ bound → slice_get list at ≡ Some v → v ≡ u
same_unit list at bound u v is same at_v = let same_some : Some v ≡ Some u = sym at_v ∙ (ap (slice_get list) same ∙ is) in cc same_some

pub another : (bound : ℕ) (list : List WaitUnit) (u v : WaitUnit) (targets : List ℕ) → slice_get list bound ≡ Some v → IsTrue (names u v) → AreTargetsBelow bound list u targets
    → AreTargetsBelow (bound + 1) list u (targets ++ bound ∷ [])
another bound list u v targets is named t = record {
  all = λ at x below at_x hit. ⊎_elim (λ e. subst (Contains (targets ++ bound ∷ [])) (sym e) (Contains-push targets bound)) (λ less. Contains-append_left targets (bound ∷ []) at (t.all at x less at_x hit)) (next_or_below at bound below);
  only = λ at h. ⊎_elim (λ before. let b = t.only at before in (b.0, omega (arith, b.1), b.2, b.3)) (λ e. (v, omega (arith, e), ap (slice_get list) (sym e) ∙ is, named)) (Contains-push_cases targets bound at h);
}

pub no_other : (bound : ℕ) (list : List WaitUnit) (u v : WaitUnit) (targets : List ℕ) → slice_get list bound ≡ Some v → names u v ≡ false → AreTargetsBelow bound list u targets
    → AreTargetsBelow (bound + 1) list u targets
no_other bound list u v targets is unnamed t = record {
  all = λ at x below at_x hit. ⊎_elim (λ e. absurd (not_both (names u v) unnamed (subst (λ y. IsTrue (names u y)) (same_unit list at bound v x is e at_x) hit))) (λ less. t.all at x less at_x hit) (next_or_below at bound below);
  only = λ at h. let b = t.only at h in (b.0, omega (arith, b.1), b.2, b.3);
}
  where
    not_both : (b : Bool) → b ≡ false → IsTrue b → ⊥
    not_both b f t = cc (f, t)

-- the test of the names, as it was read
pub told : (u v : WaitUnit) (edges : List Id) (r b : Bool) → edges ≡ u.edges → r ≡ list_any (λ name. is_same_id name v.unit) edges → r ≡ b → names u v ≡ b
told u v edges r b e value is = ap (list_any (λ name. is_same_id name v.unit)) (sym e) ∙ (sym value ∙ is)

-- the last item of a list, or one before it
pub last_or_before : {X : Type 0} (xs : List X) (x y : X) (at : ℕ) → slice_get (xs ++ x ∷ []) at ≡ Some y → ((at ≡ length xs) × (x ≡ y)) ⊎ (slice_get xs at ≡ Some y)
last_or_before [] x y zero is = inl (refl, cc is)
last_or_before [] x y (suc at) is = inr is
last_or_before (z ∷ xs) x y zero is = inr is
last_or_before (z ∷ xs) x y (suc at) is = ⊎_elim (λ e. inl (ap suc e.0, e.1)) (λ e. inr e) (last_or_before xs x y at is)

pub one_more_vertex : (bound : ℕ) (list : List WaitUnit) (g : Graph) (u : WaitUnit) (row : Vec ℕ Global) → slice_get list bound ≡ Some u → AreTargets list u row.items → IsGraphBelow bound list g
    → IsGraphBelow (bound + 1) list (g ++ row ∷ [])
one_more_vertex bound list g u row is targets below = (
  length-append g (row ∷ []) ∙ ap (λ n. n + 1) (below.0),
  λ at v r at_v at_r. ⊎_elim
      (λ e. let same = same_unit list at bound u v is (e.0 ∙ below.0) at_v in subst (λ x. AreTargets list x r.items) (sym same) (subst (λ x. AreTargets list u x.items) (e.1) targets))
      (λ before. below.1 at v r at_v before) (last_or_before g row r at at_r),
)
