-- Vertices that a walk sees, one after another.
use Rattle.salt_waits.specs.Walks.{Adds, IsSeen, one_if_unseen}
use Rattle.salt_waits.specs.declared.walk.Walk.{Walk}
use Rattle.std.proofs.Common.{⊎_elim, Bool, Contains, List, [], false, get_or, inl, inr, arith, length, length-append, suc, zero, refl, slice_index_or, slice_set, subst, sum_by, sym, true, ℕ, ◌++◌, ◌<◌, ◌∷◌, ◌≡◌, ◌∙◌, ◌⊎◌, ap}
use Rattle.std.proofs.lemmas.List.{get_or-set_same, get_or_default, length-set}
use Rattle.std.proofs.lemmas.List.Elements.{Contains-append_cases, Contains-append_left, Contains-append_right, Contains-push, Contains-push_cases}
use Rattle.std.proofs.lemmas.List.Sums.{sum_by-set}

pub no_more : {X : Type 0} (v : X) → Contains [] v → ⊥
no_more v h = omega (arith, h.1)

pub is_it : {X : Type 0} (u v : X) → Contains (u ∷ []) v → u ≡ v
is_it u v h = ⊎_elim (λ none. absurd (no_more v none)) (λ same. same) (Contains-push_cases [] u v h)

pub adds_none : (w : Walk) → Adds [] w w
adds_none w = record {
  long = refl;
  keeps = λ v h. h;
  all = λ v h. absurd (no_more v h);
  only = λ v h. inl h;
  follows = λ v h. inl h;
  keeps_left = λ v h. h;
  left_seen = λ v h. inl h;
  fewer = omega arith;
}

pub adds_seen : (w : Walk) (u : ℕ) → IsSeen w u → Adds (u ∷ []) w w
adds_seen w u seen = record {
  long = refl;
  keeps = λ v h. h;
  all = λ v h. subst (IsSeen w) (is_it u v h) seen;
  only = λ v h. inl h;
  follows = λ v h. inl h;
  keeps_left = λ v h. h;
  left_seen = λ v h. inl h;
  fewer = omega arith;
}

-- a place of a list is the one that is set, or another one
set_cases : (seen : List Bool) (u v : ℕ) → u < length seen → (v ≡ u) ⊎ (slice_index_or (slice_set seen u true) v false ≡ slice_index_or seen v false)
set_cases [] u v at = absurd (omega (arith, at))
set_cases (b ∷ bs) zero zero at = inl refl
set_cases (b ∷ bs) zero (suc v) at = inr refl
set_cases (b ∷ bs) (suc u) zero at = inr refl
set_cases (b ∷ bs) (suc u) (suc v) at = ⊎_elim (λ e. inl (ap suc e)) (λ e. inr e) (set_cases bs u v (omega (arith, at)))

-- what a place has is what was read there
pub is_read : (seen : List Bool) (v : ℕ) (r b : Bool) → v < length seen → r ≡ get_or seen v r → r ≡ b → slice_index_or seen v false ≡ b
is_read seen v r b at read is = get_or_default seen v false r at ∙ (sym read ∙ is)

pub adds_new : (w new : Walk) (u : ℕ) → u < length w.seen.items → slice_index_or w.seen.items u false ≡ false → new.seen.items ≡ slice_set w.seen.items u true
    → new.left.items ≡ w.left.items ++ u ∷ [] → Adds (u ∷ []) w new
adds_new w new u at is_new set pushed =
    let is_set : (v : ℕ) → slice_index_or new.seen.items v false ≡ slice_index_or (slice_set w.seen.items u true) v false = λ v. ap (λ seen. slice_index_or seen v false) set in
    let at_u = is_set u ∙ get_or-set_same w.seen.items u true false at in
    let counted = sum_by-set one_if_unseen w.seen.items u true false at in
    let one = ap one_if_unseen is_new in
    let now = ap (sum_by one_if_unseen) set in
    let longer = ap length pushed ∙ length-append w.left.items (u ∷ []) in
    record {
      long = ap length set ∙ length-set w.seen.items u true;
      keeps = λ v h. ⊎_elim (λ e. subst (IsSeen new) (sym e) at_u) (λ e. is_set v ∙ (e ∙ h)) (set_cases w.seen.items u v at);
      all = λ v h. subst (IsSeen new) (is_it u v h) at_u;
      only = λ v h. ⊎_elim (λ e. inr (subst (Contains (u ∷ [])) (sym e) (Contains-push [] u))) (λ e. inl (sym e ∙ (sym (is_set v) ∙ h))) (set_cases w.seen.items u v at);
      follows = λ v h. ⊎_elim (λ e. inr (subst (Contains new.left.items) (sym e) (subst (λ l. Contains l u) (sym pushed) (Contains-push w.left.items u)))) (λ e. inl (sym e ∙ (sym (is_set v) ∙ h))) (set_cases w.seen.items u v at);
      keeps_left = λ v h. subst (λ l. Contains l v) (sym pushed) (Contains-append_left w.left.items (u ∷ []) v h);
      left_seen = λ v h. ⊎_elim (λ o. inl o) (λ e. inr (subst (IsSeen new) e at_u)) (Contains-push_cases w.left.items u v (subst (λ l. Contains l v) pushed h));
      fewer = omega (arith, counted, one, now, longer);
    }

pub adds_more : (xs ys : List ℕ) (a b c : Walk) → Adds xs a b → Adds ys b c → Adds (xs ++ ys) a c
adds_more xs ys a b c f s = record {
  long = s.long ∙ f.long;
  keeps = λ v h. s.keeps v (f.keeps v h);
  all = λ v h. ⊎_elim (λ x. s.keeps v (f.all v x)) (λ y. s.all v y) (Contains-append_cases xs ys v h);
  only = λ v h. ⊎_elim (λ seen. ⊎_elim (λ o. inl o) (λ x. inr (Contains-append_left xs ys v x)) (f.only v seen)) (λ y. inr (Contains-append_right xs ys v y)) (s.only v h);
  follows = λ v h. ⊎_elim (λ seen. ⊎_elim (λ o. inl o) (λ l. inr (s.keeps_left v l)) (f.follows v seen)) (λ l. inr l) (s.follows v h);
  keeps_left = λ v h. s.keeps_left v (f.keeps_left v h);
  left_seen = λ v h. ⊎_elim (λ l. ⊎_elim (λ o. inl o) (λ seen. inr (s.keeps v seen)) (f.left_seen v l)) (λ seen. inr seen) (s.left_seen v h);
  fewer = omega (arith, f.fewer, s.fewer);
}
