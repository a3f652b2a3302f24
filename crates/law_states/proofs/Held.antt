-- A list of an engine's own units, each seen as an open unit: what it is after one changed, or left.
use Rattle.law_states.proofs.Rising.{change-at, without-at}
use Rattle.law_states.specs.OpenUnits.{OpenUnit, change_unit, names_in, without_unit}
use Rattle.law_states.specs.Rising.{Rising}
use Rattle.std.proofs.Common.{ap, subst, sym, ◌∙◌}
use Rattle.std.proofs.lemmas.List.{drop-map, get_or-map, length-map, map-append, map-set, take-map}
use Rattle.std.specs.List.{remove}
use Rattle.std.specs.Prelude.{List, drop, get_or, length, map, set, suc, take, ℕ, ◌++◌, ◌<◌, ◌≡◌}

module _ {H : Type 0} (seen : H → OpenUnit) (xs : List H) (os : List OpenUnit) (n : ℕ) (d : OpenUnit) (same : map seen xs ≡ os) (rises : Rising (names_in os)) (there : n < length xs) where
  pub within : n < length os
  within = subst (λ (l : List OpenUnit). n < length l) same (subst (λ m. n < m) (sym (length-map xs seen)) there)

  pub seen-at : (x : H) → seen (get_or xs n x) ≡ get_or os n d
  seen-at x = sym (get_or-map seen xs n x d there) ∙ ap (λ (l : List OpenUnit). get_or l n d) same

  -- one changed
  pub changed-one : (x y : H) (f : OpenUnit → OpenUnit) → x ≡ get_or xs n x → seen y ≡ f (seen x) →
      map seen (set xs n y) ≡ change_unit (get_or os n d).unit f os
  changed-one x y f at e =
      map-set seen xs n y ∙ ap (λ (l : List OpenUnit). set l n (seen y)) same
      ∙ ap (set os n) (e ∙ ap f (ap seen at ∙ seen-at x)) ∙ sym (change-at os n d f rises within)

  -- one left
  pub left-one : map seen (remove xs n) ≡ without_unit (get_or os n d).unit os
  left-one =
      map-append seen (take n xs) (drop (suc n) xs)
      ∙ (λ i. sym (take-map seen n xs) i ++ sym (drop-map seen (suc n) xs) i)
      ∙ ap (λ (l : List OpenUnit). remove l n) same
      ∙ sym (without-at os n d rises within)
