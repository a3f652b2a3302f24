-- The one unit of a name among those that are held: what changes there, and what is left without it.
use Rattle.salt_books.specs.Held.{seen}
use Rattle.salt_books.specs.declared.held.Held.{Held}
use Rattle.law_states.proofs.Held.{changed-one, left-one, seen-at, within}
use Rattle.law_states.proofs.Rising.{named-at}
use Rattle.law_states.specs.OpenUnits.{OpenUnit, change_unit, names_in, unit_named, without_unit}
use Rattle.law_states.specs.Rising.{Rising}
use Rattle.salt_values.specs.declared.id.Id.{Id}
use Rattle.std.proofs.Common.{ap, subst, sym, ◌∙◌}
use Rattle.std.specs.List.{remove}
use Rattle.std.specs.Prelude.{List, Some, get_or, length, map, set, ℕ, ◌<◌, ◌≡◌}

module _ (hs : List Held) (os : List OpenUnit) (at : ℕ) (u : Id) (same : map seen hs ≡ os) (rises : Rising (names_in os)) (there : at < length hs)
    (h : Held) (named : (get_or hs at h).open.unit ≡ u) where
  name-at : (get_or os at (seen h)).unit ≡ u
  name-at = sym (ap (λ (o : OpenUnit). o.unit) (seen-at seen hs os at (seen h) same rises there h)) ∙ named

  pub changed : (y : Held) (f : OpenUnit → OpenUnit) → h ≡ get_or hs at h → seen y ≡ f (seen h) → map seen (set hs at y) ≡ change_unit u f os
  changed y f here e = changed-one seen hs os at (seen h) same rises there h y f here e ∙ ap (λ v. change_unit v f os) name-at

  pub left : map seen (remove hs at) ≡ without_unit u os
  left = left-one seen hs os at (seen h) same rises there ∙ ap (λ v. without_unit v os) name-at

  pub held-named : h ≡ get_or hs at h → unit_named u os ≡ Some (seen h)
  held-named here =
      subst (λ v. unit_named v os ≡ Some (get_or os at (seen h))) name-at (named-at os at (seen h) rises (within seen hs os at (seen h) same rises there))
      ∙ ap (λ (o : OpenUnit). Some o) (sym (seen-at seen hs os at (seen h) same rises there h)) ∙ ap (λ (x : Held). Some (seen x)) (sym here)
