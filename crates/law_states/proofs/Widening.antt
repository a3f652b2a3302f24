-- Rounds of widening come to an end: as many as there are names bring all that steps lead to.
use Rattle.law_states.specs.Members.{In}
use Rattle.law_states.specs.PairClosures.{Leads, here, on}
use Rattle.law_story.proofs.Lists.{filter-short, in-left, into-order}
use Rattle.law_story.proofs.Widening.{Path, all-come, comes-by, here as stays, onward}
use Rattle.salt_model.specs.Words.{widened}
use Rattle.salt_values.specs.Id.{has_id, in_order}
use Rattle.salt_values.specs.declared.id.Id.{Id}
use Rattle.std.proofs.Common.{inl, inr, subst, sym}
use Rattle.std.specs.List.{flat_map}
use Rattle.std.specs.Prelude.{List, [], length, not, refl, suc, zero, ℕ, ◌++◌, ◌∷◌, ◌≡◌, ◌⊎◌}

-- steps, and the names among which they are followed
module _ (steps : Id → List Id) (names : List Id) where
  path-leads : (a c : Id) → Path steps a c → Leads steps a c
  path-leads a c stays = here
  path-leads a c (onward {v = b} i r) = on i (path-leads b c r)

  leads-path : (a c : Id) → Leads steps a c → Path steps a c
  leads-path a c here = stays
  leads-path a c (on {b = b} i r) = onward i (leads-path b c r)

  pub come-in : (n : ℕ) (x : Id) (seen : List Id) → In x (widened steps n seen) → (u : Id) × In u seen × Leads steps u x
  come-in n x seen h = let r = comes-by steps n seen x h in (r.0, r.1, path-leads r.0 x r.2)

  pub come-old : (n : ℕ) (x : Id) (seen : List Id) → In x seen → In x (widened steps n seen)
  come-old zero x seen h = h
  come-old (suc n) x seen h = come-old n x (in_order (seen ++ flat_map steps seen)) (into-order x _ (in-left x seen _ h))

  -- what stands between two steps is a name
  abbrev pub AreInner : Type 0
  AreInner = (a b c : Id) → In b (steps a) → In c (steps b) → In b names

  inner-or-last : AreInner → (b a : Id) → In b (steps a) → In b names ⊎ (steps b ≡ [])
  inner-or-last inner b a i = by (steps b) refl
    where
      by : (cs : List Id) → steps b ≡ cs → In b names ⊎ (steps b ≡ [])
      by [] e = inr e
      by (c ∷ cs) e = inl (inner a b c i (subst (In c) (sym e) (inl refl)))

  -- as many rounds as there are names bring each name that steps lead to
  pub come-all : AreInner → (seen : List Id) (b c : Id) → In b seen → Leads steps b c → In c names → In c (widened steps (length names) seen)
  come-all inner seen b c h r n =
      all-come steps names (inner-or-last inner) (length names) seen (filter-short (λ u. not (has_id u seen)) names) b c h (leads-path b c r) n
