-- What is found of a sound story with one event more.
use Rattle.salt_audit.proofs.Growing.{found_grows}
use Rattle.salt_audit.specs.Formed.{is_formed_by}
use Rattle.salt_audit.specs.Retelling.{retold}
use Rattle.salt_audit.specs.Stories.{then_on}
use Rattle.salt_audit.specs.Verdicts.{Finding, broken, broken_by, found_by, found_in, found_on, sound, unformed}
use Rattle.salt_audit.specs.declared.verdict.Law.{Law}
use Rattle.salt_model.specs.declared.events.Event.{Event}
use Rattle.salt_values.specs.declared.id.Id.{Id}
use Rattle.std.proofs.Common.{Bool, List, None, Some, [], ap, arith, false, length, suc, true, ℕ, ◌+◌, ◌++◌, ◌∙◌, ◌∷◌, ◌≡◌}

module _ (story : List Event) (e : Event) (before : found_in story ≡ sound) where
  found_next : found_in (story ++ e ∷ []) ≡ found_by (suc (length story)) (is_formed_by (retold story) e) (broken_by (retold story) e) sound
  found_next =
      let one : 1 + length story ≡ suc (length story) = omega arith in
      found_grows 1 (retold []) story (e ∷ [])
      ∙ ap (λ (x : Finding). then_on x (found_on (1 + length story) (retold story) (e ∷ []))) before
      ∙ ap (λ (n : ℕ). found_by n (is_formed_by (retold story) e) (broken_by (retold story) e) sound) one

  pub found_sound : is_formed_by (retold story) e ≡ true → broken_by (retold story) e ≡ None → found_in (story ++ e ∷ []) ≡ sound
  found_sound f b = found_next ∙ (λ i. found_by (suc (length story)) (f i) (b i) sound)

  pub found_unformed : is_formed_by (retold story) e ≡ false → found_in (story ++ e ∷ []) ≡ unformed (suc (length story))
  found_unformed f = found_next ∙ ap (λ (t : Bool). found_by (suc (length story)) t (broken_by (retold story) e) sound) f

  pub found_broken : (law : Law) (u : Id) → is_formed_by (retold story) e ≡ true → broken_by (retold story) e ≡ Some (law, u) →
      found_in (story ++ e ∷ []) ≡ broken law u (suc (length story))
  found_broken law u f b = found_next ∙ (λ i. found_by (suc (length story)) (f i) (b i) sound)
