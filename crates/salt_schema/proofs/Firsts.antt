-- The first of the definitions, where it has a name.
use Rattle.salt_schema.specs.Definitions.{definition_named, is_named, number_named}
use Rattle.salt_ast.specs.TokenSpelling.{same_bytes}
use Rattle.std.proofs.Common.{List, Some, [], ap, arith, cond, find, length, true, ℕ, ◌+◌, ◌<◌, ◌∙◌, ◌∷◌, ◌≡◌}
use Rattle.std.specs.List.{position_from}
use Rattle.std.specs.Prelude.{slice_get}

module _ {T : Type 0} (name : T → List ℕ) (n : List ℕ) where
  pub first-within : (xs : List T) (x : T) → slice_get xs 0 ≡ Some x → 0 < length xs
  first-within [] x at = absurd cc
  first-within (y ∷ xs) x at = omega arith

  pub first-number : (xs : List T) (x : T) → slice_get xs 0 ≡ Some x → same_bytes n (name x) ≡ true → number_named name n xs ≡ Some 0
  first-number [] x at is = absurd cc
  first-number (y ∷ xs) x at is =
      let same : y ≡ x = cc in
      ap (λ b. cond b (Some 0) (position_from (is_named name n) (0 + 1) xs)) (ap (λ (z : T). same_bytes n (name z)) same ∙ is)

  pub first-definition : (xs : List T) (x : T) → slice_get xs 0 ≡ Some x → same_bytes n (name x) ≡ true → definition_named name n xs ≡ Some x
  first-definition [] x at is = absurd cc
  first-definition (y ∷ xs) x at is =
      let same : y ≡ x = cc in
      ap (λ b. cond b (Some y) (find (is_named name n) xs)) (ap (λ (z : T). same_bytes n (name z)) same ∙ is) ∙ ap Some same
