-- The cover by the first of the programs.
use Rattle.salt_model.specs.Words.{first_of_list}
use Rattle.std.proofs.Common.{refl}
use Rattle.std.specs.Prelude.{List, [], slice_get, ◌∷◌, ◌≡◌}

pub front : {A : Type 0} (xs : List A) → slice_get xs 0 ≡ first_of_list xs
front [] = refl
front (x ∷ xs) = refl
