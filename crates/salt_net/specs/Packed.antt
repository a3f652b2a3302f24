-- Nodes that are packed.
use Rattle.std.specs.Prelude.{List, [], ℕ, ◌∷◌}

-- what stands where no node does
abbrev pub ZEROS : List ℕ
ZEROS = 0 ∷ 0 ∷ 0 ∷ 0 ∷ 0 ∷ 0 ∷ 0 ∷ 0 ∷ []
