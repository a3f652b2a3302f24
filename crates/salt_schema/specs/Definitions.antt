-- Definitions by their names and numbers.
use Rattle.salt_ast.specs.Judgement.{doubled_name}
use Rattle.salt_ast.specs.TokenSpelling.{same_bytes}
use Rattle.std.specs.List.{position_from}
use Rattle.std.specs.Prelude.{Bool, List, None, Option, [], find, map, ℕ, ◌∷◌, ◌≡◌}

abbrev pub is_named : {T : Type 0} → (T → List ℕ) → List ℕ → T → Bool
is_named name n x = same_bytes n (name x)

-- the number of the first of this name, where they are numbered from 0
abbrev pub number_named : {T : Type 0} → (T → List ℕ) → List ℕ → List T → Option ℕ
number_named name n xs = position_from (is_named name n) 0 xs

abbrev pub definition_named : {T : Type 0} → (T → List ℕ) → List ℕ → List T → Option T
definition_named name n xs = find (is_named name n) xs

-- no name comes twice
abbrev pub AreDistinct : {T : Type 0} → (T → List ℕ) → List T → Type 0
AreDistinct name xs = doubled_name [] (map name xs) ≡ None

-- each stands under its name
abbrev pub AreKeyed : {K T : Type 0} → (K → List ℕ) → (T → List ℕ) → List (K × T) → Type 0
AreKeyed spelled name [] = Unit {0}
AreKeyed spelled name (e ∷ es) = (spelled e.0 ≡ name e.1) × AreKeyed spelled name es
