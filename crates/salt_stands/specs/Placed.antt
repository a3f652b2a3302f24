-- Rows and changes by the partition of their keys.
use Rattle.salt_model.specs.Tables.{Tables, row_at}
use Rattle.salt_model.specs.Words.{is_empty}
use Rattle.salt_model.specs.declared.places.Place.{Place}
use Rattle.salt_values.specs.declared.change.Change.{Change}
use Rattle.salt_values.specs.declared.value.Value.{Value}
use Rattle.salt_stands.specs.Partition.{part_of_key}
use Rattle.salt_place.specs.declared.placement.Shape.{Shape}
use Rattle.std.specs.List.{filter}
use Rattle.std.specs.Prelude.{Bool, List, Some, [], if◌then◌else◌, suc, zero, ℕ, ⊤, ◌<◌, ◌==◌, ◌∷◌, ◌≡◌}

abbrev pub is_of_part : Shape → ℕ → Change → Bool
is_of_part shape p c = part_of_key shape c.key == p

-- the changes of part p, in order
abbrev pub changes_at : Shape → ℕ → List Change → List Change
changes_at shape p cs = filter (is_of_part shape p) cs

-- the nodes of n parts from p on that have some of these changes; the node of part p is p + 1
abbrev pub nodes_from : Shape → List Change → (p n : ℕ) → List ℕ
nodes_from shape cs p zero = []
nodes_from shape cs p (suc n) = if is_empty (changes_at shape p cs) then nodes_from shape cs (suc p) n else suc p ∷ nodes_from shape cs (suc p) n

-- the nodes of all parts that have some of these changes, in order
abbrev pub nodes_in : Shape → List Change → List ℕ
nodes_in shape cs = nodes_from shape cs 0 shape.parts

-- each row of the tables is of part p
abbrev pub IsPlaced : Shape → ℕ → Tables → Type 0
IsPlaced shape p t = (q : Place) (row : List Value) → row_at q t ≡ Some row → part_of_key shape q.key ≡ p

-- each change is of a part below n
abbrev pub AreOfParts : Shape → ℕ → List Change → Type 0
AreOfParts shape n [] = ⊤
AreOfParts shape n (c ∷ cs) = (part_of_key shape c.key < n) × AreOfParts shape n cs
