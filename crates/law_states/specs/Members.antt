-- Lists told by their members, and lists in an order.
use Rattle.salt_model.specs.Words.{Every}
use Rattle.std.specs.Prelude.{List, [], ⊤, ◌↔◌, ◌∷◌, ◌≡◌, ◌⊎◌}

-- x is in the list
abbrev pub In : {A : Type 0} → A → List A → Type 0
In x [] = ⊥
In x (y ∷ ys) = (y ≡ x) ⊎ In x ys

-- the same members, in any order
abbrev pub SameMembers : {A : Type 0} → List A → List A → Type 0
SameMembers {A} xs ys = (x : A) → In x xs ↔ In x ys

-- each element stands before those after it
abbrev pub Ascends : {A : Type 0} → (A → A → Type 0) → List A → Type 0
Ascends R [] = ⊤
Ascends R (x ∷ xs) = Every (R x) xs × Ascends R xs
