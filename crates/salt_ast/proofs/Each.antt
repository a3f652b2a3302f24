-- What holds of each item of a list, item by item.
use Rattle.std.proofs.Common.{List, [], map, ◌++◌, ◌∷◌}
use Rattle.std.specs.List.{flat_map}

abbrev pub Each : {A : Type 0} → (A → Type 0) → List A → Type 0
Each P [] = Unit {0}
Each P (x ∷ xs) = P x × Each P xs

-- nothing is asked of a tree
abbrev pub Anything : {A : Type 0} → A → Type 0
Anything x = Unit {0}

pub each_is_anything : {A : Type 0} (xs : List A) → Each Anything xs
each_is_anything [] = tt
each_is_anything (x ∷ xs) = (tt, each_is_anything xs)

module _ {A : Type 0} (P : A → Type 0) where
  pub each_of_append : (xs ys : List A) → Each P (xs ++ ys) → Each P xs × Each P ys
  each_of_append [] ys h = (tt, h)
  each_of_append (x ∷ xs) ys (here, h) = let rest = each_of_append xs ys h in ((here, rest.0), rest.1)

  pub each_of_map : {B : Type 0} (f : B → A) (ys : List B) → Each P (map f ys) → Each (λ y. P (f y)) ys
  each_of_map f [] h = tt
  each_of_map f (y ∷ ys) (here, h) = (here, each_of_map f ys h)

  pub each_of_flat_map : {B : Type 0} (f : B → List A) (ys : List B) → Each P (flat_map f ys) → Each (λ y. Each P (f y)) ys
  each_of_flat_map f [] h = tt
  each_of_flat_map f (y ∷ ys) h = let rest = each_of_append (f y) (flat_map f ys) h in (rest.0, each_of_flat_map f ys rest.1)
