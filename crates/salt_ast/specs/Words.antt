-- Small words on options, lists, names and bytes.
use Rattle.salt_ast.specs.TokenSpelling.{same_bytes}
use Rattle.std.specs.Option.{option_or}
use Rattle.std.specs.Prelude.{Bool, List, None, Option, [], not, ℕ, ◌==◌, ◌∷◌}
use Rattle.std.specs.List.{list_any}

-- the first answer in a list's order
abbrev pub first_in : {A B : Type 0} → (A → Option B) → List A → Option B
first_in f [] = None
first_in f (x ∷ xs) = option_or (f x) (first_in f xs)

-- the name stands among these
abbrev pub is_among : List ℕ → List (List ℕ) → Bool
is_among n ns = list_any (same_bytes n) ns

abbrev pub is_no_quote : ℕ → Bool
is_no_quote b = not (b == 39)
