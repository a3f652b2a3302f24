-- The number of a column.
use Rattle.salt_ast.specs.declared.trees.Field.{Field}
use Rattle.salt_model.specs.Eval.{named_values, value_named}
use Rattle.salt_model.specs.declared.vars.Binding.{Binding}
use Rattle.salt_ast.specs.TokenSpelling.{same_bytes}
use Rattle.salt_values.specs.declared.value.Value.{Value}
use Rattle.std.specs.Prelude.{Bool, List, Option, option_and_then, slice_get, ℕ, ◌≡◌}

-- in each row the value of that number is the one named so
abbrev pub IsNumberOf : List Field → List ℕ → Option ℕ → Type 0
IsNumberOf columns name found = (row : List Value) → value_named name (named_values columns row) ≡ option_and_then (slice_get row) found

abbrev pub has_name : List ℕ → Field → Bool
has_name name f = same_bytes name f.name

abbrev pub is_named : List ℕ → Binding → Bool
is_named name b = same_bytes name b.name
