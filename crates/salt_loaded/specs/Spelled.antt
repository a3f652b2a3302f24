-- What stands in a row that is spelled.
use Rattle.salt_bytes.specs.Values.{take_value}
use Rattle.salt_values.specs.declared.value.Value.{Value}
use Rattle.std.specs.Prelude.{List, None, Option, Some, slice_get, true, ℕ, ◌≡◌}

-- behind the value that is spelled at the front of bytes; where none is, nothing is known
abbrev pub LeavesValue : List ℕ → Option (List ℕ) → Type 0
LeavesValue bytes left = (value : Value) (rest : List ℕ) → take_value true bytes ≡ Some (value, rest) → left ≡ Some rest

-- at the bytes found the value of this number is spelled; none is found where the row has none
abbrev pub IsColumnAt : List Value → ℕ → Option (List ℕ) → Type 0
IsColumnAt row number None = slice_get row number ≡ None
IsColumnAt row number (Some bytes) = (value : Value) × (rest : List ℕ) × (slice_get row number ≡ Some value) × (take_value true bytes ≡ Some (value, rest))
