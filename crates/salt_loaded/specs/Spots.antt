-- Rows that are spelled among bytes, and what is kept of each.
use Rattle.salt_bytes.specs.Values.{take_row}
use Rattle.salt_loaded.specs.declared.order.Spot.{Spot}
use Rattle.salt_values.specs.Value.{int_in, key_of, kind_number}
use Rattle.salt_values.specs.declared.value.Value.{Value}
use Rattle.std.specs.List.{AllByRecursion}
use Rattle.std.specs.Prelude.{Bool, List, None, Option, Some, [], drop, is_some, map, true, ℕ, ◌≡◌}

-- a row is spelled at the front of bytes
abbrev pub is_spelled : List ℕ → Bool
is_spelled bytes = is_some (take_row true bytes)

abbrev pub row_of : Option (List Value × List ℕ) → List Value
row_of None = []
row_of (Some taken) = taken.0

-- the row that is spelled at the front of bytes; where none is, no values
abbrev pub row_in : List ℕ → List Value
row_in bytes = row_of (take_row true bytes)

abbrev pub row_from : List ℕ → ℕ → List Value
row_from bytes at = row_in (drop at bytes)

abbrev pub rows_at : List ℕ → List Spot → List (List Value)
rows_at bytes spots = map (λ s. row_from bytes s.at) spots

-- what is kept of a row with this key, which stands there
abbrev pub spot_with : Value → ℕ → Spot
spot_with key at = record { number = int_in key; at = at; kind = kind_number key }

-- a row is spelled there, and the spot tells of its key what it tells
pub record IsSpot (bytes : List ℕ) (s : Spot) : Type 0 where
  pub spelled : is_spelled (drop s.at bytes) ≡ true
  pub kind : s.kind ≡ kind_number (key_of (row_from bytes s.at))
  pub number : s.number ≡ int_in (key_of (row_from bytes s.at))

abbrev pub AreSpots : List ℕ → List Spot → Type 0
AreSpots bytes spots = AllByRecursion (IsSpot bytes) spots
