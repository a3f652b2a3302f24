-- Where tokens stand in the bytes.
use Rattle.std.specs.Prelude.{ℕ, ◌+◌, ◌≤◌, ◌<◌, List, [], ◌∷◌, take, drop, map}
use Rattle.salt_ast.specs.declared.token.Token.{Token}
use Rattle.salt_ast.specs.Pieces.{Piece}

-- a token by its bytes
abbrev pub piece_of : List ℕ → Token → Piece
piece_of bytes t = record { kind = t.kind; text = take t.len (drop t.at bytes) }

-- tokens by their bytes
abbrev pub pieces : List ℕ → List Token → List Piece
pieces bytes ts = map (piece_of bytes) ts

-- tokens one behind the other, none empty, between two places
abbrev pub AreInOrder : ℕ → List Token → ℕ → Type 0
AreInOrder from [] to = from ≤ to
AreInOrder from (t ∷ ts) to = (from ≤ t.at) × (0 < t.len) × AreInOrder (t.at + t.len) ts to
