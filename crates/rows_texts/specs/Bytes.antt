-- Bytes at whose front no row is spelled; others stand beside the definitions.
use Rattle.salt_bytes.specs.Values.{take_row}
use Rattle.std.specs.Prelude.{None, [], refl, true, ◌∷◌, ◌≡◌}

no_bytes : take_row true [] ≡ None
no_bytes = refl

-- values are of kind 0, 1 or 2
kind_3 : take_row true (1 ∷ 3 ∷ []) ≡ None
kind_3 = refl
