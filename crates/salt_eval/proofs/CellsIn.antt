-- What stands in a row, by what it gives.
use Rattle.salt_model.specs.Eval.{Datum, Gives, known}
use Rattle.salt_values.specs.Value.{key_of}
use Rattle.salt_values.specs.declared.value.Value.TheVariants.{Int}
use Rattle.salt_values.specs.declared.value.Value.{Value}
use Rattle.std.specs.Prelude.{List, None, Ok, Option, Some, [], pos, refl, slice_get, unwrap_or, ◌∷◌, ◌≡◌}

pub known-gives : (value : Option Value) → known value ≡ Ok (Gives (unwrap_or value (Int (pos 0))))
known-gives None = refl
known-gives (Some value) = refl

pub first-key : (row : List Value) → unwrap_or (slice_get row 0) (Int (pos 0)) ≡ key_of row
first-key [] = refl
first-key (value ∷ row) = refl

pub gives : (datum : Datum) (value : Option Value) → Ok datum ≡ known value → datum ≡ Gives (unwrap_or value (Int (pos 0)))
gives datum None is = cc
gives datum (Some value) is = cc
