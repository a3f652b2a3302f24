-- Values and rows, as they are spelled.
use Rattle.salt_bytes.specs.Numbers.{spell_64, take_64}
use Rattle.salt_bytes.specs.Taking.{Take, give, only_if, take_byte, take_bytes, take_each, then_take}
use Rattle.salt_values.specs.Text.{is_text}
use Rattle.salt_values.specs.declared.value.Value.TheVariants.{Int, Null, Text}
use Rattle.salt_values.specs.declared.value.Value.{Value}
use Rattle.std.specs.Int.{cast_signed, cast_unsigned, w64}
use Rattle.std.specs.Prelude.{Bool, List, None, Option, Some, [], length, nat_le, suc, true, zero, ℕ, ⊤, ◌&&◌, ◌∷◌, ◌≡◌}
use Rattle.std.specs.List.{flat_map}

-- byte 0 is Null; byte 1 and eight bytes are a number; byte 2, a length and the bytes are a text
abbrev pub spell_value : Value → List ℕ
spell_value (Int z) = 1 ∷ spell_64 (cast_unsigned w64 z)
spell_value (Text t) = 2 ∷ length t ∷ t
spell_value Null = 0 ∷ []

-- what a value's first byte says of the bytes behind it; Null stands only where nulls are spelled
abbrev pub take_value_of : Bool → ℕ → Take Value
take_value_of nulls zero = only_if nulls (give Null)
take_value_of nulls (suc zero) = then_take take_64 (λ n. give (Int (cast_signed w64 n)))
take_value_of nulls (suc (suc zero)) = then_take take_byte (λ n. then_take (take_bytes n) (λ t. only_if (is_text t) (give (Text t))))
take_value_of nulls (suc (suc (suc n))) = λ bytes. None

abbrev pub take_value : Bool → Take Value
take_value nulls = then_take take_byte (take_value_of nulls)

-- a number of values and the values, where there may be none
abbrev pub spell_values : List Value → List ℕ
spell_values vs = length vs ∷ flat_map spell_value vs

abbrev pub take_values : Bool → Take (List Value)
take_values nulls = then_take take_byte (take_each (take_value nulls))

-- a row has 1 to 16 values
abbrev pub is_row_length : ℕ → Bool
is_row_length n = nat_le 1 n && nat_le n 16

-- a row that is given has so many
abbrev pub HasRowTo : Option (List Value) → Type 0
HasRowTo None = ⊤
HasRowTo (Some row) = is_row_length (length row) ≡ true

abbrev pub take_row : Bool → Take (List Value)
take_row nulls = then_take take_byte (λ n. only_if (is_row_length n) (take_each (take_value nulls) n))
