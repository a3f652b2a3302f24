-- The key of a row, as it is told without a copy, and as it is compared.
use Rattle.salt_bytes.specs.Taking.{take_byte, take_bytes, then_take}
use Rattle.salt_loaded.specs.declared.key.KeyIn.TheVariants as key
use Rattle.salt_loaded.specs.declared.key.KeyIn.{KeyIn}
use Rattle.salt_values.specs.declared.value.Value.TheVariants.{Int, Null, Text}
use Rattle.salt_values.specs.declared.value.Value.{Value}
use Rattle.std.specs.Prelude.{List, None, Option, Some, [], if◌then◌else◌, ℕ, ◌==◌, ◌∷◌}

abbrev pub key_told : KeyIn → Value
key_told (key.Number z) = Int z
key_told (key.Text t) = Text t.now
key_told key.Null = Null

abbrev pub text_taken : Option (List ℕ × List ℕ) → List ℕ
text_taken None = []
text_taken (Some taken) = taken.0

-- the text that is spelled behind its length; none where none is
abbrev pub text_in : List ℕ → List ℕ
text_in bytes = text_taken (then_take take_byte take_bytes bytes)

-- the text that is the first value behind a count of values; none where it is none
abbrev pub key_text : List ℕ → List ℕ
key_text (count ∷ kind ∷ bytes) = if kind == 2 then text_in bytes else []
key_text bytes = []
