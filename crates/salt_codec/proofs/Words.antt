-- Bytes that are known, taken.
use Rattle.salt_bytes.specs.Coordinator.{take_word}
use Rattle.salt_bytes.specs.Taking.{give, go_on, only_if, take_bytes, then_take}
use Rattle.std.proofs.Common.{Bool, List, None, Option, Some, [], ap, false, length, refl, true, ℕ, ◌≡◌, ◌∷◌}
use Rattle.std.specs.Prelude.{◌==◌}

-- the word stands at the front exactly where as many bytes are taken there and are the word
pub word_short : (word bytes : List ℕ) → take_bytes (length word) bytes ≡ None → take_word word bytes ≡ None
word_short [] bytes e = cc
word_short (a ∷ word) [] e = refl
word_short (a ∷ word) (b ∷ bytes) e = by (a == b) (word_short word bytes (was (take_bytes (length word) bytes) e))
  where
    was : (o : Option (List ℕ × List ℕ)) → go_on (λ taken. give (b ∷ taken)) o ≡ None → o ≡ None
    was None h = refl
    was (Some taken) h = cc

    by : (t : Bool) → take_word word bytes ≡ None → only_if t (then_take (take_word word) (λ rest. give (a ∷ rest))) bytes ≡ None
    by true h = ap (go_on (λ rest. give (a ∷ rest))) h
    by false h = refl
