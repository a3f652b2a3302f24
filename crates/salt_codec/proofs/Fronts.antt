-- A row that is taken is a front of the bytes.
use Rattle.salt_bytes.proofs.Only.{only_row}
use Rattle.salt_bytes.specs.Spellable.{AreBytes}
use Rattle.salt_bytes.specs.Values.{take_row, spell_values}
use Rattle.salt_codec.specs.Taking.{IsRowAtFront}
use Rattle.salt_values.specs.declared.value.Value.{Value}
use Rattle.std.proofs.Common.{Bool, List, Some, [], ap, arith, drop, get_or, length, length-append, refl, suc, sym, ℕ, ◌++◌, ◌-◌, ◌<◌, ◌≡◌, ◌≤◌, ◌∙◌, ◌∷◌}

pub are_bytes : (xs : List ℕ) → ((k : ℕ) → get_or xs k 0 < 256) → AreBytes xs
are_bytes [] small = tt
are_bytes (x ∷ xs) small = (small 0, are_bytes xs (λ k. small (suc k)))

drop_front : (xs ys : List ℕ) → drop (length xs) (xs ++ ys) ≡ ys
drop_front [] ys = refl
drop_front (x ∷ xs) ys = drop_front xs ys

module _ (nulls : Bool) (bytes : List ℕ) (row : List Value) (rest : List ℕ) (small : AreBytes bytes) (taken : take_row nulls bytes ≡ Some (row, rest)) where
  made : bytes ≡ spell_values row ++ rest
  made = (only_row nulls).only bytes small row rest taken

  lengths : length bytes ≡ length (spell_values row ++ rest)
  lengths = ap length made

  pub rest_within : length rest ≤ length bytes
  rest_within = omega (arith, lengths, length-append (spell_values row) rest)

  row_length : length bytes - length rest ≡ length (spell_values row)
  row_length = omega (arith, lengths, length-append (spell_values row) rest)

  left : drop (length bytes - length rest) bytes ≡ rest
  left = ap (λ k. drop k bytes) row_length ∙ ap (drop (length (spell_values row))) made ∙ drop_front (spell_values row) rest

  pub at_front : IsRowAtFront nulls bytes row (length bytes - length rest)
  at_front = record { within = omega (arith, rest_within); taken = taken ∙ ap (λ l. Some (row, l)) (sym left) }
