-- Small words on answers.
use Rattle.salt_model.specs.Words.{and_then}
use Rattle.std.specs.Prelude.{Bool, List, Ok, Result, [], suc, zero, ℕ, ◌/◌, ◌%◌, ◌==◌, ◌^◌, ◌∷◌}

-- bit p of a number
abbrev pub has_bit : ℕ → ℕ → Bool
has_bit n p = (n / 2 ^ p) % 2 == 1

-- of n numbers from p on, each one's, or the first fault
abbrev pub each_from : {A : Type 0} → (ℕ → Result A ℕ) → (p n : ℕ) → Result (List A) ℕ
each_from f p zero = Ok []
each_from f p (suc n) = and_then (f p) (λ x. and_then (each_from f (suc p) n) (λ xs. Ok (x ∷ xs)))
