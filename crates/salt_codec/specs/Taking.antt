-- What a call that takes a thing from the front of bytes answers.
use Rattle.salt_bytes.specs.Taking.{Take, give, only_if, take_byte, take_bytes, then_take}
use Rattle.salt_bytes.specs.Values.{take_row}
use Rattle.salt_codec.specs.declared.error.TakeErr.TheVariants.{Memory, Misspelled}
use Rattle.salt_codec.specs.declared.error.TakeErr.{TakeErr}
use Rattle.salt_values.specs.Text.{is_text}
use Rattle.salt_values.specs.declared.text.TextErr.TheVariants as text
use Rattle.salt_values.specs.declared.text.TextErr.{TextErr}
use Rattle.salt_values.specs.declared.value.Value.TheVariants.{Text}
use Rattle.salt_values.specs.declared.value.Value.{Value}
use Rattle.std.specs.Borrow.{Bor}
use Rattle.std.specs.Prelude.{Bool, Err, List, None, Ok, Option, Result, Some, drop, length, ℕ, ⊤, ◌≡◌, ◌≤◌}

-- the thing, which stands for what `f` gives, and what is left; nothing where none is spelled there, or that memory ran out
abbrev pub TakesAs : {A B : Type 0} → (A → B) → Result (A × Bor (List ℕ)) TakeErr → Option (B × List ℕ) → Type 0
TakesAs f (Ok found) taken = taken ≡ Some (f found.0, found.1.now)
TakesAs f (Err Misspelled) taken = taken ≡ None
TakesAs f (Err Memory) taken = ⊤

-- likewise, of a thing that stands for itself
abbrev pub TakesSame : {A : Type 0} → Result (A × Bor (List ℕ)) TakeErr → Option (A × List ℕ) → Type 0
TakesSame (Ok found) taken = taken ≡ Some (found.0, found.1.now)
TakesSame (Err Misspelled) taken = taken ≡ None
TakesSame (Err Memory) taken = ⊤

-- likewise, of bytes
abbrev pub TakesBytes : Result (Bor (List ℕ) × Bor (List ℕ)) TakeErr → Option (List ℕ × List ℕ) → Type 0
TakesBytes (Ok found) taken = taken ≡ Some (found.0.now, found.1.now)
TakesBytes (Err Misspelled) taken = taken ≡ None
TakesBytes (Err Memory) taken = ⊤

abbrev pub take_err_of : TextErr → TakeErr
take_err_of text.NotText = Misspelled
take_err_of text.Memory = Memory

-- a value's text, behind its length
abbrev pub take_text : Take Value
take_text = then_take take_byte (λ n. then_take (take_bytes n) (λ t. only_if (is_text t) (give (Text t))))

-- the row is spelled at the front of the bytes, and takes so many of them
pub record IsRowAtFront (nulls : Bool) (bytes : List ℕ) (row : List Value) (count : ℕ) : Type 0 where
  pub within : count ≤ length bytes
  pub taken : take_row nulls bytes ≡ Some (row, drop count bytes)
