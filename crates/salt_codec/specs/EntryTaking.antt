-- What a call that takes a thing from the front of bytes answers.
use Rattle.salt_codec.specs.declared.error.TakeErr.TheVariants.{Memory, Misspelled}
use Rattle.salt_codec.specs.declared.error.TakeErr.{TakeErr}
use Rattle.std.specs.Borrow.{Bor}
use Rattle.std.specs.Global.{Global}
use Rattle.std.specs.Prelude.{Err, List, None, Ok, Option, Result, Some, Vec, codes, ℕ, ⊤, ◌≡◌}

-- things in a vector, and what is left; nothing where they are not spelled there; or that memory ran out
abbrev pub TakesVec : {A : Type 0} → Result (Vec A Global × Bor (List ℕ)) TakeErr → Option (List A × List ℕ) → Type 0
TakesVec (Ok found) taken = taken ≡ Some (found.0.items, found.1.now)
TakesVec (Err Misspelled) taken = taken ≡ None
TakesVec (Err Memory) taken = ⊤

-- likewise, of bytes that are known
abbrev pub TakesWord : Result (Bor (List ℕ)) TakeErr → Option (List ℕ × List ℕ) → Type 0
TakesWord (Ok rest) taken = taken ≡ Some (codes "SALTP", rest.now)
TakesWord (Err Misspelled) taken = taken ≡ None
TakesWord (Err Memory) taken = ⊤
