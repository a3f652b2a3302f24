-- Changes taken one behind the other.
use Rattle.salt_bytes.specs.Taking.{Take, take_each}
use Rattle.salt_codec.proofs.Values.{Took, took_fails}
use Rattle.salt_codec.specs.Taking.{TakesSame}
use Rattle.salt_codec.specs.declared.error.TakeErr.TheVariants.{Memory, Misspelled}
use Rattle.salt_codec.specs.declared.error.TakeErr.{TakeErr}
use Rattle.salt_codec.specs.EntryTaking.{TakesVec}
use Rattle.std.proofs.Common.{Err, List, ℕ, ◌<◌}

-- where one is not taken, they are not
pub each_fails : {A : Type 0} (take : Take A) (n : ℕ) (bytes : List ℕ) (xs : List A) (i : ℕ) (rest : List ℕ) (e : TakeErr) → i < n
    → TakesSame {A = A} (Err e) (take rest) → Took take n bytes xs i rest → TakesVec {A = A} (Err e) (take_each take n bytes)
each_fails take n bytes xs i rest Misspelled low is h = took_fails take n bytes xs i rest low is h
each_fails take n bytes xs i rest Memory low is h = tt

-- likewise, of a list
pub list_fails : {A : Type 0} (take : Take A) (n : ℕ) (bytes : List ℕ) (xs : List A) (i : ℕ) (rest : List ℕ) (e : TakeErr) → i < n
    → TakesSame {A = A} (Err e) (take rest) → Took take n bytes xs i rest → TakesSame {A = List A} (Err e) (take_each take n bytes)
list_fails take n bytes xs i rest Misspelled low is h = took_fails take n bytes xs i rest low is h
list_fails take n bytes xs i rest Memory low is h = tt
