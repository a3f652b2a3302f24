-- The bytes that sources give and sinks take, where they are told, and counts of faults.
use Rattle.std.specs.Prelude.{◌≡◌, ℕ, ◌+◌, ◌-◌, ◌^◌, ◌<◌, ◌≤◌, min, List, [], ◌++◌, length, Option, Some, None, option_map}

-- A count of faults has risen. A u64 that counts stays at its last value.
abbrev pub Rose : ℕ → ℕ → Type 0
Rose before now = min (before + 1) (2 ^ 64 - 1) ≤ now

-- these bytes and then those that are left, where told
abbrev pub bytes_before : List ℕ → Option (List ℕ) → Option (List ℕ)
bytes_before bytes left = option_map (λ rest. bytes ++ rest) left

-- These bytes stood first, and have been taken away.
abbrev pub Takes : Option (List ℕ) → List ℕ → Option (List ℕ) → Type 0
Takes old bytes new = old ≡ bytes_before bytes new

-- These bytes have been put behind those that were there.
abbrev pub Gains : Option (List ℕ) → List ℕ → Option (List ℕ) → Type 0
Gains old bytes new = new ≡ option_map (λ held. held ++ bytes) old

-- Some first part of these bytes has been put behind those that were there.
pub record GainsSome (old : Option (List ℕ)) (bytes : List ℕ) (new : Option (List ℕ)) : Type 0 where
  pub part : List ℕ
  pub others : List ℕ
  pub whole : bytes ≡ part ++ others
  pub gained : Gains old part new

-- Some first part of these bytes has been put behind those that were there, and not all of them.
pub record GainsShort (old : Option (List ℕ)) (bytes : List ℕ) (new : Option (List ℕ)) : Type 0 where
  pub part : List ℕ
  pub missing : List ℕ
  pub whole : bytes ≡ part ++ missing
  pub some : 0 < length missing
  pub gained : Gains old part new

-- No byte is left, where that is told.
abbrev pub IsAtEnd : Option (List ℕ) → Type 0
IsAtEnd None = Unit {0}
IsAtEnd (Some rest) = rest ≡ []
