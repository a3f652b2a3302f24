-- The free bytes of pages, and the most of them on many.
use Rattle.std.specs.List.{All}
use Rattle.std.specs.Prelude.{Bool, List, None, Option, Some, get_or, length, max, nat_le, sum, ℕ, ◌*◌, ◌+◌, ◌<◌, ◌≡◌, ◌≤◌}

-- the most of a page's free bytes and of what stands for the two below it, of which there may be none
abbrev pub most_from : (free most : List ℕ) → ℕ → ℕ
most_from free most page = max (get_or free page 0) (max (get_or most (2 * page + 1) 0) (get_or most (2 * page + 2) 0))

-- for each page the most free bytes on it and below it
pub record AreMost (free most : List ℕ) : Type 0 where
  pub count : length most ≡ length free
  pub each : (page : ℕ) → page < length free → get_or most page 0 ≡ most_from free most page

-- the same of each page but one, for which any number stands
pub record AreMostBut (one : ℕ) (free most : List ℕ) : Type 0 where
  pub count : length most ≡ length free
  pub each : (page : ℕ) → page < length free → (page ≡ one → ⊥) → get_or most page 0 ≡ most_from free most page

-- their numbers are of 32 bits
abbrev pub IsFew : List ℕ → Type 0
IsFew free = length free < 4294967296

-- a page with so many free bytes; none exactly where there is none
abbrev pub HasRoom : List ℕ → ℕ → Option ℕ → Type 0
HasRoom free n None = (page : ℕ) → page < length free → get_or free page 0 < n
HasRoom free n (Some page) = (page < length free) × (n ≤ get_or free page 0)

-- the free bytes of all pages, of which none has 65,536
pub record IsSumOf (free : List ℕ) (total : ℕ) : Type 0 where
  pub is : total ≡ sum free
  pub small : All (λ n. n ≤ 65535) free

-- of each page 4,076 bytes at least are used on the whole, so that there may be one more
abbrev pub may_grow : List ℕ → Bool
may_grow free = nat_le (sum free) (length free * 4114)
