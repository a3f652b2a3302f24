-- Which partition a key's row stands in.
use Rattle.salt_values.specs.declared.limits.TheConstants.{PARTITIONS_MOST}
use Rattle.salt_values.specs.Value.{IsKey}
use Rattle.salt_place.specs.declared.placement.PlaceKind.{PlaceKind}
use Rattle.salt_place.specs.declared.placement.PlaceKind.TheVariants.{Bands, Remainder}
use Rattle.salt_values.specs.declared.value.Value.{Value}
use Rattle.salt_values.specs.declared.value.Value.TheVariants.{Int, Null, Text}
use Rattle.std.specs.Int.{int_div_euclid, int_rem_euclid}
use Rattle.std.specs.Prelude.{List, [], pos, sum, unsigned_abs, ℕ, ℤ, ◌%◌, ◌*◌, ◌-◌, ◌/◌, ◌∷◌, ◌≡◌, ◌≤◌}
use Rattle.std.specs.Borrow.{Bor}

-- the remainder from 0 to n - 1, also of a negative number
abbrev pub remainder : ℤ → ℕ → ℕ
remainder z n = unsigned_abs (int_rem_euclid z (pos n))

-- bytes 32 to 126 in n bands, by the first; none stands in the first band
abbrev pub band_of : List ℕ → ℕ → ℕ
band_of [] n = 0
band_of (b ∷ bs) n = (b - 32) * n / 95

-- of a key, which is never NULL
abbrev pub place_of : PlaceKind → Value → ℕ → ℕ
place_of kind Null n = 0
place_of Remainder (Int z) n = remainder z n
place_of Remainder (Text t) n = sum t % n
place_of Bands (Int z) n = remainder (int_div_euclid z (pos 1024)) n
place_of Bands (Text t) n = band_of t n

-- from 1 to 8
abbrev pub IsParts : ℕ → Type 0
IsParts n = (1 ≤ n) × (n ≤ PARTITIONS_MOST)

-- a closure, by what its calls require, may be called at each kind, each key and 1 to 8 parts
abbrev pub TakesEachKey : (PlaceKind → Bor Value → ℕ → Type 0) → Type 0
TakesEachKey pre = (kind : PlaceKind) (key : Bor Value) (parts : ℕ) → IsKey key.now → IsParts parts → pre kind key parts

-- and by what its calls ensure, gives `place_of` there
abbrev pub GivesPlaceOf : (PlaceKind → Bor Value → ℕ → ℕ → Type 0) → Type 0
GivesPlaceOf post = (kind : PlaceKind) (key : Bor Value) (parts part : ℕ) → IsKey key.now → IsParts parts
    → post kind key parts part → part ≡ place_of kind key.now parts
