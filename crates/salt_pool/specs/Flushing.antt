-- What a flush writes: each dirty page at the place of its side, and zeros before it where the device ends below.
use Rattle.salt_bytes.specs.Page.{page_length, page_place}
use Rattle.salt_bytes.specs.Spellable.{Every}
use Rattle.salt_checkpoint.specs.Sides.{side_bytes}
use Rattle.salt_checkpoint.specs.declared.writes.Write.{Write}
use Rattle.salt_disk.specs.Disks.{View}
use Rattle.salt_pool.specs.Dirtied.{goes_to}
use Rattle.salt_pool.specs.declared.places.Dirty.{Dirty}
use Rattle.std.specs.Map.{lookup}
use Rattle.std.specs.Prelude.{Bool, IsTrue, List, None, Option, Some, [], false, is_some, length, max, nat_eq, nat_lt, replicate, slice_get, true, ℕ, ⊤, ◌+◌, ◌++◌, ◌-◌, ◌∷◌, ◌≡◌, ◌≤◌, ◌⊎◌}

abbrev pub place_of : Dirty → ℕ
place_of d = page_place d.page d.side

abbrev pub zeros_if : Bool → (len at : ℕ) → List Write
zeros_if true len at = record { at = len; bytes = replicate (at - len) 0 } ∷ []
zeros_if false len at = []

abbrev pub zeros_before : (len at : ℕ) → List Write
zeros_before len at = zeros_if (nat_lt len at) len at

-- with one page written, the device ends at least behind it
abbrev pub length_with : ℕ → Dirty → ℕ
length_with len d = max len (place_of d + page_length)

abbrev pub writes_one : (ℕ → List ℕ) → Dirty → ℕ → List Write
writes_one bytes d len = zeros_before len (place_of d) ++ record { at = place_of d; bytes = bytes d.page } ∷ []

abbrev pub writes_of : (ℕ → List ℕ) → List Dirty → ℕ → List Write
writes_of bytes [] len = []
writes_of bytes (d ∷ ds) len = writes_one bytes d len ++ writes_of bytes ds (length_with len d)

-- with all of them written
abbrev pub length_behind : ℕ → List Dirty → ℕ
length_behind len [] = len
length_behind len (d ∷ ds) = length_behind (length_with len d) ds

-- where the furthest of these pages ends on its side; 0 where there is none
abbrev pub end_of : List Dirty → ℕ
end_of [] = 0
end_of (d ∷ ds) = max (place_of d + page_length) (end_of ds)

-- Sides that stand on a device of this length, and to which none of these pages goes, have the bytes that they had.
pub record SameSides (len : ℕ) (ds : List Dirty) (old new : List ℕ) : Type 0 where
  pub each : (page side : ℕ) → side ≤ 1 → page_place page side + page_length ≤ len → goes_to ds page side ≡ false → side_bytes new page side ≡ side_bytes old page side

-- so has each image of the device, of one that it had
abbrev pub KeepsSides : ℕ → List Dirty → View → View → ℕ → Type 0
KeepsSides len ds old new dev = (c : List ℕ) → new.image dev c → (b : List ℕ) × old.image dev b × SameSides len ds b c

-- each side that a header names stands on a device of this length, and none of these pages goes to it
pub record AreSpared (sides : List ℕ) (len : ℕ) (ds : List Dirty) : Type 0 where
  pub each : (page side : ℕ) → slice_get sides page ≡ Some side → (side ≤ 1) × (page_place page side + page_length ≤ len) × (goes_to ds page side ≡ false)

-- A device as writes of these pages left it, of all of them or of some: where the disks tell, it is this long now, and other sides are
-- as they were.
pub record IsLeftBy (len : ℕ) (ds : List Dirty) (old new : View) (dev now : ℕ) : Type 0 where
  pub ends : IsTrue old.told → now ≡ length (new.bytes dev)
  pub sides : IsTrue old.told → SameSides len ds (old.bytes dev) (new.bytes dev)

-- each page begins at most one page behind the end that stands when it comes
abbrev pub AreNear : ℕ → List Dirty → Type 0
AreNear len [] = ⊤
AreNear len (d ∷ ds) = (place_of d ≤ len + page_length) × AreNear (length_with len d) ds

-- it begins at most one page behind this end, or goes to side 0
abbrev pub BeginsNear : ℕ → Dirty → Type 0
BeginsNear len d = (place_of d ≤ len + page_length) ⊎ (d.side ≡ 0)

-- the bytes of a page in its frame
abbrev pub bytes_of : {P : Type 0} → (P → List ℕ) → Option P → List ℕ
bytes_of spell None = []
bytes_of spell (Some page) = spell page

abbrev pub bytes_in : {P : Type 0} → (P → List ℕ) → List (ℕ × P) → ℕ → List ℕ
bytes_in spell frames page = bytes_of spell (lookup (nat_eq page) frames)

-- each has a frame
abbrev pub AreFramed : {P : Type 0} → List (ℕ × P) → List Dirty → Type 0
AreFramed frames ds = Every (λ d. is_some (lookup (nat_eq d.page) frames) ≡ true) ds

-- each stands on its side, as its frame has it
abbrev pub AreOnSides : {P : Type 0} → (P → List ℕ) → List (ℕ × P) → List Dirty → List ℕ → Type 0
AreOnSides spell frames ds bytes = Every (λ d. side_bytes bytes d.page d.side ≡ bytes_in spell frames d.page) ds

-- a frame's page is spelled in a page's bytes, which spell that page
abbrev pub IsSpelledBack : {P : Type 0} → (P → List ℕ) → (List ℕ → Option P) → Option P → Type 0
IsSpelledBack spell spelled_in None = ⊤
IsSpelledBack spell spelled_in (Some page) = (length (spell page) ≡ page_length) × (spelled_in (spell page) ≡ Some page)

abbrev pub AreSpelledBack : {P : Type 0} → (P → List ℕ) → (List ℕ → Option P) → List (ℕ × P) → List Dirty → Type 0
AreSpelledBack spell spelled_in frames ds = Every (λ d. IsSpelledBack spell spelled_in (lookup (nat_eq d.page) frames)) ds
