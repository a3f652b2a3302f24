-- The bytes of pages on their two sides, and what writes leave of those that a header names.
use Rattle.salt_checkpoint.specs.declared.writes.Write.{Write}
use Rattle.salt_bytes.specs.Page.{page_length, page_place}
use Rattle.salt_disk.specs.Disks.{View, written}
use Rattle.std.specs.Prelude.{List, Some, [], drop, length, max, slice_get, take, ℕ, ⊤, ◌+◌, ◌∷◌, ◌≡◌, ◌≤◌, ◌⊎◌}

-- the bytes of a page on a side
abbrev pub side_bytes : List ℕ → (page side : ℕ) → List ℕ
side_bytes bytes page side = take page_length (drop (page_place page side) bytes)

-- the bytes of each page are as they were, on the side that is named
pub record NamedSame (sides : List ℕ) (old new : List ℕ) : Type 0 where
  pub each : (page side : ℕ) → slice_get sides page ≡ Some side → side_bytes new page side ≡ side_bytes old page side

-- n bytes from there on are of no side that is named
pub record Spares (sides : List ℕ) (at n : ℕ) : Type 0 where
  pub each : (page side : ℕ) → slice_get sides page ≡ Some side → (page_place page side + page_length ≤ at) ⊎ (at + n ≤ page_place page side)

-- so is each of these writes
abbrev pub SpareNamed : List ℕ → List Write → Type 0
SpareNamed sides [] = ⊤
SpareNamed sides (w ∷ ws) = Spares sides w.at (length w.bytes) × SpareNamed sides ws

-- each begins at most where the bytes end that stand there when it comes
abbrev pub LeaveNoGap : ℕ → List Write → Type 0
LeaveNoGap n [] = ⊤
LeaveNoGap n (w ∷ ws) = (w.at ≤ n) × LeaveNoGap (max n (w.at + length w.bytes)) ws

-- what they make of bytes, one after another
abbrev pub all_written : List Write → List ℕ → List ℕ
all_written [] bytes = bytes
all_written (w ∷ ws) bytes = all_written ws (written bytes w.at w.bytes)

-- each image of the device was one before, but for sides that are not named
abbrev pub KeepsNamed : List ℕ → View → View → ℕ → Type 0
KeepsNamed sides old new dev = (c : List ℕ) → new.image dev c → (d : List ℕ) × old.image dev d × NamedSame sides d c

-- where the furthest of these writes ends; 0 where there is none
abbrev pub writes_end : List Write → ℕ
writes_end [] = 0
writes_end (w ∷ ws) = max (w.at + length w.bytes) (writes_end ws)
