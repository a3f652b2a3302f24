-- Which image a stop leaves, by its pick.
use Rattle.salt_disk.specs.declared.device.Device.{Device}
use Rattle.std.specs.Prelude.{IsNone, IsSome, List, None, Option, Some, if◌then◌else◌, length, slice_index, slice_index_or, suc, zero, ℕ, ◌+◌, ◌-◌, ◌/◌, ◌<◌, ◌==◌, ◌≡◌, ◌≤◌}

abbrev pub mark_at : List (Option ℕ) → ℕ → Option ℕ
mark_at marks k = slice_index_or marks k None

-- a row of marked places, from the place `start` among the marks up to that of `end`, that no marked place is beside
pub record IsRun (marks : List (Option ℕ)) (start end : ℕ) : Type 0 where
  pub some : start < end
  pub marked : (k : ℕ) → start ≤ k → k < end → IsSome (mark_at marks k)
  pub before : (k : ℕ) → suc k ≡ start → IsNone (mark_at marks k)
  pub behind : IsNone (mark_at marks end)

-- each marked place that is there has the byte of the last sync
abbrev pub HasSynced : (from : ℕ) (marks : List (Option ℕ)) (new : List ℕ) → Type 0
HasSynced from marks new = (k byte : ℕ) → from + k < length new → mark_at marks k ≡ Some byte → slice_index new (from + k) ≡ byte

-- each marked place has this byte
abbrev pub HasEach : (from : ℕ) (marks : List (Option ℕ)) (new : List ℕ) → ℕ → Type 0
HasEach from marks new value = (k byte : ℕ) → mark_at marks k ≡ Some byte → slice_index new (from + k) ≡ value

-- the first half of a run, rounded down, is as it was written, and the rest as at the last sync
pub record IsHalved (from : ℕ) (marks : List (Option ℕ)) (old new : List ℕ) (start end : ℕ) : Type 0 where
  pub first : (k : ℕ) → start ≤ k → k < start + (end - start) / 2 → slice_index new (from + k) ≡ slice_index old (from + k)
  pub rest : (k byte : ℕ) → start + (end - start) / 2 ≤ k → k < end → mark_at marks k ≡ Some byte → slice_index new (from + k) ≡ byte

abbrev pub AreHalved : (from : ℕ) (marks : List (Option ℕ)) (old new : List ℕ) → Type 0
AreHalved from marks old new = (start end : ℕ) → IsRun marks start end → IsHalved from marks old new start end

-- what each pick makes of the pending bytes
abbrev pub HasPicked : ℕ → (from : ℕ) (marks : List (Option ℕ)) (old new : List ℕ) → Type 0
HasPicked zero from marks old new = HasSynced from marks new
HasPicked (suc zero) from marks old new = new ≡ old
HasPicked (suc (suc zero)) from marks old new = AreHalved from marks old new
HasPicked (suc (suc (suc zero))) from marks old new = HasEach from marks new 1
HasPicked (suc (suc (suc (suc n)))) from marks old new = HasEach from marks new 255

-- the length is that of the last sync with pick 0, and else that as written
abbrev pub left_length : ℕ → Device → ℕ
left_length pick d = if pick == 0 then d.synced_len else length d.now.items
