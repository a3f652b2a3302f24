-- When a value of `GateLog` is the log of a device, and what a stop may leave of it.
use Rattle.std.specs.Prelude.{◌≡◌, ◌≢◌, ◌⊎◌, ℕ, ◌+◌, ◌≤◌, ◌^◌, ◌<◌, IsTrue, List, [], ◌∷◌, ◌++◌, drop, length, take, Some}
use Rattle.salt_bytes.specs.Log.{entries_in, framed, spelled}
use Rattle.salt_disk.specs.Disks.{View, IsSettled}
use Rattle.salt_gatelog.specs.Block.{IsBlockOf}
use Rattle.salt_gatelog.specs.declared.log.GateLog.{GateLog}

abbrev pub device_of : GateLog → ℕ
device_of log = log.dev

-- where the closed gate stands
abbrev pub gate_of : GateLog → ℕ
gate_of log = log.end

abbrev pub count_of : GateLog → ℕ
count_of log = log.count

-- The first byte is a closed gate.
pub record HasClosedGate (bytes : List ℕ) : Type 0 where
  pub gate : ℕ
  pub rest : List ℕ
  pub is_closed : gate ≢ 1
  pub bytes_are : bytes ≡ gate ∷ rest

-- these entries, and then a closed gate
pub record EndsClosed (entries : List (List ℕ)) (bytes : List ℕ) : Type 0 where
  pub gate : ℕ
  pub rest : List ℕ
  pub is_closed : gate ≢ 1
  pub bytes_are : bytes ≡ spelled entries ++ gate ∷ rest

-- The log has these entries. Where the disks tell their bytes, they are the device's, and nothing is pending.
pub record IsLog (d : View) (log : GateLog) (entries : List (List ℕ)) : Type 0 where
  pub known : log.dev < d.count
  pub end : log.end ≡ length (spelled entries)
  pub room : log.end + 1 < 2 ^ 64
  pub count : log.count ≡ length entries
  pub file : IsTrue d.told → EndsClosed entries (d.bytes log.dev)
  pub settled : IsSettled d log.dev
  -- where the entry stands that was found last, or the one behind it
  pub next : log.next ≤ log.count
  pub within : log.place ≤ log.end
  pub place : IsTrue d.told → log.place ≡ length (spelled (take log.next entries))
  pub block : IsBlockOf d log.dev log.block

-- These bytes stand for the entries, with one more or without it.
abbrev pub IsBeforeOrWith : List (List ℕ) → List ℕ → List ℕ → Type 0
IsBeforeOrWith entries payload bytes = (entries_in bytes ≡ Some entries) ⊎ (entries_in bytes ≡ Some (entries ++ payload ∷ []))

-- what stands in a frame before its payload: room for its length
abbrev pub front : List ℕ
front = 0 ∷ 0 ∷ 0 ∷ 0 ∷ 0 ∷ 0 ∷ 0 ∷ 0 ∷ []

abbrev pub payload_in : List ℕ → List ℕ
payload_in frame = drop 8 frame

-- An entry with this payload stands at a place.
pub record StandsAt (payload bytes : List ℕ) (at : ℕ) : Type 0 where
  pub rest : List ℕ
  pub bytes_are : drop at bytes ≡ 1 ∷ (framed payload ++ rest)
