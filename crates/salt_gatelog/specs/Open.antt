-- What stands at a place of a device, and why a log is not opened.
use Rattle.std.specs.Prelude.{◌≡◌, ℕ, ◌+◌, ◌<◌, ◌≤◌, ◌^◌, List, [], ◌∷◌, ◌++◌, length, Option, Some, None, Result, Ok, Err, IsTrue}
use Rattle.std.specs.Int.{w64, to_be_bytes}
use Rattle.salt_disk.specs.Disks.{View, OnlyFails}
use Rattle.salt_gatelog.specs.declared.log.GateLog.{GateLog}
use Rattle.salt_disk.specs.declared.disks.DiskErr.{DiskErr}
use Rattle.salt_bytes.specs.Log.{entries_in, entries_up_to}
use Rattle.salt_gatelog.specs.Log.{HasClosedGate, IsLog}
use Rattle.salt_gatelog.specs.declared.open.LogErr.{LogErr}
use Rattle.salt_gatelog.specs.declared.open.LogErr.TheVariants.{Blank, NotLog, Disk}
use Rattle.salt_gatelog.specs.declared.open.Step.{Step}
use Rattle.salt_gatelog.specs.declared.open.Step.TheVariants.{Closed, Entry, Ends, Cut}

-- an open gate, a length, and where the payload would end
pub record OpenEntry (bytes : List ℕ) (at next : ℕ) : Type 0 where
  pub size : ℕ
  pub rest : List ℕ
  pub bytes_are : bytes ≡ 1 ∷ (to_be_bytes w64 size ++ rest)
  pub next_is : next ≡ at + 9 + size

-- these bytes hold no entries and a closed gate
abbrev pub HasNoEnd : List ℕ → Type 0
HasNoEnd bytes = (n : ℕ) → entries_up_to n bytes ≡ None

abbrev pub IsStep : List ℕ → ℕ → Step → Type 0
IsStep bytes at Closed = HasClosedGate bytes
IsStep bytes at (Entry next) = OpenEntry bytes at next
IsStep bytes at Ends = (length bytes ≤ 1) × HasNoEnd bytes
IsStep bytes at Cut = (2 ≤ length bytes) × HasNoEnd bytes

-- what holds of any disks
abbrev pub IsPast : ℕ → Step → Type 0
IsPast at Closed = at + 1 < 2 ^ 64
IsPast at (Entry next) = (at + 9 ≤ next) × (next < 2 ^ 64)
IsPast at Ends = Unit {0}
IsPast at Cut = Unit {0}

abbrev pub disk_err : {T : Type 0} → Result T LogErr → Option DiskErr
disk_err (Err (Disk e)) = Some e
disk_err (Err Blank) = None
disk_err (Err NotLog) = None
disk_err (Ok x) = None

-- Blank exactly where the device is blank, NotLog exactly where it is neither blank nor a log.
abbrev pub IsWhy : List ℕ → LogErr → Type 0
IsWhy bytes Blank = entries_in bytes ≡ Some []
IsWhy bytes NotLog = entries_in bytes ≡ None
IsWhy bytes (Disk e) = OnlyFails (Some e)

-- The log has entries, at least one; where the disks tell their bytes, they are those of the device.
pub record OpensAs (old new : View) (log : GateLog) : Type 0 where
  pub entries : List (List ℕ)
  pub is_log : IsLog new log entries
  pub some : 0 < length entries
  pub stands : IsTrue old.told → entries_in (old.bytes log.dev) ≡ Some entries
