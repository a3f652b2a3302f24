-- What an opening answers, by the coordinator's pair of logs.
use Rattle.salt_bytes.specs.Coordinator.{spell_header}
use Rattle.salt_bytes.specs.Generations.{BothBlank, Counts, Faulty, LogA, Pair, WhichLog}
use Rattle.salt_bytes.specs.Log.{entries_in}
use Rattle.salt_decisions.specs.Decisions.{IsDecisions}
use Rattle.salt_decisions.specs.Kept.{IsKept}
use Rattle.salt_gatelog.specs.declared.unopened.OpenErr.TheVariants.{Failed, Full, Memory, NotSalt, NumbersSpent, OtherShape, Stopped}
use Rattle.salt_gatelog.specs.declared.unopened.OpenErr.{OpenErr}
use Rattle.salt_decisions.specs.declared.decisions.Decisions.{Decisions}
use Rattle.salt_decisions.specs.declared.header_payload.TheConstants.{FORMAT}
use Rattle.salt_decisions.specs.declared.kept.Kept.{Kept}
use Rattle.salt_disk.specs.Disks.{FullWhere, OnlyFails, View}
use Rattle.salt_disk.specs.declared.disks.DiskErr.{DiskErr}
use Rattle.salt_gatelog.specs.declared.pair.PairErr.TheVariants as peek
use Rattle.salt_gatelog.specs.declared.pair.PairErr.{PairErr}
use Rattle.salt_stands.specs.Coordinator.{coordinator_pair, device_of}
use Rattle.salt_stands.specs.CoordinatorLog.{CoordinatorLog, told_by_header}
use Rattle.salt_stands.specs.FirstOpening.{IsCreated, first_header}
use Rattle.salt_stands.specs.Stands.{are_spent, is_same_shape, logs_of}
use Rattle.salt_place.specs.declared.placement.Shape.{Shape}
use Rattle.std.specs.Prelude.{Err, IsTrue, List, None, Ok, Option, Result, Some, [], false, length, true, ℕ, ⊤, ◌+◌, ◌<◌, ◌∷◌, ◌≡◌, ◌⊎◌}

-- the pair's fault counts against this device
pub record IsFaulty (dev : ℕ) (pair : Pair CoordinatorLog) : Type 0 where
  pub which : WhichLog
  pub is : pair ≡ Faulty which
  pub device : dev ≡ device_of 0 which

-- a log counts, which has this shape and keeps this on its device
pub record IsPeeked (shape : Shape) (kept : Kept) (pair : Pair CoordinatorLog) : Type 0 where
  pub which : WhichLog
  pub log : CoordinatorLog
  pub counts : pair ≡ Counts which log
  pub has_shape : shape ≡ log.header.shape
  pub keeps : IsKept kept log
  pub device : kept.device ≡ device_of 0 which

-- a fault, or the disks or memory failed
abbrev pub PeekFails : PairErr → Pair CoordinatorLog → Type 0
PeekFails (peek.NotSalt dev) pair = IsFaulty dev pair
PeekFails (peek.Disk e) pair = OnlyFails (Some e)

abbrev pub Peeks : Result (Option (Shape × Kept)) PairErr → Pair CoordinatorLog → Type 0
Peeks (Ok None) pair = pair ≡ BothBlank
Peeks (Ok (Some found)) pair = IsPeeked found.0 found.1 pair
Peeks (Err e) pair = PeekFails e pair

-- WHERE IT IS OPENED, with a shape that is asked for

-- the log of a new coordinator
abbrev pub begun : Shape → CoordinatorLog
begun asked = record { header = first_header asked FORMAT; told = told_by_header (first_header asked FORMAT) }

-- a log counts, or the pair was blank and its log A is begun
abbrev pub IsStood : Pair CoordinatorLog → Shape → WhichLog → CoordinatorLog → Type 0
IsStood pair asked which log = (pair ≡ Counts which log) ⊎ ((pair ≡ BothBlank) × ((which ≡ LogA) × (log ≡ begun asked)))

-- what is opened is the log that counts; it has the shape that is asked for, and its numbers are not spent
pub record IsOpened (d e : View) (asked : Shape) (x : Decisions) (kept : Kept) : Type 0 where
  pub which : WhichLog
  pub log : CoordinatorLog
  pub is : IsDecisions e x which log
  pub keeps : IsKept kept log
  pub device : kept.device ≡ device_of 0 which
  pub has_shape : is_same_shape log.header.shape asked ≡ true
  pub unspent : are_spent log.told.boot log.told.decisions ≡ false
  pub stood : IsTrue d.told → IsStood (coordinator_pair (logs_of d.bytes)) asked which log

-- a log counts, and has another shape
pub record IsOther (kept asked : Shape) (pair : Pair CoordinatorLog) : Type 0 where
  pub which : WhichLog
  pub log : CoordinatorLog
  pub counts : pair ≡ Counts which log
  pub has_shape : kept ≡ log.header.shape
  pub differs : is_same_shape kept asked ≡ false

-- a log counts, of this shape, and its numbers are spent
pub record IsSpent (boot decisions : ℕ) (asked : Shape) (pair : Pair CoordinatorLog) : Type 0 where
  pub which : WhichLog
  pub log : CoordinatorLog
  pub counts : pair ≡ Counts which log
  pub has_shape : is_same_shape log.header.shape asked ≡ true
  pub has_boot : boot ≡ log.told.boot
  pub has_decisions : decisions ≡ log.told.decisions
  pub spent : are_spent boot decisions ≡ true

-- only where the pair is blank is anything written, and so a write too long, or stopped
abbrev pub OpenFails : Shape → Pair CoordinatorLog → OpenErr → Type 0
OpenFails asked pair (NotSalt dev) = IsFaulty dev pair
OpenFails asked pair (OtherShape kept wanted) = (wanted ≡ asked) × IsOther kept asked pair
OpenFails asked pair (NumbersSpent boot decisions) = IsSpent boot decisions asked pair
OpenFails asked pair Failed = ⊤
OpenFails asked pair Stopped = pair ≡ BothBlank
OpenFails asked pair (Full dev) = pair ≡ BothBlank
OpenFails asked pair Memory = ⊤

abbrev pub first_payload : Shape → List ℕ
first_payload asked = spell_header (first_header asked FORMAT)

-- what a first opening may leave of log A: nothing, or the first header
abbrev pub IsFirstImage : Shape → List ℕ → Type 0
IsFirstImage asked bytes = (entries_in bytes ≡ Some []) ⊎ (entries_in bytes ≡ Some (first_payload asked ∷ []))

abbrev pub IsBlankImage : List ℕ → Type 0
IsBlankImage bytes = entries_in bytes ≡ Some []

-- `Full` comes only where log B is created there and its byte passes the limit, or the header in log A does
abbrev pub FullAtFirst : View → (payload : List ℕ) → Option DiskErr → Type 0
FullAtFirst d payload answer = FullWhere (λ dev. ((dev ≡ 1) × IsCreated (d.bytes 1) × (d.limit 1 < 1)) ⊎ ((dev ≡ 0) × (d.limit 0 < 10 + length payload))) answer
