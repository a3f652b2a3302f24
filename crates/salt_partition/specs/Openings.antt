-- How a partition is made and opened.
use Rattle.salt_bytes.specs.Generations.{BothBlank, Counts, Faulty, LogB, Pair}
use Rattle.salt_disk.specs.Disks.{FullWhere, OnlyFails, View}
use Rattle.salt_disk.specs.declared.disks.DiskErr.{DiskErr}
use Rattle.salt_gatelog.specs.declared.pair.PairErr.TheVariants.{Disk, NotSalt}
use Rattle.salt_gatelog.specs.declared.pair.PairErr.{PairErr}
use Rattle.salt_partition.specs.Choices.{which_of}
use Rattle.salt_partition.specs.Contents.{IsKept, log_of}
use Rattle.salt_partition.specs.Partitions.{IsPartition}
use Rattle.salt_partition.specs.declared.contents.ReadLog.{ReadLog}
use Rattle.salt_partition.specs.declared.generations.Side.{Side}
use Rattle.salt_partition.specs.declared.partition.Partition.{Partition}
use Rattle.salt_stands.specs.Coordinator.{device_of}
use Rattle.salt_stands.specs.FirstOpening.{IsCreated}
use Rattle.salt_stands.specs.OpenedPart.{is_known_log}
use Rattle.salt_stands.specs.Partition.{pages_device, part_device, part_pair}
use Rattle.salt_stands.specs.PartitionLog.{PartitionLog}
use Rattle.salt_stands.specs.Pieces.{PartView}
use Rattle.salt_stands.specs.Stands.{logs_of}
use Rattle.salt_values.specs.declared.id.Id.{Id}
use Rattle.std.specs.Prelude.{Bool, IsTrue, List, None, Option, Some, [], false, if◌then◌else◌, true, ℕ, ◌+◌, ◌<◌, ◌≡◌, ◌∷◌, ◌⊎◌}

abbrev pub are_some : List ℕ → Bool
are_some [] = false
are_some (side ∷ sides) = true

-- the log's header names pages
abbrev pub has_pages : PartitionLog → Bool
has_pages log = are_some log.header.sides

-- the device that a fault of a pair counts against, if it has one
abbrev pub pair_fault : (p : ℕ) → Pair PartitionLog → Option ℕ
pair_fault p BothBlank = Some (device_of (part_device p) LogB)
pair_fault p (Faulty which) = Some (device_of (part_device p) which)
pair_fault p (Counts which log) = None

-- the device that a partition's fault counts against, if it has one: of its pair, of a log that the coordinator's boot and
-- decisions can't have, or of pages, which are not read yet
abbrev pub fault_of : (boot : ℕ) → List Id → (p : ℕ) → Pair PartitionLog → Option ℕ
fault_of boot decided p BothBlank = Some (device_of (part_device p) LogB)
fault_of boot decided p (Faulty which) = Some (device_of (part_device p) which)
fault_of boot decided p (Counts which log) =
    if is_known_log boot decided log then (if has_pages log then Some (pages_device p) else None) else Some (device_of (part_device p) which)

-- by the bytes of its devices
abbrev pub part_fault : (boot : ℕ) → List Id → (p : ℕ) → (ℕ → List ℕ) → Option ℕ
part_fault boot decided p bytes = fault_of boot decided p (part_pair p (logs_of bytes))

-- NotSalt exactly of the device that the pair's fault counts against
abbrev pub IsPairWhy : (bytes : ℕ → List ℕ) → (p : ℕ) → PairErr → Type 0
IsPairWhy bytes p (NotSalt dev) = pair_fault p (part_pair p (logs_of bytes)) ≡ Some dev
IsPairWhy bytes p (Disk e) = OnlyFails (Some e)

-- the log of a partition's pair that counts, as it was read
pub record HasChosen (old new : View) (p : ℕ) (side : Side) (r : ReadLog) : Type 0 where
  pub counts : IsTrue old.told → part_pair p (logs_of old.bytes) ≡ Counts (which_of side) (log_of r)
  pub kept : IsKept new p (device_of (part_device p) (which_of side)) r

-- it opens: its devices have no fault, and the decided units are applied
pub record OpensAs (old new : View) (x : Partition) (boot : ℕ) (decided : List Id) (p : ℕ) : Type 0 where
  pub view : PartView
  pub is : IsPartition new x p view decided
  pub sound : IsTrue old.told → part_fault boot decided p old.bytes ≡ None

-- NotSalt exactly of the device that a fault counts against
abbrev pub IsWhy : (bytes : ℕ → List ℕ) → (boot : ℕ) → List Id → (p : ℕ) → PairErr → Type 0
IsWhy bytes boot decided p (NotSalt dev) = part_fault boot decided p bytes ≡ Some dev
IsWhy bytes boot decided p (Disk e) = OnlyFails (Some e)

-- `Full` comes only where log B is created there and its byte passes the limit, or the header in log A does
abbrev pub FullAtLogs : View → (a end : ℕ) → Option DiskErr → Type 0
FullAtLogs d a end answer = FullWhere (λ dev. ((dev ≡ a) × (d.limit dev < end)) ⊎ ((dev ≡ a + 1) × IsCreated (d.bytes dev) × (d.limit dev < 1))) answer
