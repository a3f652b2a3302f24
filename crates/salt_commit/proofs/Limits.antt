-- A device that was full as a store was begun.
use Rattle.salt_bytes.specs.Generations.{BothBlank}
use Rattle.salt_bytes.specs.Partition.{spell_partition_header}
use Rattle.salt_commit.proofs.Beginning.{still_blank}
use Rattle.salt_commit.specs.Openings.{PartPassesLimit, StorePassesLimit}
use Rattle.salt_stands.specs.LogDevices.{IsPartLog}
use Rattle.salt_gatelog.specs.Answers.{open_disk_err_of}
use Rattle.salt_decisions.specs.Opened.{FullAtFirst, first_payload}
use Rattle.salt_gatelog.specs.declared.unopened.OpenErr.TheVariants as opening
use Rattle.salt_gatelog.specs.declared.unopened.OpenErr.{OpenErr}
use Rattle.salt_disk.specs.Disks.{FullWhere, KeepsBut, View}
use Rattle.salt_disk.specs.declared.disks.DiskErr.TheVariants.{Failed, Full, Memory, Stopped}
use Rattle.salt_disk.specs.declared.disks.DiskErr.{DiskErr}
use Rattle.salt_partition.specs.Openings.{FullAtLogs}
use Rattle.salt_stands.specs.Coordinator.{coordinator_pair}
use Rattle.salt_stands.specs.FirstOpening.{first_part_header}
use Rattle.salt_stands.specs.Partition.{part_device}
use Rattle.salt_stands.specs.Stands.{logs_of}
use Rattle.salt_place.specs.declared.placement.Shape.{Shape}
use Rattle.std.proofs.Common.{None, Option, Some, inl, inr, length, refl, ℕ, ◌+◌, ◌<◌, ◌≡◌}

-- a log of a partition
pub part_full : (e : View) (n parts : ℕ) (answer : Option DiskErr) → n < parts → FullAtLogs e (part_device n) (10 + length (spell_partition_header (first_part_header 2 n))) answer → FullWhere (PartPassesLimit e parts) answer
part_full e n parts None low full = tt
part_full e n parts (Some Failed) low full = tt
part_full e n parts (Some Stopped) low full = tt
part_full e n parts (Some (Full dev)) low full = record { p = n; low = low; passes = full }
part_full e n parts (Some Memory) low full = tt

-- and then the coordinator's logs are blank yet
pub parts_full : (d e : View) (asked : Shape) (answer : Option DiskErr) → KeepsBut (IsPartLog asked.parts) d e answer → coordinator_pair (logs_of d.bytes) ≡ BothBlank → FullWhere (PartPassesLimit e asked.parts) answer
    → FullWhere (StorePassesLimit e asked) answer
parts_full d e asked None keeps blank full = tt
parts_full d e asked (Some Failed) keeps blank full = tt
parts_full d e asked (Some Stopped) keeps blank full = tt
parts_full d e asked (Some (Full dev)) keeps blank full = record { blank = still_blank d e asked.parts keeps.kept blank; passes = inr full }
parts_full d e asked (Some Memory) keeps blank full = tt

-- a log of the coordinator
pub decisions_full : (e : View) (asked : Shape) (err : OpenErr) → FullAtFirst e (first_payload asked) (open_disk_err_of err) → ((dev : ℕ) → err ≡ opening.Full dev → coordinator_pair (logs_of e.bytes) ≡ BothBlank)
    → FullWhere (StorePassesLimit e asked) (open_disk_err_of err)
decisions_full e asked (opening.NotSalt dev) full blank = tt
decisions_full e asked (opening.OtherShape kept wanted) full blank = tt
decisions_full e asked (opening.NumbersSpent boot decisions) full blank = tt
decisions_full e asked opening.Failed full blank = tt
decisions_full e asked opening.Stopped full blank = tt
decisions_full e asked (opening.Full dev) full blank = record { blank = blank dev refl; passes = inl full }
decisions_full e asked opening.Memory full blank = tt
