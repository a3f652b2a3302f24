-- How a partition is read from its devices, and opened.
use Rattle.salt_bytes.specs.Formats.{has_nulls}
use Rattle.salt_bytes.specs.Generations.{BothBlank, Counts, Faulty, LogB, Pair, WhichLog}
use Rattle.salt_bytes.specs.Log.{entries_in}
use Rattle.salt_bytes.specs.Page.{TableRow}
use Rattle.salt_bytes.specs.Partition.{Prepared}
use Rattle.salt_checkpoint.specs.Checkpoints.{NamedSettled}
use Rattle.salt_directory.specs.Bytes.{bytes_of_changes, bytes_of_entries}
use Rattle.salt_disk.specs.Disks.{IsSettled, OnlyFails, View}
use Rattle.salt_gatelog.specs.Log as gates
use Rattle.salt_gatelog.specs.Log.{IsLog}
use Rattle.salt_gatelog.specs.declared.log.GateLog.{GateLog}
use Rattle.salt_gatelog.specs.declared.pair.PairErr.TheVariants.{Disk, NotSalt}
use Rattle.salt_gatelog.specs.declared.pair.PairErr.{PairErr}
use Rattle.salt_model.specs.Tables.{Tables, no_rows, with_changes}
use Rattle.salt_paged.specs.Partitions.{IsPartition, IsTold, StandsUpTo}
use Rattle.salt_paged.specs.declared.found.FoundLog.{FoundLog}
use Rattle.salt_paged.specs.declared.partition.Partition.{Partition}
use Rattle.salt_paged.specs.declared.redo.ReadPartition.{ReadPartition}
use Rattle.salt_partition.specs.Choices.{which_of}
use Rattle.salt_partition.specs.Contents.{ArePut, IsKept, log_of, units_of}
use Rattle.salt_rows.specs.Stores.{HaveRows, IsRowStore, sides_of}
use Rattle.salt_rows.specs.declared.store.RowStore.{RowStore}
use Rattle.salt_stands.specs.Coordinator.{device_of}
use Rattle.salt_stands.specs.OpenedPart.{is_known_log}
use Rattle.salt_stands.specs.Partition.{are_distinct, decided_changes, pages_device, part_device, part_pair, rows_from}
use Rattle.salt_stands.specs.PartitionLog.{PartitionLog}
use Rattle.salt_stands.specs.Pieces.{PartView, other_log}
use Rattle.salt_stands.specs.Stands.{logs_of}
use Rattle.salt_stands.specs.Tables.{change_of_row}
use Rattle.salt_values.specs.Id.{has_id}
use Rattle.salt_values.specs.declared.id.Id.{Id}
use Rattle.std.specs.List.{list_all}
use Rattle.std.specs.Prelude.{Bool, IsTrue, List, None, Option, Some, [], false, if◌then◌else◌, length, map, max, ℕ, ⊤, ◌&&◌, ◌+◌, ◌/◌, ◌<◌, ◌≡◌, ◌∷◌}

-- FAULTS

abbrev pub stand_apart : Option (List TableRow) → Bool
stand_apart None = false
stand_apart (Some rows) = are_distinct (map change_of_row rows)

-- the sides that the log's header names spell pages, and no two rows on them stand at one place
abbrev pub has_pages : PartitionLog → List ℕ → Bool
has_pages log pages = stand_apart (rows_from (has_nulls log.header.format) pages 0 log.header.sides)

-- the same, and each of these rows is sound
abbrev pub stand_soundly : (TableRow → Bool) → Option (List TableRow) → Bool
stand_soundly sound None = false
stand_soundly sound (Some rows) = list_all sound rows && are_distinct (map change_of_row rows)

abbrev pub has_sound_pages : (TableRow → Bool) → PartitionLog → List ℕ → Bool
has_sound_pages sound log pages = stand_soundly sound (rows_from (has_nulls log.header.format) pages 0 log.header.sides)

-- the device that a fault of a partition's log counts against, if it has one: of its pair, or of a log that the coordinator's boot and
-- decisions can't have
abbrev pub log_fault : (boot : ℕ) → List Id → (p : ℕ) → Pair PartitionLog → Option ℕ
log_fault boot decided p BothBlank = Some (device_of (part_device p) LogB)
log_fault boot decided p (Faulty which) = Some (device_of (part_device p) which)
log_fault boot decided p (Counts which log) = if is_known_log boot decided log then None else Some (device_of (part_device p) which)

-- the same, or of its pages, which have these bytes
abbrev pub fault_of : (boot : ℕ) → List Id → (p : ℕ) → (pages : List ℕ) → Pair PartitionLog → Option ℕ
fault_of boot decided p pages BothBlank = Some (device_of (part_device p) LogB)
fault_of boot decided p pages (Faulty which) = Some (device_of (part_device p) which)
fault_of boot decided p pages (Counts which log) =
    if is_known_log boot decided log then (if has_pages log pages then None else Some (pages_device p)) else Some (device_of (part_device p) which)

-- by the bytes of its devices
abbrev pub part_fault : (boot : ℕ) → List Id → (p : ℕ) → (ℕ → List ℕ) → Option ℕ
part_fault boot decided p bytes = fault_of boot decided p (bytes (pages_device p)) (part_pair p (logs_of bytes))

-- NotSalt exactly of the device that a fault of its log counts against
abbrev pub IsLogWhy : (bytes : ℕ → List ℕ) → (boot : ℕ) → List Id → (p : ℕ) → PairErr → Type 0
IsLogWhy bytes boot decided p (NotSalt dev) = log_fault boot decided p (part_pair p (logs_of bytes)) ≡ Some dev
IsLogWhy bytes boot decided p (Disk e) = OnlyFails (Some e)

-- or a fault of it all
abbrev pub IsWhy : (bytes : ℕ → List ℕ) → (boot : ℕ) → List Id → (p : ℕ) → PairErr → Type 0
IsWhy bytes boot decided p (NotSalt dev) = part_fault boot decided p bytes ≡ Some dev
IsWhy bytes boot decided p (Disk e) = ⊤

-- A LOG THAT WAS FOUND

abbrev pub found_log : FoundLog → PartitionLog
found_log x = log_of x.log

abbrev pub found_which : FoundLog → WhichLog
found_which x = which_of x.side

abbrev pub found_device : FoundLog → ℕ
found_device x = device_of (part_device x.part) (found_which x)

-- the device of the pages that it names
abbrev pub found_pages : FoundLog → ℕ
found_pages x = pages_device x.part

-- It is the log of partition p that counts, and nothing is pending on the other one.
pub record IsFound (d : View) (x : FoundLog) (p : ℕ) : Type 0 where
  pub part : x.part ≡ p
  pub counts : IsTrue d.told → part_pair p (logs_of d.bytes) ≡ Counts (found_which x) (found_log x)
  pub kept : IsKept d p (device_of (part_device p) (found_which x)) x.log
  pub known : pages_device p < d.count
  pub other : IsSettled d (device_of (part_device p) (other_log (found_which x)))

-- some log was found
pub record WasFound (d : View) (x : FoundLog) : Type 0 where
  pub p : ℕ
  pub is : IsFound d x p

-- NotSalt of the pages device exactly where these bytes have no pages for it, with sound rows
abbrev pub IsPagesWhy : (TableRow → Bool) → (bytes : ℕ → List ℕ) → FoundLog → PairErr → Type 0
IsPagesWhy sound bytes x (NotSalt dev) = (dev ≡ found_pages x) × (has_sound_pages sound (found_log x) (bytes (found_pages x)) ≡ false)
IsPagesWhy sound bytes x (Disk e) = OnlyFails (Some e)

-- a store that was opened on the pages that a log names: it has their rows, where the disks tell
pub record HasPages (old new : View) (p : ℕ) (log : PartitionLog) (rows : RowStore) : Type 0 where
  pub t : Tables
  pub is : IsRowStore new rows (pages_device p) log.header.sides t
  pub reads : IsTrue old.told → HaveRows (has_nulls log.header.format) (old.bytes (pages_device p)) log.header.sides t
  pub sides : sides_of rows ≡ log.header.sides

-- A PARTITION THAT WAS READ stands on the devices, with none of the units of its log done, and with the pages of its header alone
pub record IsReadAs (d : View) (x : ReadPartition) (p : ℕ) (v : PartView) : Type 0 where
  pub is : (applied : List Id) → StandsUpTo d x.partition p v applied []
  pub units : units_of x.units.items ≡ v.log.prepared
  pub sides : sides_of x.partition.rows ≡ v.log.header.sides

-- by a log that was found
pub record ReadsAs (d : View) (x : ReadPartition) (p : ℕ) (found : FoundLog) : Type 0 where
  pub view : PartView
  pub is : IsReadAs d x p view
  pub which : view.which ≡ found_which found
  pub log : view.log ≡ found_log found

-- some partition was read
pub record WasRead (d : View) (x : ReadPartition) : Type 0 where
  pub p : ℕ
  pub v : PartView
  pub is : IsReadAs d x p v

-- the next unit of a partition's log, which is decided or is not, can be done
pub record CanRedo (d : View) (x : Partition) (unit : Prepared) (is_decided : Bool) : Type 0 where
  pub p : ℕ
  pub v : PartView
  pub applied : List Id
  pub done : List Prepared
  pub is : StandsUpTo d x p v applied done
  pub named : has_id unit.unit applied ≡ is_decided
  pub put : ArePut unit

-- at most as many pages as the header names, or as its rows and those of the decided changes can fill together, and one
abbrev pub page_bound : List Id → PartView → ℕ
page_bound decided v = max (length v.log.header.sides) ((bytes_of_entries (with_changes v.rows no_rows).list + bytes_of_changes (decided_changes decided v.log.prepared)) / 4076 + 1)

-- A PARTITION THAT IS OPENED

-- this log counts
abbrev pub CountsWith : View → (p : ℕ) → PartitionLog → Type 0
CountsWith d p log = (which : WhichLog) × (part_pair p (logs_of d.bytes) ≡ Counts which log)

-- nothing is pending on the sides that the log that counts names
abbrev pub SettlesNamed : View → (p : ℕ) → Type 0
SettlesNamed d p = (log : PartitionLog) → CountsWith d p log → NamedSettled log.header.sides d (pages_device p)

-- It opens: its devices have no fault, and the decided units are applied. Where the disks tell, its view is what they had.
pub record OpensAs (old new : View) (x : Partition) (boot : ℕ) (decided : List Id) (p : ℕ) : Type 0 where
  pub view : PartView
  pub is : IsPartition new x p view decided
  pub sound : IsTrue old.told → part_fault boot decided p old.bytes ≡ None
  pub stood : IsTrue old.told → (entries : List (List ℕ)) × IsTold old p view entries

-- A PARTITION THAT IS MADE: log B is blank, and A has this header alone
pub record AreBegun (d : View) (part : ℕ) (log : GateLog) (header : List ℕ) : Type 0 where
  pub device : gates.device_of log ≡ part_device part
  pub is_log : IsLog d log (header ∷ [])
  pub other : IsSettled d (part_device part + 1)
  pub blank : IsTrue d.told → entries_in (d.bytes (part_device part + 1)) ≡ Some []
