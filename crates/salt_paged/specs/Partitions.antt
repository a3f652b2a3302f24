-- When a value is a partition that stands on the devices.
use Rattle.salt_bytes.specs.Formats.{has_nulls}
use Rattle.salt_bytes.specs.Generations.{Counts}
use Rattle.salt_bytes.specs.Page.{TableRow}
use Rattle.salt_bytes.specs.Partition.{Prepared}
use Rattle.salt_bytes.specs.Spellable.{Every}
use Rattle.salt_checkpoint.specs.Checkpoints.{NamedSettled}
use Rattle.salt_codec.specs.Entries.{header_of}
use Rattle.salt_disk.specs.Disks.{IsSettled, View}
use Rattle.salt_gatelog.specs.Log as gates
use Rattle.salt_gatelog.specs.Log.{IsLog}
use Rattle.salt_model.specs.Tables.{no_rows, with_changes}
use Rattle.salt_paged.specs.declared.partition.Partition.{Partition}
use Rattle.salt_partition.specs.Choices.{which_of}
use Rattle.salt_partition.specs.Contents.{ArePut, HasKey}
use Rattle.salt_partition.specs.Partitions.{IsLastKept, IsPreparedLast, MayPrepare}
use Rattle.salt_rows.specs.Stores as rows
use Rattle.salt_rows.specs.Stores.{IsRowStore}
use Rattle.salt_stands.specs.Coordinator.{device_of}
use Rattle.salt_stands.specs.Partition.{are_distinct, decided_changes, pages_device, part_device, part_pair, part_tables, rows_from}
use Rattle.salt_stands.specs.PartitionLog.{partition_in}
use Rattle.salt_stands.specs.Pieces.{PartView, checkpointed, next_part_header, other_log}
use Rattle.salt_stands.specs.Stands.{logs_of}
use Rattle.salt_stands.specs.Tables.{change_of_row}
use Rattle.salt_values.specs.declared.change.Change.{Change}
use Rattle.salt_values.specs.declared.id.Id.{Id}
use Rattle.std.specs.Prelude.{Bool, IfSome, IsTrue, List, Some, length, map, slice_get, true, ℕ, ◌++◌, ◌-◌, ◌<◌, ◌≡◌}

-- its number
abbrev pub number_of : Partition → ℕ
number_of x = x.part

-- the device of the log that counts
abbrev pub log_device : Partition → ℕ
log_device x = gates.device_of x.log

-- where its closed gate stands
abbrev pub log_gate : Partition → ℕ
log_gate x = gates.gate_of x.log

-- whether NULL is spelled in it
abbrev pub spells_nulls : Partition → Bool
spells_nulls x = has_nulls x.header.format

-- the device of its pages
abbrev pub pages_of : Partition → ℕ
pages_of x = pages_device x.part

-- how many pages it has
abbrev pub page_count : Partition → ℕ
page_count x = rows.page_count x.rows

-- how many entries it has behind its header
abbrev pub unit_count : Partition → ℕ
unit_count x = gates.count_of x.log - 1

-- What holds where the disks tell their bytes: the log that counts and its pair say what the view has, and so do the sides that the
-- header names, on which nothing is pending.
pub record IsTold (d : View) (p : ℕ) (v : PartView) (entries : List (List ℕ)) : Type 0 where
  pub reads : partition_in p entries ≡ Some v.log
  pub counts : part_pair p (logs_of d.bytes) ≡ Counts v.which v.log
  pub pages : List TableRow
  pub named : rows_from (has_nulls v.log.header.format) (d.bytes (pages_device p)) 0 v.log.header.sides ≡ Some pages
  pub rows : v.rows ≡ map change_of_row pages
  pub apart : are_distinct v.rows ≡ true
  pub settled : NamedSettled v.log.header.sides d (pages_device p)

-- The value is partition p, which stands so on the devices, with these units done of those that its log has, of which the ones among
-- these are applied. Its rows stand on pages, and the pages that the header names have those of the view. Nothing is pending on its
-- logs. Where the disks don't tell their bytes, its view is what was read and what was prepared since.
pub record StandsUpTo (d : View) (x : Partition) (p : ℕ) (v : PartView) (applied : List Id) (done : List Prepared) : Type 0 where
  pub part : x.part ≡ p
  pub header : header_of x.header ≡ v.log.header
  pub which : which_of x.side ≡ v.which
  pub entries : List (List ℕ)
  pub is_log : IsLog d x.log entries
  pub some : 0 < length entries
  pub device : log_device x ≡ device_of (part_device p) v.which
  pub known : pages_device p < d.count
  pub other : IsSettled d (device_of (part_device p) (other_log v.which))
  pub put : Every ArePut v.log.prepared
  pub last : IsLastKept applied done x.last
  pub rows : IsRowStore d x.rows (pages_device p) v.log.header.sides (with_changes (v.rows ++ decided_changes applied done) no_rows)
  pub keyed : Every HasKey v.rows
  pub told : IsTrue d.told → IsTold d p v entries

-- with all of them done
abbrev pub IsPartition : View → Partition → ℕ → PartView → List Id → Type 0
IsPartition d x p v applied = StandsUpTo d x p v applied v.log.prepared

-- a partition stands, and the unit may be prepared in it
pub record StandsFor (d : View) (x : Partition) (u : Id) (cs : List Change) : Type 0 where
  pub p : ℕ
  pub v : PartView
  pub applied : List Id
  pub is : IsPartition d x p v applied
  pub may : MayPrepare v applied u cs

-- a partition stands, in which the unit was prepared last
pub record StandsWith (d : View) (x : Partition) (u : Id) : Type 0 where
  pub p : ℕ
  pub v : PartView
  pub applied : List Id
  pub is : IsPartition d x p v applied
  pub last : IsPreparedLast v applied u

-- a partition stands
pub record StandsOnDevices (d : View) (x : Partition) : Type 0 where
  pub p : ℕ
  pub v : PartView
  pub applied : List Id
  pub is : IsPartition d x p v applied

-- each is the partition of its place, and these units are applied in it
pub record ArePartitions (d : View) (parts : List Partition) (v : ℕ → PartView) (applied : ℕ → List Id) : Type 0 where
  pub each : (p : ℕ) → IfSome (slice_get parts p) (λ x. IsPartition d x p (v p) (applied p))

-- CHECKPOINTS

-- What a checkpoint makes of a view: the next header, which names the sides of the pages now, with the rows that stood, and no unit
-- behind it.
pub record IsCheckpointOf (applied : List Id) (old new : PartView) : Type 0 where
  pub sides : List ℕ
  pub rows : List Change
  pub is : new ≡ checkpointed old (next_part_header old 2 sides) rows
  pub same : with_changes rows no_rows ≡ part_tables applied old.log old.rows
