-- When a value is a partition that stands on the devices, and what a unit needs to be prepared and applied.
use Rattle.salt_bytes.specs.Changes.{are_in_order}
use Rattle.salt_bytes.specs.Formats.{has_nulls}
use Rattle.salt_bytes.specs.Generations.{Counts}
use Rattle.salt_bytes.specs.Partition.{Prepared}
use Rattle.salt_bytes.specs.Spellable.{Every}
use Rattle.salt_disk.specs.Disks.{IsSettled, View}
use Rattle.salt_codec.specs.Entries.{CanBePut, prepared_of}
use Rattle.salt_codec.specs.declared.prepared.PreparedUnit.{PreparedUnit}
use Rattle.salt_gatelog.specs.Log as gates
use Rattle.salt_gatelog.specs.Log.{IsLog}
use Rattle.salt_model.specs.Tables.{Entry}
use Rattle.salt_values.specs.Id.{has_id}
use Rattle.salt_partition.specs.Contents.{AreKeyed}
use Rattle.salt_partition.specs.declared.partition.Partition.{Partition}
use Rattle.salt_stands.specs.Coordinator.{device_of}
use Rattle.salt_stands.specs.Partition.{pages_device, part_device, part_pair, part_tables}
use Rattle.salt_stands.specs.PartitionLog.{partition_in}
use Rattle.salt_stands.specs.Pieces.{PartView, is_prepared_in, other_log}
use Rattle.salt_stands.specs.Stands.{logs_of}
use Rattle.salt_values.specs.declared.change.Change.{Change}
use Rattle.salt_values.specs.declared.id.Id.{Id}
use Rattle.std.specs.Prelude.{Bool, IsTrue, List, Option, Some, [], false, length, option_map, true, ℕ, ◌++◌, ◌-◌, ◌<◌, ◌≡◌, ◌∷◌}

-- its number
abbrev pub number_of : Partition → ℕ
number_of x = x.part

-- the device of the log that counts
abbrev pub log_device : Partition → ℕ
log_device x = gates.device_of x.log

-- where its closed gate stands
abbrev pub log_gate : Partition → ℕ
log_gate x = gates.gate_of x.log

-- whether NULL is spelled in it
abbrev pub spells_nulls : Partition → Bool
spells_nulls x = x.nulls

-- its rows, in order of their places
abbrev pub rows_in : Partition → List Entry
rows_in x = x.rows

-- how many entries it has behind its header
abbrev pub unit_count : Partition → ℕ
unit_count x = gates.count_of x.log - 1

-- What holds where the disks tell their bytes: the log that counts and its pair say what the view has.
pub record IsTold (d : View) (p : ℕ) (v : PartView) (entries : List (List ℕ)) : Type 0 where
  pub reads : partition_in p entries ≡ Some v.log
  pub counts : part_pair p (logs_of d.bytes) ≡ Counts v.which v.log

-- the unit that was prepared last is kept, unless it was applied
abbrev pub IsLastKept : (applied : List Id) → List Prepared → Option PreparedUnit → Type 0
IsLastKept applied ps last = (before : List Prepared) (x : Prepared) → ps ≡ before ++ x ∷ [] → has_id x.unit applied ≡ false → option_map prepared_of last ≡ Some x

-- The value is partition p, which stands so on the devices, with these units applied. Nothing is pending on its logs. Where the
-- disks don't tell their bytes, its view is what was read and what was prepared since. No page is named.
pub record IsPartition (d : View) (x : Partition) (p : ℕ) (v : PartView) (applied : List Id) : Type 0 where
  pub part : x.part ≡ p
  pub entries : List (List ℕ)
  pub is_log : IsLog d x.log entries
  pub some : 0 < length entries
  pub device : log_device x ≡ device_of (part_device p) v.which
  pub known : pages_device p < d.count
  pub other : IsSettled d (device_of (part_device p) (other_log v.which))
  pub nulls : x.nulls ≡ has_nulls v.log.header.format
  pub pages : v.log.header.sides ≡ []
  pub none : v.rows ≡ []
  pub keyed : Every AreKeyed v.log.prepared
  pub last : IsLastKept applied v.log.prepared x.last
  pub rows : rows_in x ≡ (part_tables applied v.log v.rows).list
  pub told : IsTrue d.told → IsTold d p v entries

abbrev pub prepared : Id → List Change → Prepared
prepared u cs = record { unit = u; changes = cs }

abbrev pub changes_in : Prepared → List Change
changes_in x = x.changes

-- A unit that may be prepared: neither an entry nor a decision names it; its changes are in order, each key once, and can be put.
pub record MayPrepare (v : PartView) (applied : List Id) (u : Id) (cs : List Change) : Type 0 where
  pub fresh : is_prepared_in u v.log.prepared ≡ false
  pub new : has_id u applied ≡ false
  pub ordered : are_in_order cs ≡ true
  pub each : Every (CanBePut (has_nulls v.log.header.format)) cs

-- the unit was prepared last, and is not applied
pub record IsPreparedLast (v : PartView) (applied : List Id) (u : Id) : Type 0 where
  pub before : List Prepared
  pub changes : List Change
  pub last : v.log.prepared ≡ before ++ prepared u changes ∷ []
  pub fresh : is_prepared_in u before ≡ false
  pub new : has_id u applied ≡ false

-- a partition stands, and the unit may be prepared in it
pub record StandsFor (d : View) (x : Partition) (u : Id) (cs : List Change) : Type 0 where
  pub p : ℕ
  pub v : PartView
  pub applied : List Id
  pub is : IsPartition d x p v applied
  pub may : MayPrepare v applied u cs

-- a partition stands, in which the unit was prepared last
pub record StandsWith (d : View) (x : Partition) (u : Id) : Type 0 where
  pub p : ℕ
  pub v : PartView
  pub applied : List Id
  pub is : IsPartition d x p v applied
  pub last : IsPreparedLast v applied u

-- a partition stands
pub record StandsOnDevices (d : View) (x : Partition) : Type 0 where
  pub p : ℕ
  pub v : PartView
  pub applied : List Id
  pub is : IsPartition d x p v applied
