-- What the code keeps of a log that it read, and of what a device holds, as the definitions of what stands see it.
use Rattle.salt_bytes.specs.Generations.{Blank, Content, IsRead, Outside, content_of}
use Rattle.salt_bytes.specs.Log.{entries_in}
use Rattle.salt_bytes.specs.Partition.{PartitionHeader, Prepared, prepared_in}
use Rattle.salt_bytes.specs.Spellable.{Every}
use Rattle.salt_disk.specs.Disks.{View}
use Rattle.salt_codec.specs.Entries.{CanBePut, header_of, prepared_of}
use Rattle.salt_codec.specs.declared.prepared.PreparedUnit.{PreparedUnit}
use Rattle.salt_gatelog.specs.Log as gates
use Rattle.salt_gatelog.specs.Log.{IsLog}
use Rattle.salt_gatelog.specs.declared.log.GateLog.{GateLog}
use Rattle.salt_partition.specs.declared.contents.LogContent.TheVariants as found
use Rattle.salt_partition.specs.declared.contents.LogContent.{LogContent}
use Rattle.salt_partition.specs.declared.contents.ReadLog.{ReadLog}
use Rattle.salt_stands.specs.PartitionLog.{PartitionLog, partition_in}
use Rattle.salt_values.specs.declared.change.Change.{Change}
use Rattle.salt_values.specs.declared.value.Value.{Value}
use Rattle.std.specs.Prelude.{Bool, IsTrue, List, None, Option, Some, length, map, slice_get, true, ℕ, ⊤, ◌<◌, ◌≡◌, ◌≤◌, option_and_then}
use Rattle.salt_values.specs.Value.{key_of}

abbrev pub units_of : List PreparedUnit → List Prepared
units_of units = map prepared_of units

-- a row that a change puts has the change's key
abbrev pub HasKeyTo : Value → Option (List Value) → Type 0
HasKeyTo key None = ⊤
HasKeyTo key (Some row) = key_of row ≡ key

abbrev pub HasKey : Change → Type 0
HasKey c = HasKeyTo c.key c.row

abbrev pub AreKeyed : Prepared → Type 0
AreKeyed x = Every HasKey x.changes

-- its changes can be put into rows
abbrev pub ArePut : Prepared → Type 0
ArePut x = Every (CanBePut true) x.changes

-- each page that a header names stands on side 0 or 1
abbrev pub NamesSides : PartitionHeader → Type 0
NamesSides h = Every (λ side. side ≤ 1) h.sides

abbrev pub log_of : ReadLog → PartitionLog
log_of r = record { header = header_of r.header; prepared = units_of r.units.items }

abbrev pub content_seen : LogContent → Content PartitionLog
content_seen found.Blank = Blank
content_seen (found.Read r) = IsRead (log_of r)
content_seen found.Outside = Outside

-- a log that was read is that of the device, and has these entries; its units can be put into rows, and its header names sides
abbrev pub KeepsEntries : View → (dev : ℕ) → List (List ℕ) → LogContent → Type 0
KeepsEntries d dev entries found.Blank = ⊤
KeepsEntries d dev entries (found.Read r) = IsLog d r.log entries × (gates.device_of r.log ≡ dev) × Every ArePut (units_of r.units.items) × NamesSides (header_of r.header)
KeepsEntries d dev entries found.Outside = ⊤

-- what was found on a device that has these entries, of which there is one
pub record HasContent (d : View) (part dev : ℕ) (entries : List (List ℕ)) (c : LogContent) : Type 0 where
  pub seen : IsTrue d.told → content_seen c ≡ content_of (partition_in part) (Some entries)
  pub log : KeepsEntries d dev entries c

-- a log that was read is that of the device; where the disks tell, its entries are those that were read
pub record IsKept (d : View) (part dev : ℕ) (r : ReadLog) : Type 0 where
  pub entries : List (List ℕ)
  pub is_log : IsLog d r.log entries
  pub device : gates.device_of r.log ≡ dev
  pub some : 0 < length entries
  pub put : Every ArePut (units_of r.units.items)
  pub sides : NamesSides (header_of r.header)
  pub reads : IsTrue d.told → partition_in part entries ≡ Some (log_of r)

abbrev pub IsKeptIn : View → (part dev : ℕ) → LogContent → Type 0
IsKeptIn d part dev found.Blank = ⊤
IsKeptIn d part dev (found.Read r) = IsKept d part dev r
IsKeptIn d part dev found.Outside = ⊤

-- entry i of the log spells a prepared unit
pub record SpellsUnit (d : View) (log : GateLog) (nulls : Bool) (i : ℕ) : Type 0 where
  pub entries : List (List ℕ)
  pub is_log : IsLog d log entries
  pub unit : Prepared
  pub spells : Some unit ≡ option_and_then (prepared_in nulls) (slice_get entries i)

-- what was found on a device
pub record IsContent (old new : View) (part dev : ℕ) (c : LogContent) : Type 0 where
  pub seen : IsTrue old.told → content_seen c ≡ content_of (partition_in part) (entries_in (old.bytes dev))
  pub log : IsKeptIn new part dev c
