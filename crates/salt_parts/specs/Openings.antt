-- How the partitions of a store are read, and opened.
use Rattle.salt_ast.specs.declared.trees.TableDef.{TableDef}
use Rattle.salt_bytes.specs.Page.{page_place}
use Rattle.salt_disk.specs.Disks.{IsSettled, OnlyFails, View}
use Rattle.salt_disk.specs.declared.disks.DiskErr.TheVariants.{Failed, Full, Memory, Stopped}
use Rattle.salt_disk.specs.declared.disks.DiskErr.{DiskErr}
use Rattle.salt_gatelog.specs.declared.pair.PairErr.TheVariants.{Disk, NotSalt}
use Rattle.salt_gatelog.specs.declared.pair.PairErr.{PairErr}
use Rattle.salt_model.specs.Kept.{Definition}
use Rattle.salt_model.specs.Tables.{Tables}
use Rattle.salt_paged.specs.Openings.{IsReadAs, found_log, page_bound}
use Rattle.salt_paged.specs.declared.found.FoundLog.{FoundLog}
use Rattle.salt_paged.specs.declared.redo.ReadPartition.{ReadPartition}
use Rattle.salt_parts.specs.Judging.{HasTables}
use Rattle.salt_parts.specs.declared.ruling.Ruling.{Ruling}
use Rattle.salt_place.specs.declared.placement.Shape.{Shape}
use Rattle.salt_stands.specs.Coordinator.{Coordinator, decided_for}
use Rattle.salt_stands.specs.CoordinatorLog.{CoordinatorLog}
use Rattle.salt_stands.specs.Fitting.{definitions_reading}
use Rattle.salt_stands.specs.OpenedPart.{fits_definitions, is_known_log}
use Rattle.salt_stands.specs.Partition.{is_format_under, pages_device, part_at}
use Rattle.salt_stands.specs.Pieces.{PartStands, PartView}
use Rattle.salt_stands.specs.Stands.{logs_of}
use Rattle.salt_values.specs.declared.id.Id.{Id}
use Rattle.std.specs.List.{list_all}
use Rattle.std.specs.Prelude.{Err, IfSome, IsTrue, List, None, Ok, Option, Some, length, slice_get, true, ℕ, ⊤, ◌<◌, ◌≡◌}

-- there are devices for n partitions, and nothing is pending on any device
pub record HasRoom (d : View) (n : ℕ) : Type 0 where
  pub known : (p : ℕ) → p < n → pages_device p < d.count
  pub settled : (dev : ℕ) → dev < d.count → IsSettled d dev

-- WHAT PARTITIONS STAND UNDER

-- these are the units of each partition
abbrev pub HaveUnits : List (List Id) → (ℕ → List Id) → Type 0
HaveUnits lists us = (p : ℕ) → p < length lists → slice_get lists p ≡ Some (us p)

-- the units that are decided with a partition's bit
abbrev pub decided_in : CoordinatorLog → ℕ → List Id
decided_in log p = decided_for p log.told.decided

-- it is what this log tells
pub record IsRulingOf (x : Ruling) (log : CoordinatorLog) : Type 0 where
  pub boot : x.boot ≡ log.told.boot
  pub format : x.format ≡ log.header.format
  pub decided : HaveUnits x.decided.items (decided_in log)

-- A LOG FITS its coordinator: its boot and decisions, its format, and, where the tables are those of its definitions, its entries
pub record FitsUnder (read : List ℕ → Option Definition) (schema : List TableDef) (shape : Shape) (c : Coordinator Definition) (p : ℕ) (x : FoundLog) : Type 0 where
  pub known : is_known_log c.log.told.boot (decided_in c.log p) (found_log x) ≡ true
  pub under : is_format_under c.log.header.format (found_log x).header.format ≡ true
  pub entries : HasTables schema shape c → list_all (fits_definitions (definitions_reading read) c p) (found_log x).prepared ≡ true

-- A PARTITION IS READ: where the disks tell, under a coordinator of these tables, it stands on them
pub record ReadsIn (read : List ℕ → Option Definition) (schema : List TableDef) (shape : Shape) (d e : View) (c : Coordinator Definition) (p : ℕ) (x : ReadPartition) : Type 0 where
  pub view : PartView
  pub is : IsReadAs e x p view
  pub under : is_format_under c.log.header.format view.log.header.format ≡ true
  pub stands : IsTrue d.told → HasTables schema shape c → PartStands (definitions_reading read) c (logs_of d.bytes) d.bytes p view

-- each was read as the partition of its place
pub record AreRead (d : View) (parts : List ReadPartition) (v : ℕ → PartView) : Type 0 where
  pub each : (p : ℕ) → IfSome (slice_get parts p) (λ x. IsReadAs d x p (v p))

-- of some views
pub record WereRead (d : View) (parts : List ReadPartition) : Type 0 where
  pub v : ℕ → PartView
  pub are : AreRead d parts v

-- the first n of them are
pub record ReadsAll (read : List ℕ → Option Definition) (schema : List TableDef) (shape : Shape) (n : ℕ) (d e : View) (c : Coordinator Definition) (parts : List ReadPartition) : Type 0 where
  pub size : length parts ≡ n
  pub view : ℕ → PartView
  pub are : AreRead e parts view
  pub under : (p : ℕ) → p < n → is_format_under c.log.header.format (view p).log.header.format ≡ true
  pub stand : IsTrue d.told → HasTables schema shape c → (p : ℕ) → p < n → PartStands (definitions_reading read) c (logs_of d.bytes) d.bytes p (view p)

-- NotSalt exactly of a device for which this is so; else a call of the disks failed, or memory
abbrev pub RefusesWhere : (ℕ → Type 0) → PairErr → Type 0
RefusesWhere is_fault (NotSalt dev) = is_fault dev
RefusesWhere is_fault (Disk e) = OnlyFails (Some e)

-- the partition does not stand, and its fault counts against this device
abbrev pub IsPartFault : (List ℕ → Option Definition) → Coordinator Definition → (bytes : ℕ → List ℕ) → (p dev : ℕ) → Type 0
IsPartFault read c bytes p dev = part_at (definitions_reading read) c (logs_of bytes) bytes p ≡ Err dev

abbrev pub PartRefuses : (List ℕ → Option Definition) → Coordinator Definition → (bytes : ℕ → List ℕ) → (p : ℕ) → PairErr → Type 0
PartRefuses read c bytes p e = RefusesWhere (IsPartFault read c bytes p) e

-- of n partitions this is the first that does not stand
pub record IsFirstFault (read : List ℕ → Option Definition) (c : Coordinator Definition) (bytes : ℕ → List ℕ) (n dev : ℕ) : Type 0 where
  pub p : ℕ
  pub low : p < n
  pub before : (q : ℕ) → q < p → (tables : Tables) × (part_at (definitions_reading read) c (logs_of bytes) bytes q ≡ Ok tables)
  pub fault : IsPartFault read c bytes p dev

abbrev pub PartsRefuse : (List ℕ → Option Definition) → Coordinator Definition → (bytes : ℕ → List ℕ) → (n : ℕ) → PairErr → Type 0
PartsRefuse read c bytes n e = RefusesWhere (IsFirstFault read c bytes n) e

-- WHAT IS WRITTEN

-- the device has the pages of one of the first n partitions
pub record IsPagesOf (n dev : ℕ) : Type 0 where
  pub p : ℕ
  pub low : p < n
  pub is : dev ≡ pages_device p

-- the pages that one of them may have come to pass the limit of this device
pub record PagesPassLimit (d : View) (n : ℕ) (v : ℕ → PartView) (us : ℕ → List Id) (dev : ℕ) : Type 0 where
  pub p : ℕ
  pub low : p < n
  pub device : dev ≡ pages_device p
  pub over : d.limit dev < page_place (page_bound (us p) (v p)) 0

abbrev pub PagesAreFull : View → (n : ℕ) → (ℕ → PartView) → (ℕ → List Id) → Option DiskErr → Type 0
PagesAreFull d n v us None = ⊤
PagesAreFull d n v us (Some Failed) = ⊤
PagesAreFull d n v us (Some Stopped) = ⊤
PagesAreFull d n v us (Some Memory) = ⊤
PagesAreFull d n v us (Some (Full dev)) = PagesPassLimit d n v us dev
