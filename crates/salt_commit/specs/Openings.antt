-- How a store is begun and opened.
use Rattle.law_definitions.specs.Texts.{definition_in}
use Rattle.salt_ast.specs.declared.trees.TableDef.{TableDef}
use Rattle.salt_bytes.specs.Generations.{BothBlank, Counts, Faulty, Pair, WhichLog}
use Rattle.salt_bytes.specs.Partition.{spell_partition_header}
use Rattle.salt_checkpoint.specs.Sides.{KeepsNamed}
use Rattle.salt_commit.specs.Stores.{IsStore, decided_by, reading}
use Rattle.salt_commit.specs.declared.store.Store.{Store}
use Rattle.salt_decisions.specs.Kept.{IsKept}
use Rattle.salt_decisions.specs.Opened.{FullAtFirst, first_payload}
use Rattle.salt_decisions.specs.declared.kept.Kept.{Kept}
use Rattle.salt_disk.specs.Disks.{IsImage, KeepsAll, View}
use Rattle.salt_disk.specs.declared.disks.DiskErr.TheVariants as disk
use Rattle.salt_disk.specs.declared.disks.DiskErr.{DiskErr}
pub use Rattle.salt_gatelog.specs.Answers.{IsRefusal}
use Rattle.salt_gatelog.specs.declared.unopened.OpenErr.TheVariants.{Failed, Full, Memory, NotSalt, NumbersSpent, OtherShape, Stopped}
use Rattle.salt_gatelog.specs.declared.unopened.OpenErr.{OpenErr}
use Rattle.salt_model.specs.Kept.{Definition}
use Rattle.salt_paged.specs.Partitions.{ArePartitions}
use Rattle.salt_paged.specs.declared.partition.Partition.{Partition}
use Rattle.salt_parts.specs.Judging.{HasTables}
use Rattle.salt_parts.specs.Openings.{IsFirstFault, PagesPassLimit}
use Rattle.salt_place.specs.declared.placement.Shape.{Shape}
use Rattle.salt_stands.specs.Commits.{Stood, found_of, partition_count}
use Rattle.salt_stands.specs.Coordinator.{Coordinator, coordinator_of, coordinator_pair}
use Rattle.salt_stands.specs.CoordinatorLog.{CoordinatorLog}
use Rattle.salt_stands.specs.FirstOpening.{IsCreated, first_part_header}
use Rattle.salt_stands.specs.Fitting.{tables_defined}
use Rattle.salt_stands.specs.Partition.{is_format_under, pages_device, part_device}
use Rattle.salt_stands.specs.Pieces.{PartStands, PartView}
use Rattle.salt_stands.specs.Stands as opening
use Rattle.salt_stands.specs.Stands.{Found, Stands, are_spent, logs_of, opening_of, stands_on}
use Rattle.salt_stands.specs.Words.{has_bit}
use Rattle.salt_values.specs.declared.id.Id.{Id}
use Rattle.std.specs.Prelude.{IsTrue, List, Ok, Option, Some, [], false, if◌then◌else◌, length, true, ℕ, ⊤, ◌+◌, ◌<◌, ◌≡◌, ◌⊎◌, ◌∷◌}

-- of these units, each with a mask, those whose mask has bit p
abbrev pub named_units : ℕ → List Id → List ℕ → List Id
named_units p [] ms = []
named_units p (u ∷ us) [] = []
named_units p (u ∷ us) (m ∷ ms) = if has_bit m p then u ∷ named_units p us ms else named_units p us ms

-- WHAT A FIRST OPENING WRITES passes the limit of a device

-- of a partition's logs: the header of A, or the byte by which B is created there
pub record PartPassesLimit (d : View) (n dev : ℕ) : Type 0 where
  pub p : ℕ
  pub low : p < n
  pub passes : ((dev ≡ part_device p) × (d.limit dev < 10 + length (spell_partition_header (first_part_header 2 p)))) ⊎ ((dev ≡ part_device p + 1) × IsCreated (d.bytes dev) × (d.limit dev < 1))

-- or of one of the coordinator's; both of these are blank
pub record StorePassesLimit (d : View) (asked : Shape) (dev : ℕ) : Type 0 where
  pub blank : coordinator_pair (logs_of d.bytes) ≡ BothBlank
  pub passes : FullAtFirst d (first_payload asked) (Some (disk.Full dev)) ⊎ PartPassesLimit d asked.parts dev

-- the disks or memory failed: nothing is refused
abbrev pub IsNoRefusal : OpenErr → Type 0
IsNoRefusal (NotSalt dev) = ⊥
IsNoRefusal (OtherShape kept asked) = ⊥
IsNoRefusal (NumbersSpent boot decisions) = ⊥
IsNoRefusal Failed = ⊤
IsNoRefusal Stopped = ⊤
IsNoRefusal (Full dev) = ⊤
IsNoRefusal Memory = ⊤

-- WHERE A LOG COUNTS

-- the log is a coordinator's: its texts are read, and they define these tables, and its moves go on from each other
pub record IsSchemaOf (schema : List TableDef) (log : CoordinatorLog) : Type 0 where
  pub c : Coordinator Definition
  pub reads : coordinator_of reading log ≡ Some c
  pub tables : tables_defined c.definitions ≡ schema

-- if a log counts, it is so
abbrev pub IsSchemaWhere : List TableDef → Pair CoordinatorLog → Type 0
IsSchemaWhere schema BothBlank = ⊤
IsSchemaWhere schema (Faulty which) = ⊤
IsSchemaWhere schema (Counts which log) = IsSchemaOf schema log

-- THE PARTITIONS under a coordinator's log

-- n of them stand on the devices
pub record StandOn (bytes : ℕ → List ℕ) (c : Coordinator Definition) (n : ℕ) (v : ℕ → PartView) : Type 0 where
  pub each : (p : ℕ) → p < n → PartStands reading c (logs_of bytes) bytes p (v p)

-- they are opened
pub record OpensAll (schema : List TableDef) (shape : Shape) (n : ℕ) (d e : View) (c : Coordinator Definition) (parts : List Partition) : Type 0 where
  pub size : length parts ≡ n
  pub view : ℕ → PartView
  pub are : ArePartitions e parts view (decided_by c)
  pub under : (p : ℕ) → p < n → is_format_under c.log.header.format (view p).log.header.format ≡ true
  pub stand : IsTrue d.told → HasTables schema shape c → StandOn d.bytes c n view

-- or why they are not: the first does not stand that is refused; and only where all stand, a write may be too long, or stopped
abbrev pub PartsFail : Coordinator Definition → (bytes : ℕ → List ℕ) → (n : ℕ) → OpenErr → Type 0
PartsFail c bytes n (NotSalt dev) = IsFirstFault definition_in c bytes n dev
PartsFail c bytes n (OtherShape kept asked) = ⊥
PartsFail c bytes n (NumbersSpent boot decisions) = ⊥
PartsFail c bytes n Failed = ⊤
PartsFail c bytes n Stopped = (v : ℕ → PartView) × StandOn bytes c n v
PartsFail c bytes n (Full dev) = (v : ℕ → PartView) × StandOn bytes c n v
PartsFail c bytes n Memory = ⊤

-- they stood, and pages were written to sides that no header names
pub record WroteSpare (d e : View) (c : Coordinator Definition) (n : ℕ) : Type 0 where
  pub v : ℕ → PartView
  pub stood : StandOn d.bytes c n v
  pub named : (p : ℕ) → p < n → KeepsNamed (v p).log.header.sides d e (pages_device p)

-- nothing is written, or that
abbrev pub WroteAtMost : (d e : View) → Coordinator Definition → ℕ → Option DiskErr → Type 0
WroteAtMost d e c n answer = KeepsAll d e answer ⊎ WroteSpare d e c n

-- they stand, and the pages that the decided units of one may take pass the limit of their device
pub record UnitsPassUnder (d : View) (c : Coordinator Definition) (n dev : ℕ) : Type 0 where
  pub v : ℕ → PartView
  pub stood : StandOn d.bytes c n v
  pub passes : PagesPassLimit d n v (decided_by c) dev

-- so does a store in which it is so
pub record UnitsPassLimit (d : View) (asked : Shape) (dev : ℕ) : Type 0 where
  pub which : WhichLog
  pub c : Coordinator Definition
  pub v : ℕ → PartView
  pub stood : Stood reading (logs_of d.bytes) d.bytes which c v
  pub passes : PagesPassLimit d asked.parts v (decided_by c) dev

-- of what a first opening writes, or of these pages
abbrev pub OpeningPassesLimit : (d e : View) → Shape → ℕ → Type 0
OpeningPassesLimit d e asked dev = StorePassesLimit e asked dev ⊎ UnitsPassLimit d asked dev

-- WHAT AN OPENING LEAVES: the bytes stood for a store, and so does each image
pub record StillStands (d e : View) (asked : Shape) : Type 0 where
  pub found : Found Definition
  pub opens : opening_of reading d.bytes asked ≡ Stands found
  pub images : (other : Shape) (image : ℕ → List ℕ) → IsImage e image → stands_on reading image other ≡ Ok found

-- where nothing is begun, nothing is written, or that holds
abbrev pub LeavesStanding : (d e : View) → Shape → Option DiskErr → Type 0
LeavesStanding d e asked answer = KeepsAll d e answer ⊎ StillStands d e asked

-- WHAT AN OPENING ANSWERS

-- an opening writes: both devices of the coordinator are blank, and a store is begun; or the bytes stand for a store
abbrev pub MayWrite : Shape → (bytes : ℕ → List ℕ) → Type 0
MayWrite asked bytes = (coordinator_pair (logs_of bytes) ≡ BothBlank) ⊎ ((found : Found Definition) × (opening_of reading bytes asked ≡ Stands found))

-- each refusal is what an opening answers of these bytes, and only where it writes, a write may be too long, or stopped
abbrev pub OpeningFails : Shape → (bytes : ℕ → List ℕ) → OpenErr → Type 0
OpeningFails asked bytes (NotSalt dev) = opening_of reading bytes asked ≡ opening.NotSalt dev
OpeningFails asked bytes (OtherShape kept wanted) = opening_of reading bytes asked ≡ opening.OtherShape kept wanted
OpeningFails asked bytes (NumbersSpent boot decisions) = opening_of reading bytes asked ≡ opening.NumbersSpent boot decisions
OpeningFails asked bytes Failed = ⊤
OpeningFails asked bytes Stopped = MayWrite asked bytes
OpeningFails asked bytes (Full dev) = MayWrite asked bytes
OpeningFails asked bytes Memory = ⊤

-- It opens: the store stands, in the shape that is asked for, and its numbers are not spent. What it stands for is what an opening
-- finds.
pub record OpensStore (d e : View) (asked : Shape) (x : Store) (kept : Kept) : Type 0 where
  pub which : WhichLog
  pub c : Coordinator Definition
  pub v : ℕ → PartView
  pub is : IsStore reading e x which c v
  pub keeps : IsKept kept c.log
  pub has_shape : c.log.header.shape ≡ asked
  pub unspent : are_spent c.log.told.boot c.log.told.decisions ≡ false
  pub under : (p : ℕ) → p < partition_count c → is_format_under c.log.header.format (v p).log.header.format ≡ true
  pub finds : IsTrue d.told → opening_of reading d.bytes asked ≡ Stands (found_of c v)
