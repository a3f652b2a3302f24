-- Where a device is full: what comes next behind a trace is written there, and would pass its limit.
use Rattle.salt_bytes.specs.Conts.{spell_move}
use Rattle.salt_bytes.specs.Coordinator.{Boots, CoordinatorEntry, Decides, Defines, spell_entry, spell_header}
use Rattle.salt_bytes.specs.Generations.{BothBlank, Counts, WhichLog}
use Rattle.salt_bytes.specs.Log.{entries_in, spelled}
use Rattle.salt_bytes.specs.Partition.{spell_partition_header, spell_prepared}
use Rattle.salt_bytes.specs.declared.moves.Move.{Move}
use Rattle.salt_disk.specs.Disks.{View}
use Rattle.salt_model.specs.After.{kept}
use Rattle.salt_model.specs.Next.{next}
use Rattle.salt_model.specs.Phases.{Fallen, Phase, phase}
use Rattle.salt_model.specs.Trace.{Trace, ◌says◌}
use Rattle.salt_model.specs.Words.{is_empty}
use Rattle.salt_model.specs.declared.events.End.TheVariants.{Branched, Committed}
use Rattle.salt_model.specs.declared.events.Event.TheVariants.{Defined, Ended}
use Rattle.salt_model.specs.declared.events.Event.{Event}
use Rattle.salt_stands.specs.Coordinator.{coordinator_pair, device_of}
use Rattle.salt_stands.specs.CoordinatorLog.{CoordinatorLog}
use Rattle.salt_stands.specs.FirstOpening.{IsCreated, first_header, first_part_header}
use Rattle.salt_stands.specs.LogDevices.{IsPartitionLog}
use Rattle.salt_stands.specs.OpenConts.{make_move, moved}
use Rattle.salt_stands.specs.Partition.{HoldsPages, pages_device, part_device, part_pair}
use Rattle.salt_stands.specs.PartitionLog.{PartitionLog}
use Rattle.salt_stands.specs.Pieces.{next_header, other_log}
use Rattle.salt_stands.specs.Placed.{changes_at}
use Rattle.salt_stands.specs.Stands.{logs_of}
use Rattle.salt_stands.specs.Turning.{changes_of}
use Rattle.salt_stands.specs.Words.{has_bit}
use Rattle.salt_values.specs.declared.change.Change.{Change}
use Rattle.salt_values.specs.declared.cont.Cont.{Cont}
use Rattle.salt_values.specs.declared.id.Id.{Id}
use Rattle.salt_place.specs.declared.placement.Shape.{Shape}
use Rattle.std.specs.Prelude.{List, Option, Some, [], false, length, not, ℕ, ◌+◌, ◌<◌, ◌≡◌, ◌≢◌, ◌⊎◌}

-- WRITES THAT WOULD PASS A LIMIT

-- an entry with this payload, behind those of the device: its gate, its length, itself, and the next closed gate
pub record IsTooLong (d : View) (dev : ℕ) (payload : List ℕ) : Type 0 where
  pub entries : List (List ℕ)
  pub reads : entries_in (d.bytes dev) ≡ Some entries
  pub over : d.limit dev < length (spelled entries) + 10 + length payload

-- a new pair of logs, of which A is this device: B is created, and A gets its header
abbrev pub NewPairFills : View → (a : ℕ) → (header : List ℕ) → (dev : ℕ) → Type 0
NewPairFills d a header dev =
    ((dev ≡ a + 1) × IsCreated (d.bytes dev) × (d.limit dev < 1)) ⊎ ((dev ≡ a) × (d.limit dev < 10 + length header))

-- WHAT IS WRITTEN

-- a first opening, of blank coordinator devices: a pair for each partition, under format 2, and then the coordinator's, under format 3
pub record FirstFills (d : View) (shape : Shape) (dev : ℕ) : Type 0 where
  pub blank : coordinator_pair (logs_of d.bytes) ≡ BothBlank
  pub fills : ((p : ℕ) × (p < shape.parts) × NewPairFills d (part_device p) (spell_partition_header (first_part_header 2 p)) dev)
      ⊎ NewPairFills d 0 (spell_header (first_header shape 3)) dev

-- an entry in the coordinator's log that counts
pub record EntryFills (d : View) (entry : CoordinatorLog → CoordinatorEntry) (dev : ℕ) : Type 0 where
  pub which : WhichLog
  pub log : CoordinatorLog
  pub counts : coordinator_pair (logs_of d.bytes) ≡ Counts which log
  pub device : dev ≡ device_of 0 which
  pub over : IsTooLong d dev (spell_entry (entry log))

-- a unit's changes in a partition, in the log of it that counts
pub record ShareFills (d : View) (shape : Shape) (u : Id) (changes : List Change) (dev : ℕ) : Type 0 where
  pub p : ℕ
  pub low : p < shape.parts
  pub which : WhichLog
  pub log : PartitionLog
  pub counts : part_pair p (logs_of d.bytes) ≡ Counts which log
  pub device : dev ≡ device_of (part_device p) which
  pub changed : is_empty (changes_at shape p changes) ≡ false
  pub over : IsTooLong d dev (spell_prepared (record { unit = u; changes = changes_at shape p changes }))

-- the pages of a partition
pub record IsOfPages (shape : Shape) (dev : ℕ) : Type 0 where
  pub p : ℕ
  pub low : p < shape.parts
  pub device : dev ≡ pages_device p

-- a unit's decision, with the bits of the partitions that it changes, and with its program's move: from the continuations that are open
-- before it to those that are open behind it
pub record DecisionFills (d : View) (shape : Shape) (trace : Trace) (e : Event) (u : Id) (changes : List Change) (dev : ℕ) : Type 0 where
  pub mask : ℕ
  pub bits : (p : ℕ) → p < shape.parts → has_bit mask p ≡ not (is_empty (changes_at shape p changes))
  pub move : Move
  pub moves : make_move (kept trace).conts move ≡ Some (kept (trace says e)).conts
  pub fills : EntryFills d (λ log. Decides (record { number = log.told.decisions + 1; unit = u; mask = mask; move = spell_move 3 move })) dev

-- NEW GENERATIONS, which make room before anything is appended

-- the coordinator's next header, with the continuations that are open, is too long for its other log
pub record SnapshotFills (d : View) (which : WhichLog) (log : CoordinatorLog) (dev : ℕ) : Type 0 where
  pub conts : List Cont
  pub open_conts : moved log.header.format (Some log.header.conts) log.told.decided ≡ Some conts
  pub device : dev ≡ device_of 0 (other_log which)
  pub over : d.limit dev < 10 + length (spell_header (next_header log conts 3))

-- a partition's pages fill their device, or its next header, with a byte for each page that stands there, is too long for one of its logs
abbrev pub CheckpointFills : View → (p : ℕ) → (dev : ℕ) → Type 0
CheckpointFills d p dev = (dev ≡ pages_device p) ⊎ (IsPartitionLog p dev × ((pages : ℕ) × HoldsPages pages (d.bytes (pages_device p)) × (d.limit dev < 29 + pages)))

-- the next header of one of these, or of the coordinator, where all logs begin anew
abbrev pub NewLogsFill : View → Shape → WhichLog → CoordinatorLog → (dev : ℕ) → Type 0
NewLogsFill d shape which log dev = SnapshotFills d which log dev ⊎ ((p : ℕ) × (p < shape.parts) × CheckpointFills d p dev)

-- which they do where the coordinator's has more than 1,024 entries, its header among them
pub record RenewalFills (d : View) (shape : Shape) (dev : ℕ) : Type 0 where
  pub which : WhichLog
  pub log : CoordinatorLog
  pub counts : coordinator_pair (logs_of d.bytes) ≡ Counts which log
  pub entries : List (List ℕ)
  pub reads : entries_in (d.bytes (device_of 0 which)) ≡ Some entries
  pub many : 1024 < length entries
  pub fills : NewLogsFill d shape which log dev

-- and, in an opening, where it is of an older format
pub record MigrationFills (d : View) (shape : Shape) (dev : ℕ) : Type 0 where
  pub which : WhichLog
  pub log : CoordinatorLog
  pub counts : coordinator_pair (logs_of d.bytes) ≡ Counts which log
  pub older : log.header.format ≢ 3
  pub fills : NewLogsFill d shape which log dev

-- or those of a partition that a unit changes
abbrev pub ShareRoomFills : View → Shape → List Change → (dev : ℕ) → Type 0
ShareRoomFills d shape changes dev = (p : ℕ) × (p < shape.parts) × (is_empty (changes_at shape p changes) ≡ false) × CheckpointFills d p dev

-- WHAT COMES NEXT

-- of a run that is down an opening; else the decision that comes next
abbrev pub NextFills : View → Shape → Trace → Phase → Option Event → (dev : ℕ) → Type 0
NextFills d shape trace Fallen e dev = FirstFills d shape dev ⊎ (EntryFills d (λ log. Boots (log.told.boot + 1)) dev ⊎ (IsOfPages shape dev ⊎ (RenewalFills d shape dev ⊎ MigrationFills d shape dev)))
NextFills d shape trace phase (Some (Defined n text)) dev = EntryFills d (λ log. Defines (record { number = log.told.decisions + 1; text = text })) dev ⊎ RenewalFills d shape dev
NextFills d shape trace phase (Some (Ended u (Committed n))) dev =
    ShareFills d shape u (changes_of u trace) dev
    ⊎ (DecisionFills d shape trace (Ended u (Committed n)) u (changes_of u trace) dev ⊎ (IsOfPages shape dev ⊎ (RenewalFills d shape dev ⊎ ShareRoomFills d shape (changes_of u trace) dev)))
NextFills d shape trace phase (Some (Ended u (Branched n cause))) dev = DecisionFills d shape trace (Ended u (Branched n cause)) u [] dev ⊎ (IsOfPages shape dev ⊎ RenewalFills d shape dev)
NextFills d shape trace phase e dev = ⊥

-- the device is full behind the trace
abbrev pub IsFullBehind : View → Shape → Trace → (dev : ℕ) → Type 0
IsFullBehind d shape trace dev = NextFills d shape trace (phase trace) (next trace) dev
