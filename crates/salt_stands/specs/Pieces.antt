-- The parts of what stands, as facts: what each crate's value is tied to.
use Rattle.salt_model.specs.Tables.{Tables}
use Rattle.salt_values.specs.Id.{has_id}
use Rattle.salt_values.specs.declared.change.Change.{Change}
use Rattle.salt_values.specs.declared.cont.Cont.{Cont}
use Rattle.salt_values.specs.declared.value.Value.{Value}
use Rattle.salt_bytes.specs.Coordinator.{CoordinatorHeader, Decision, NumberedText}
use Rattle.salt_bytes.specs.Formats.{has_nulls}
use Rattle.salt_bytes.specs.Generations.{Counts, LogA, LogB, WhichLog, next_generation}
use Rattle.salt_bytes.specs.Partition.{PartitionHeader, Prepared}
use Rattle.salt_stands.specs.Coordinator.{Coordinator, Logs, coordinator_pair, decided_for, definitions_read, is_sound_cont, is_sound_decision}
use Rattle.salt_stands.specs.CoordinatorLog.{CoordinatorLog, told_by_header}
use Rattle.salt_stands.specs.OpenConts.{do_rise, moved}
use Rattle.salt_stands.specs.Partition.{is_sound_log, part_pair, part_tables, pages_device, rows_from, rows_of_pages}
use Rattle.salt_stands.specs.PartitionLog.{PartitionLog}
use Rattle.salt_stands.specs.Reading.{Reading}
use Rattle.salt_values.specs.declared.id.Id.{Id}
use Rattle.std.specs.List.{list_all}
use Rattle.std.specs.Prelude.{Bool, List, Some, [], map, nat_lt, suc, true, zero, ℕ, ◌+◌, ◌++◌, ◌∷◌, ◌≡◌, ◌≤◌}

-- its definitions are those of its texts, and its continuations those that its header and its moves leave open
pub record IsCoordinator {D : Type 0} (r : Reading D) (c : Coordinator D) : Type 0 where
  pub defined : definitions_read r (Some []) c.log.told.definitions ≡ Some c.definitions
  pub moves : moved c.log.header.format (Some c.log.header.conts) c.log.told.decided ≡ Some c.conts
  pub rise : do_rise c.log.header.conts ≡ true
  pub named : list_all (is_sound_cont r c.definitions c.log.told) c.log.header.conts ≡ true
  pub decided : list_all (is_sound_decision r c.definitions c.log.told c.log.header.format) c.log.told.decided ≡ true

-- the coordinator stands on the devices of these logs, in this log
pub record CoordinatorStands {D : Type 0} (r : Reading D) (logs : Logs) (which : WhichLog) (c : Coordinator D) : Type 0 where
  pub counts : coordinator_pair logs ≡ Counts which c.log
  pub is : IsCoordinator r c

-- a partition: which of its logs counts, what it says, and the rows on the pages that it names
pub record PartView : Type 0 where
  pub which : WhichLog
  pub log : PartitionLog
  pub rows : List Change

abbrev pub tables_at_part : {D : Type 0} → Coordinator D → ℕ → PartView → Tables
tables_at_part c p v = part_tables (decided_for p c.log.told.decided) v.log v.rows

pub record PartStands {D : Type 0} (r : Reading D) (c : Coordinator D) (logs : Logs) (devices : ℕ → List ℕ) (p : ℕ) (v : PartView) : Type 0 where
  pub counts : part_pair p logs ≡ Counts v.which v.log
  pub sound : is_sound_log r c p v.log ≡ true
  pub rows : rows_of_pages r c p v.log (devices (pages_device p)) ≡ Some v.rows

-- n of them, from number p on
abbrev pub listed : {A : Type 0} → (ℕ → A) → (p n : ℕ) → List A
listed f p zero = []
listed f p (suc n) = f p ∷ listed f (suc p) n

-- LOGS THAT CHANGE

-- the other log of a pair
abbrev pub other_log : WhichLog → WhichLog
other_log LogA = LogB
other_log LogB = LogA

-- this log is as it was
abbrev pub IsSameAt : ℕ → Logs → Logs → Type 0
IsSameAt dev old new = new dev ≡ old dev

-- the log of this device has one more entry
pub record HasOneMore (old new : Logs) (dev : ℕ) (payload : List ℕ) : Type 0 where
  pub entries : List (List ℕ)
  pub before : old dev ≡ Some entries
  pub after : new dev ≡ Some (entries ++ payload ∷ [])

-- WHAT ENTRIES MAKE of a coordinator

abbrev pub with_boot : {D : Type 0} → Coordinator D → Coordinator D
with_boot c = record c { log = record c.log { told = record c.log.told { boot = c.log.told.boot + 1 } } }

-- a unit is decided, and its move leaves these continuations open
abbrev pub with_decision : {D : Type 0} → Coordinator D → Decision → List Cont → Coordinator D
with_decision c d conts = record {
  log = record c.log { told = record c.log.told { decisions = d.number; decided = c.log.told.decided ++ d ∷ [] } };
  definitions = c.definitions;
  conts = conts;
}

-- a definition is added
abbrev pub with_definition : {D : Type 0} → Coordinator D → NumberedText → D → Coordinator D
with_definition c t d = record c {
  log = record c.log { told = record c.log.told { decisions = t.number; definitions = c.log.told.definitions ++ t ∷ [] } };
  definitions = c.definitions ++ d ∷ [];
}

-- WHAT AN ENTRY MAKES of a partition

abbrev pub with_prepared_unit : PartView → Prepared → PartView
with_prepared_unit v x = record v { log = record v.log { prepared = v.log.prepared ++ x ∷ [] } }

-- the unit of an entry is told before, in this partition
abbrev pub is_prepared_in : Id → List Prepared → Bool
is_prepared_in u ps = has_id u (map (λ prepared. prepared.unit) ps)

-- WHAT THE LAYER OF DEFINITIONS OWES: what fits still fits with one more definition
pub record StaysFitting {D : Type 0} (r : Reading D) (ds : List D) (d : D) : Type 0 where
  pub tables : r.count_tables ds ≤ r.count_tables (ds ++ d ∷ [])
  pub row : (table : ℕ) (row : List Value) → nat_lt table (r.count_tables ds) ≡ true → r.fits_row ds table row ≡ true → r.fits_row (ds ++ d ∷ []) table row ≡ true
  pub key : (table : ℕ) (key : Value) → nat_lt table (r.count_tables ds) ≡ true → r.fits_key ds table key ≡ true → r.fits_key (ds ++ d ∷ []) table key ≡ true
  pub cont : (c : Cont) → r.fits_cont ds c ≡ true → r.fits_cont (ds ++ d ∷ []) c ≡ true

-- NEW GENERATIONS

-- a partition's next header, with its pages on these sides
abbrev pub next_part_header : PartView → (format : ℕ) → (sides : List ℕ) → PartitionHeader
next_part_header v format sides = record { format = format; generation = next_generation v.log.header.generation; part = v.log.header.part; sides = sides }

-- what stands behind it: no prepared unit, and these rows on its pages
abbrev pub checkpointed : PartView → PartitionHeader → List Change → PartView
checkpointed v h rows = record { which = other_log v.which; log = record { header = h; prepared = [] }; rows = rows }

-- the coordinator's next header, with the continuations that are open
abbrev pub next_header : CoordinatorLog → (conts : List Cont) → (format : ℕ) → CoordinatorHeader
next_header log conts format = record {
  format = format;
  generation = next_generation log.header.generation;
  shape = log.header.shape;
  boot = log.told.boot;
  decisions = log.told.decisions;
  definitions = log.told.definitions;
  conts = conts;
}

abbrev pub with_snapshot : {D : Type 0} → Coordinator D → (format : ℕ) → Coordinator D
with_snapshot c format = record { log = record { header = next_header c.log c.conts format; told = told_by_header (next_header c.log c.conts format) }; definitions = c.definitions; conts = c.conts }

-- the pages that a header names are read as before
abbrev pub ReadsSamePages : PartView → (old new : List ℕ) → Type 0
ReadsSamePages v old new = rows_from (has_nulls v.log.header.format) new 0 v.log.header.sides ≡ rows_from (has_nulls v.log.header.format) old 0 v.log.header.sides
