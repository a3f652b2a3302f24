-- When a value is a store that stands on the devices, and what a definition needs to be added to it.
use Rattle.salt_bytes.specs.Coordinator.{NumberedText}
use Rattle.salt_bytes.specs.Formats.{has_nulls}
use Rattle.salt_bytes.specs.Generations.{WhichLog}
use Rattle.law_definitions.specs.Texts.{definition_in}
use Rattle.law_generations.specs.AsIf.{IsAsIf}
use Rattle.salt_commit.specs.declared.store.Store.{Store}
use Rattle.salt_decisions.specs.Decisions as decisions
use Rattle.salt_decisions.specs.Decisions.{IsDecisions}
use Rattle.salt_stands.specs.Fitting.{definitions_reading}
use Rattle.salt_disk.specs.Disks.{IsImage, View}
use Rattle.salt_model.specs.Kept.{Definition}
use Rattle.salt_model.specs.Tables.{place, row_at}
use Rattle.salt_paged.specs.Partitions.{ArePartitions}
use Rattle.salt_parts.specs.Openings.{IsPagesOf}
use Rattle.salt_stands.specs.Commits.{each_tables, partition_count}
use Rattle.salt_stands.specs.Coordinator.{Coordinator, decided_for}
use Rattle.salt_stands.specs.LogDevices.{IsStoreLog}
use Rattle.salt_stands.specs.Partition.{is_sound_change, is_sound_log}
use Rattle.salt_stands.specs.Pieces.{IsCoordinator, PartView}
use Rattle.salt_stands.specs.Reading.{Reading}
use Rattle.salt_stands.specs.Stands.{Found, stands_on}
use Rattle.salt_values.specs.declared.id.Id.{Id}
use Rattle.salt_place.specs.declared.placement.Shape.{Shape}
use Rattle.salt_values.specs.declared.value.Value.{Value}
use Rattle.std.specs.List.{list_all}
use Rattle.std.specs.Prelude.{Option, IsTrue, List, Ok, Some, false, length, true, ℕ, ◌+◌, ◌<◌, ◌≡◌, ◌⊎◌}

-- definitions are read from their canonical texts
abbrev pub reading : Reading Definition
reading = definitions_reading definition_in

-- WHAT IT SHOWS: its shape, the number of the last boot, and that of the last decision or definition

abbrev pub shape_of_store : Store → Shape
shape_of_store x = decisions.shape_of x.decisions

abbrev pub last_boot : Store → ℕ
last_boot x = decisions.last_boot x.decisions

abbrev pub last_decision : Store → ℕ
last_decision x = decisions.last_decision x.decisions

abbrev pub numbers_in : Store → ℕ × ℕ
numbers_in x = decisions.numbers_in x.decisions

-- the device of the coordinator's log that counts, and where its closed gate stands
abbrev pub coordinator_device : Store → ℕ
coordinator_device x = decisions.device_in x.decisions

abbrev pub coordinator_gate : Store → ℕ
coordinator_gate x = decisions.gate_in x.decisions

-- the units that are decided with a partition's bit
abbrev pub decided_by : {D : Type 0} → Coordinator D → ℕ → List Id
decided_by c p = decided_for p c.log.told.decided

-- What holds where the disks tell their bytes: definitions and continuations are those of the coordinator's log, and each
-- partition's log fits them, as the rows on its pages do.
pub record IsSound {D : Type 0} (r : Reading D) (c : Coordinator D) (v : ℕ → PartView) : Type 0 where
  pub coordinator : IsCoordinator r c
  pub part : (p : ℕ) → p < partition_count c → is_sound_log r c p (v p).log ≡ true
  pub rows : (p : ℕ) → p < partition_count c → list_all (is_sound_change r c p) (v p).rows ≡ true

-- The value is a store that stands so on the devices: the coordinator's log, and in each partition the units that are decided.
pub record IsStore {D : Type 0} (r : Reading D) (d : View) (x : Store) (which : WhichLog) (c : Coordinator D) (v : ℕ → PartView) : Type 0 where
  pub decisions : IsDecisions d x.decisions which c.log
  pub size : length x.parts ≡ partition_count c
  pub parts : ArePartitions d x.parts v (decided_by c)
  pub sound : IsTrue d.told → IsSound r c v

-- a store stands
pub record StandsOnDevices (d : View) (x : Store) : Type 0 where
  pub which : WhichLog
  pub c : Coordinator Definition
  pub v : ℕ → PartView
  pub is : IsStore reading d x which c v

-- another generation of the same store: each partition has the tables that it had, and spells NULL where it did
pub record Generation {D : Type 0} (c : Coordinator D) (v : ℕ → PartView) : Type 0 where
  pub which : WhichLog
  pub coordinator : Coordinator D
  pub views : ℕ → PartView
  pub as_if : IsAsIf c v coordinator views
  pub tables : (p : ℕ) → p < partition_count c → each_tables coordinator views p ≡ each_tables c v p
  pub nulls : (p : ℕ) → p < partition_count c → has_nulls (v p).log.header.format ≡ true → has_nulls (views p).log.header.format ≡ true

-- the device is a log of a store of n partitions, or has pages of it
abbrev pub IsStoreDevice : ℕ → ℕ → Type 0
IsStoreDevice n dev = IsStoreLog n dev ⊎ IsPagesOf n dev

-- each image that a stop may leave of the devices stands for the one or for the other
abbrev pub StandForEither : {D : Type 0} → Reading D → View → (before after : Found D) → Type 0
StandForEither r d before after = (asked : Shape) (image : ℕ → List ℕ) → IsImage d image → (stands_on r image asked ≡ Ok before) ⊎ (stands_on r image asked ≡ Ok after)

-- A definition that may be added: it is the one of this text, and the definitions before it do not refuse it.
pub record MayDefine {D : Type 0} (r : Reading D) (c : Coordinator D) (text : List ℕ) (def : D) : Type 0 where
  pub reads : r.read text ≡ Some def
  pub accepted : r.is_refused c.definitions def ≡ false

-- what the coordinator keeps of it
abbrev pub next_text : {D : Type 0} → Coordinator D → List ℕ → NumberedText
next_text c text = record { number = c.log.told.decisions + 1; text = text }

-- the row of a key, in what is found
abbrev pub row_in : {D : Type 0} → Found D → (table : ℕ) → Value → Option (List Value)
row_in found table key = row_at (place table key) found.kept.tables
