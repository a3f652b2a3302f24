-- A unit's commit: what it needs, and what the logs may be during it and after it.
use Rattle.salt_bytes.specs.declared.moves.Move.{Move}
use Rattle.salt_model.specs.Tables.{Tables, no_rows, with_changes}
use Rattle.salt_values.specs.Id.{has_id}
use Rattle.salt_values.specs.declared.change.Change.{Change}
use Rattle.salt_values.specs.declared.cont.Cont.{Cont}
use Rattle.salt_bytes.specs.Conts.{move_in}
use Rattle.salt_bytes.specs.Coordinator.{Decides, Decision, entry_in}
use Rattle.salt_bytes.specs.Formats.{has_nulls}
use Rattle.salt_bytes.specs.Generations.{WhichLog}
use Rattle.salt_bytes.specs.Partition.{Prepared, partition_header_in, prepared_in}
use Rattle.salt_stands.specs.Coordinator.{Coordinator, Logs, decided_for, device_of, is_sound_cont}
use Rattle.salt_stands.specs.OpenConts.{conts_of_move, make_move}
use Rattle.salt_stands.specs.Partition.{is_format_under, is_sound_prepared, pages_device, part_device, rows_of_pages}
use Rattle.salt_stands.specs.Pieces.{CoordinatorStands, HasOneMore, IsSameAt, PartStands, PartView, ReadsSamePages, checkpointed, is_prepared_in, listed, next_part_header, other_log, tables_at_part, with_decision, with_prepared_unit}
use Rattle.salt_stands.specs.Placed.{AreOfParts, changes_at}
use Rattle.salt_stands.specs.Reading.{Reading}
use Rattle.salt_stands.specs.Stands.{Found, found_with}
use Rattle.salt_stands.specs.Words.{has_bit}
use Rattle.salt_values.specs.declared.id.Id.{Id}
use Rattle.std.specs.List.{list_all}
use Rattle.std.specs.Prelude.{List, Some, [], false, if◌then◌else◌, nat_le, true, ℕ, ◌+◌, ◌<◌, ◌≡◌, ◌⊎◌, ◌≤◌, ◌==◌, ◌∷◌}

abbrev pub partition_count : {D : Type 0} → Coordinator D → ℕ
partition_count c = c.log.header.shape.parts

-- the coordinator and each partition stand on the devices
pub record Stood {D : Type 0} (r : Reading D) (logs : Logs) (devices : ℕ → List ℕ) (which : WhichLog) (c : Coordinator D) (v : ℕ → PartView) : Type 0 where
  pub coordinator : CoordinatorStands r logs which c
  pub part : (p : ℕ) → p < partition_count c → PartStands r c logs devices p (v p)

-- each partition's tables, and what all stand for
abbrev pub each_tables : {D : Type 0} → Coordinator D → (ℕ → PartView) → ℕ → Tables
each_tables c v p = tables_at_part c p (v p)

abbrev pub found_of : {D : Type 0} → Coordinator D → (ℕ → PartView) → Found D
found_of c v = found_with c (listed (each_tables c v) 0 (partition_count c))

-- the changes of a unit in partition p, as it prepares them
abbrev pub share : {D : Type 0} → Coordinator D → Id → List Change → ℕ → Prepared
share c u cs p = record { unit = u; changes = changes_at c.log.header.shape p cs }

-- a unit that may be committed: its changes, its decision, its move and the continuations that it leaves open
pub record MayCommit {D : Type 0} (r : Reading D) (c : Coordinator D) (v : ℕ → PartView) (cs : List Change) (d : Decision) (m : Move) (open_conts : List Cont) : Type 0 where
  pub number : d.number ≡ c.log.told.decisions + 1
  pub boot : d.unit.boot ≤ c.log.told.boot
  -- no entry names the unit
  pub fresh : (p : ℕ) → p < partition_count c → is_prepared_in d.unit (v p).log.prepared ≡ false
  pub new : (p : ℕ) → p < partition_count c → has_id d.unit (decided_for p c.log.told.decided) ≡ false
  -- each change is of a partition, and each partition that has one has a bit
  pub below : AreOfParts c.log.header.shape (partition_count c) cs
  pub bits : (p : ℕ) → p < partition_count c → has_bit d.mask p ≡ false → changes_at c.log.header.shape p cs ≡ []
  pub sound : (p : ℕ) → p < partition_count c → is_sound_prepared r c p (share c d.unit cs p) ≡ true
  -- the move goes on from the open continuations
  pub spells : move_in c.log.header.format d.move ≡ Some m
  pub moves : make_move c.conts m ≡ Some open_conts
  pub named : list_all (is_sound_cont r c.definitions (with_decision c d open_conts).log.told) (conts_of_move (Some m)) ≡ true

-- what is appended
pub record Spelled {D : Type 0} (c : Coordinator D) (v : ℕ → PartView) (cs : List Change) (d : Decision) (decision : List ℕ) (prepared : ℕ → List ℕ) : Type 0 where
  pub coordinator : entry_in (partition_count c) decision ≡ Some (Decides d)
  pub part : (p : ℕ) → p < partition_count c → prepared_in (has_nulls (v p).log.header.format) (prepared p) ≡ Some (share c d.unit cs p)

-- partition p's logs are as they were
pub record PartSame (old new : Logs) (p : ℕ) : Type 0 where
  pub a : IsSameAt (part_device p) old new
  pub b : IsSameAt (part_device p + 1) old new

-- the one that counts has one more entry, and the other one is as it was
pub record PartMore (old new : Logs) (p : ℕ) (which : WhichLog) (payload : List ℕ) : Type 0 where
  pub more : HasOneMore old new (device_of (part_device p) which) payload
  pub other : IsSameAt (device_of (part_device p) (other_log which)) old new

-- the pages that count are read as before
abbrev pub PagesSame : {D : Type 0} → Coordinator D → (ℕ → PartView) → (old new : ℕ → List ℕ) → Type 0
PagesSame c v old new = (p : ℕ) → p < partition_count c → ReadsSamePages (v p) (old (pages_device p)) (new (pages_device p))

-- BEFORE THE DECISION: each partition may have the unit's entry
pub record IsUndecided {D : Type 0} (c : Coordinator D) (v : ℕ → PartView) (old new : Logs) (prepared : ℕ → List ℕ) : Type 0 where
  pub a : IsSameAt 0 old new
  pub b : IsSameAt 1 old new
  pub part : (p : ℕ) → p < partition_count c → PartSame old new p ⊎ PartMore old new p (v p).which (prepared p)

-- AFTER IT: each partition with a bit has the unit's entry, and the coordinator has the decision
pub record IsDecided {D : Type 0} (c : Coordinator D) (v : ℕ → PartView) (which : WhichLog) (old new : Logs) (mask : ℕ) (decision : List ℕ) (prepared : ℕ → List ℕ) : Type 0 where
  pub more : HasOneMore old new (device_of 0 which) decision
  pub other : IsSameAt (device_of 0 (other_log which)) old new
  pub with_bit : (p : ℕ) → p < partition_count c → has_bit mask p ≡ true → PartMore old new p (v p).which (prepared p)
  pub without : (p : ℕ) → p < partition_count c → has_bit mask p ≡ false → PartSame old new p

-- each partition after it
abbrev pub view_after : {D : Type 0} → Coordinator D → (ℕ → PartView) → List Change → Decision → ℕ → PartView
view_after c v cs d p = if has_bit d.mask p then with_prepared_unit (v p) (share c d.unit cs p) else v p

-- what all stand for with the unit
abbrev pub found_after : {D : Type 0} → Coordinator D → (ℕ → PartView) → List Change → Decision → List Cont → Found D
found_after c v cs d open_conts = let before = found_of c v in record before {
  kept = record before.kept { decisions = before.kept.decisions + 1; tables = with_changes cs before.kept.tables; conts = open_conts };
}

-- ONE PARTITION OF A STORE changes

abbrev pub with_view : ℕ → PartView → (ℕ → PartView) → ℕ → PartView
with_view p x v q = if q == p then x else v q

-- its other log is made blank
pub record PartBlanked (old new : Logs) (p : ℕ) (which : WhichLog) : Type 0 where
  pub counting : IsSameAt (device_of (part_device p) which) old new
  pub other : new (device_of (part_device p) (other_log which)) ≡ Some []

-- both logs of the coordinator are as they were, or its other log is made blank
pub record CoordinatorSame (old new : Logs) : Type 0 where
  pub a : IsSameAt 0 old new
  pub b : IsSameAt 1 old new

pub record CoordinatorBlanked (old new : Logs) (which : WhichLog) : Type 0 where
  pub counting : IsSameAt (device_of 0 which) old new
  pub other : new (device_of 0 (other_log which)) ≡ Some []

-- what a checkpoint has done at its end: the next header stands in the other log of p, and its pages have these rows
pub record IsCheckpointed {D : Type 0} (r : Reading D) (c : Coordinator D) (v : PartView) (p : ℕ) (old new : Logs) (after : ℕ → List ℕ) (payload : List ℕ) (format : ℕ) (sides : List ℕ) (rows : List Change) : Type 0 where
  pub counting : IsSameAt (device_of (part_device p) v.which) old new
  pub other : new (device_of (part_device p) (other_log v.which)) ≡ Some (payload ∷ [])
  pub spells : partition_header_in payload ≡ Some (next_part_header v format sides)
  pub own : v.log.header.part ≡ p
  pub first : nat_le 1 v.log.header.generation ≡ true
  pub fits : is_format_under c.log.header.format format ≡ true
  pub reads : rows_of_pages r c p (checkpointed v (next_part_header v format sides) rows).log (after (pages_device p)) ≡ Some rows
  pub tables : with_changes rows no_rows ≡ tables_at_part c p v
