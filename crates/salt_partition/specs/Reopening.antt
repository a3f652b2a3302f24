-- When a partition may be opened again while it stands, and what it then goes on from.
use Rattle.salt_bytes.specs.Partition.{Prepared}
use Rattle.salt_disk.specs.Disks.{View}
use Rattle.salt_model.specs.Tables.{Tables, with_changes}
use Rattle.salt_partition.specs.Partitions.{IsPartition, log_device, log_gate, rows_in, spells_nulls}
use Rattle.salt_partition.specs.declared.partition.Partition.{Partition}
use Rattle.salt_stands.specs.OpenedPart.{is_known_log}
use Rattle.salt_stands.specs.Partition.{part_tables}
use Rattle.salt_stands.specs.Pieces.{PartView}
use Rattle.salt_values.specs.Id.{has_id}
use Rattle.salt_values.specs.declared.change.Change.{Change}
use Rattle.salt_values.specs.declared.id.Id.{Id}
use Rattle.std.specs.Prelude.{IsTrue, List, [], false, true, ℕ, ◌++◌, ◌≡◌, ◌∷◌}

-- With these units decided the rows are those of the units that are applied, with these changes.
pub record GoesOn (v : PartView) (applied decided : List Id) (cs : List Change) : Type 0 where
  pub kept : (u : Id) → has_id u decided ≡ false → has_id u applied ≡ false
  pub rows : part_tables decided v.log v.rows ≡ with_changes cs (part_tables applied v.log v.rows)

-- A partition stands that goes on so. Where the disks tell their bytes, it is opened under these units, and its log fits them and the boot.
pub record StandsToReopen (d : View) (x : Partition) (boot : ℕ) (units : List Id) (cs : List Change) : Type 0 where
  pub p : ℕ
  pub v : PartView
  pub applied : List Id
  pub decided : List Id
  pub is : IsPartition d x p v applied
  pub goes_on : GoesOn v applied decided cs
  pub same : IsTrue d.told → units ≡ decided
  pub known : IsTrue d.told → is_known_log boot units v.log ≡ true

-- One value goes on from another: its log is on the same device, ends where that one's does and spells NULL as it, and its rows are
-- these, with the changes.
pub record IsLater (x before : Partition) (cs : List Change) (t : Tables) : Type 0 where
  pub device : log_device x ≡ log_device before
  pub gate : log_gate x ≡ log_gate before
  pub nulls : spells_nulls x ≡ spells_nulls before
  pub rows : rows_in x ≡ (with_changes cs t).list

-- whatever tables the other one's rows are
abbrev pub LaterThan : Partition → Partition → List Change → Type 0
LaterThan x before cs = (t : Tables) → rows_in before ≡ t.list → IsLater x before cs t

-- the unit of the last entry is among these
abbrev pub IsLastIn : List Id → List Prepared → Type 0
IsLastIn us ps = (before : List Prepared) (x : Prepared) → ps ≡ before ++ x ∷ [] → has_id x.unit us ≡ true
