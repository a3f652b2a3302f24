-- When a partition may be opened again while it stands, and what it then goes on from.
use Rattle.salt_codec.specs.Entries.{header_of}
use Rattle.salt_disk.specs.Disks.{View}
use Rattle.salt_paged.specs.Partitions.{IsPartition, log_device, log_gate}
use Rattle.salt_paged.specs.declared.partition.Partition.{Partition}
use Rattle.salt_stands.specs.OpenedPart.{is_known_log}
use Rattle.salt_stands.specs.Pieces.{PartView}
use Rattle.salt_values.specs.Id.{has_id}
use Rattle.salt_values.specs.declared.id.Id.{Id}
use Rattle.std.specs.Prelude.{IsTrue, List, false, true, ℕ, ◌≡◌}

-- units that are applied are decided
abbrev pub AreDecided : (applied decided : List Id) → Type 0
AreDecided applied decided = (u : Id) → has_id u decided ≡ false → has_id u applied ≡ false

-- A partition stands, and what is applied is decided. Where the disks tell their bytes, it is opened under these units, and its log
-- fits them and the boot.
pub record StandsToReopen (d : View) (x : Partition) (boot : ℕ) (units : List Id) : Type 0 where
  pub p : ℕ
  pub v : PartView
  pub applied : List Id
  pub decided : List Id
  pub is : IsPartition d x p v applied
  pub goes_on : AreDecided applied decided
  pub same : IsTrue d.told → units ≡ decided
  pub known : IsTrue d.told → is_known_log boot units v.log ≡ true

-- one value's log is the other one's: it begins with the same header, on the same device, and ends there
pub record IsSameLog (x before : Partition) : Type 0 where
  pub header : header_of x.header ≡ header_of before.header
  pub side : x.side ≡ before.side
  pub device : log_device x ≡ log_device before
  pub gate : log_gate x ≡ log_gate before
