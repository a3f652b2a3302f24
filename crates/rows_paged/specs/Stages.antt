-- A partition between two generations.
use Rattle.salt_disk.specs.Disks.{IsSettled, View}
use Rattle.salt_paged.specs.Partitions.{IsPartition}
use Rattle.salt_paged.specs.declared.partition.Partition.{Partition}
use Rattle.salt_stands.specs.Pieces.{PartView}
use Rattle.std.specs.Prelude.{[], ℕ, ◌<◌, ◌≡◌}

-- nothing is pending on any device
abbrev pub AreSettled : View → Type 0
AreSettled d = (dev : ℕ) → dev < d.count → IsSettled d dev

-- it stands, and no unit is behind its header
pub record StandsEmpty (d : View) (x : Partition) : Type 0 where
  pub p : ℕ
  pub v : PartView
  pub is : IsPartition d x p v []
  pub none : v.log.prepared ≡ []
  pub format : v.log.header.format ≡ 2
