-- A unit's shares in all partitions: what applying them needs, what it touches, and what it makes.
use Rattle.salt_bytes.specs.Page.{page_place}
use Rattle.salt_directory.specs.Bytes.{bytes_of_changes, bytes_of_entries}
use Rattle.salt_disk.specs.Disks.{View}
use Rattle.salt_paged.specs.Partitions.{ArePartitions, IsPartition, page_count, pages_of}
use Rattle.salt_paged.specs.declared.partition.Partition.{Partition}
use Rattle.salt_partition.specs.Partitions.{IsPreparedLast}
use Rattle.salt_shares.specs.Shares.{applied_with, has_changes, share_at}
use Rattle.salt_stands.specs.Partition.{part_tables}
use Rattle.salt_stands.specs.Pieces.{PartView}
use Rattle.salt_values.specs.declared.change.Change.{Change}
use Rattle.salt_values.specs.declared.id.Id.{Id}
use Rattle.std.specs.Prelude.{List, Some, max, slice_get, true, ℕ, ◌+◌, ◌/◌, ◌<◌, ◌≡◌}

-- ONE PARTITION

-- the unit was prepared last, and is not applied, unless it has no changes there
abbrev pub IsShareLast : PartView → List Id → Id → List Change → Type 0
IsShareLast v applied u cs = has_changes cs ≡ true → IsPreparedLast v applied u

-- it stands, and the share was prepared last
pub record StandsWithShare (d : View) (x : Partition) (u : Id) (cs : List Change) : Type 0 where
  pub p : ℕ
  pub v : PartView
  pub applied : List Id
  pub is : IsPartition d x p v applied
  pub last : IsShareLast v applied u cs

-- the device has its pages, and the share is to be applied there
pub record IsSharePages (x : Partition) (cs : List Change) (dev : ℕ) : Type 0 where
  pub changed : has_changes cs ≡ true
  pub device : dev ≡ pages_of x

-- at most as many pages as it has, or as its rows and those of these changes can fill together, and one
abbrev pub pages_with : Partition → PartView → List Id → List Change → ℕ
pages_with x v applied cs = max (page_count x) ((bytes_of_entries (part_tables applied v.log v.rows).list + bytes_of_changes cs) / 4076 + 1)

-- the pages that the unit's changes may take pass the limit of their device
pub record PagesPassLimit (limit : ℕ → ℕ) (x : Partition) (v : PartView) (applied : List Id) (u : Id) (dev : ℕ) : Type 0 where
  pub last : IsPreparedLast v applied u
  pub device : dev ≡ pages_of x
  pub over : limit dev < page_place (pages_with x v applied last.changes) 0

-- ALL PARTITIONS

pub record AreSharesLast (v : ℕ → PartView) (applied : ℕ → List Id) (u : Id) (shares : List (List Change)) : Type 0 where
  pub each : (p : ℕ) → IsShareLast (v p) (applied p) u (share_at shares p)

-- they stand, and in each its share was prepared last
pub record StandWithShares (d : View) (parts : List Partition) (u : Id) (shares : List (List Change)) : Type 0 where
  pub v : ℕ → PartView
  pub applied : ℕ → List Id
  pub are : ArePartitions d parts v applied
  pub last : AreSharesLast v applied u shares

-- the device has the pages of one of the first n, whose share is to be applied there
pub record IsPagesOfShares (parts : List Partition) (shares : List (List Change)) (n dev : ℕ) : Type 0 where
  pub p : ℕ
  pub low : p < n
  pub x : Partition
  pub at : slice_get parts p ≡ Some x
  pub pages : IsSharePages x (share_at shares p) dev

-- the units that are applied in each, with this one where it has a share
abbrev pub applied_with_shares : Id → List (List Change) → (ℕ → List Id) → ℕ → List Id
applied_with_shares u shares applied p = applied_with u (share_at shares p) (applied p)

-- the pages of one of them pass the limit
pub record OnePagesPassLimit (limit : ℕ → ℕ) (parts : List Partition) (v : ℕ → PartView) (applied : ℕ → List Id) (u : Id) (dev : ℕ) : Type 0 where
  pub p : ℕ
  pub x : Partition
  pub at : slice_get parts p ≡ Some x
  pub passes : PagesPassLimit limit x (v p) (applied p) u dev
