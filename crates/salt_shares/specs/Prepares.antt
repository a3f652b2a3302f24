-- A unit's shares in all partitions: what preparing them needs, what it touches, and what it makes.
use Rattle.salt_bytes.specs.Partition.{spell_prepared}
use Rattle.salt_disk.specs.Disks.{View}
use Rattle.salt_paged.specs.Partitions.{ArePartitions, IsPartition, log_device, log_gate}
use Rattle.salt_paged.specs.declared.partition.Partition.{Partition}
use Rattle.salt_partition.specs.Partitions.{prepared}
use Rattle.salt_shares.specs.Shares.{MayPrepareShare, has_changes, share_at, with_share}
use Rattle.salt_stands.specs.Pieces.{PartView}
use Rattle.salt_values.specs.declared.change.Change.{Change}
use Rattle.salt_values.specs.declared.id.Id.{Id}
use Rattle.std.specs.Prelude.{List, Some, length, slice_get, true, ℕ, ◌+◌, ◌<◌, ◌≡◌}

-- ONE PARTITION

-- it stands, and the share may be prepared in it
pub record StandsForShare (d : View) (x : Partition) (u : Id) (cs : List Change) : Type 0 where
  pub p : ℕ
  pub v : PartView
  pub applied : List Id
  pub is : IsPartition d x p v applied
  pub may : MayPrepareShare v applied u cs

-- the device is its log, and the share is to be prepared there
pub record IsShareLog (x : Partition) (cs : List Change) (dev : ℕ) : Type 0 where
  pub changed : has_changes cs ≡ true
  pub device : dev ≡ log_device x

-- the share's entry would pass the limit of its log
pub record PassesLimit (limit : ℕ → ℕ) (x : Partition) (u : Id) (cs : List Change) (dev : ℕ) : Type 0 where
  pub log : IsShareLog x cs dev
  pub over : limit dev < log_gate x + 10 + length (spell_prepared (prepared u cs))

-- ALL PARTITIONS

pub record MayPrepareEach (v : ℕ → PartView) (applied : ℕ → List Id) (u : Id) (shares : List (List Change)) : Type 0 where
  pub each : (p : ℕ) → MayPrepareShare (v p) (applied p) u (share_at shares p)

-- they stand, and in each its share may be prepared
pub record StandForShares (d : View) (parts : List Partition) (u : Id) (shares : List (List Change)) : Type 0 where
  pub v : ℕ → PartView
  pub applied : ℕ → List Id
  pub are : ArePartitions d parts v applied
  pub may : MayPrepareEach v applied u shares

-- the device is the log of one of the first n, whose share is to be prepared there
pub record IsLogOfShares (parts : List Partition) (shares : List (List Change)) (n dev : ℕ) : Type 0 where
  pub p : ℕ
  pub low : p < n
  pub x : Partition
  pub at : slice_get parts p ≡ Some x
  pub log : IsShareLog x (share_at shares p) dev

-- each with its share
abbrev pub with_shares : Id → List (List Change) → (ℕ → PartView) → ℕ → PartView
with_shares u shares v p = with_share u (share_at shares p) (v p)

-- the share's entry of one of them would pass the limit of its log
pub record OnePassesLimit (limit : ℕ → ℕ) (parts : List Partition) (u : Id) (shares : List (List Change)) (dev : ℕ) : Type 0 where
  pub p : ℕ
  pub x : Partition
  pub at : slice_get parts p ≡ Some x
  pub passes : PassesLimit limit x u (share_at shares p) dev
