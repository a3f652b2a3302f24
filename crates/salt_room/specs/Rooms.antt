-- The partitions of a store, and what new generations leave of them.
use Rattle.law_generations.specs.AsIf.{IsAsIf}
use Rattle.salt_bytes.specs.Formats.{has_nulls}
use Rattle.salt_bytes.specs.Generations.{WhichLog}
use Rattle.salt_checkpoint.specs.Checkpoints.{IsReady}
use Rattle.salt_disk.specs.Disks.{FullWhere, View}
use Rattle.salt_disk.specs.declared.disks.DiskErr.TheVariants.{Full}
use Rattle.salt_disk.specs.declared.disks.DiskErr.{DiskErr}
use Rattle.salt_paged.specs.Checkpoints.{FullAtCheckpoint}
use Rattle.salt_paged.specs.Partitions.{IsPartition, page_count, unit_count}
use Rattle.salt_paged.specs.declared.partition.Partition.{Partition}
use Rattle.salt_stands.specs.Commits.{each_tables, partition_count}
use Rattle.salt_stands.specs.Coordinator.{Coordinator, decided_for}
use Rattle.salt_stands.specs.LogDevices.{IsPartitionLog}
use Rattle.salt_stands.specs.Partition.{pages_device}
use Rattle.salt_stands.specs.Pieces.{PartView}
use Rattle.salt_stands.specs.Reading.{Reading}
use Rattle.salt_values.specs.declared.change.Change.{Change}
use Rattle.salt_values.specs.declared.id.Id.{Id}
use Rattle.std.specs.Prelude.{IfSome, IsTrue, List, Option, Some, [], length, slice_get, true, ℕ, ◌<◌, ◌≡◌, ◌⊎◌, ◌∷◌}

-- The partitions of a store stand on the devices, with the units that are decided applied; where the devices tell, the store is ready.
pub record ArePartsOf {D : Type 0} (r : Reading D) (d : View) (parts : List Partition) (which : WhichLog) (c : Coordinator D) (v : ℕ → PartView) : Type 0 where
  pub size : length parts ≡ partition_count c
  pub each : (p : ℕ) → IfSome (slice_get parts p) (λ x. IsPartition d x p (v p) (decided_for p c.log.told.decided))
  pub ready : IsTrue d.told → IsReady r d which c v

-- a value stands as this partition
pub record StandsAs (d : View) (p : ℕ) (x : Partition) : Type 0 where
  pub v : PartView
  pub applied : List Id
  pub is : IsPartition d x p v applied

-- each of them stands, of whatever store
pub record EachStands (d : View) (parts : List Partition) : Type 0 where
  pub each : (p : ℕ) → IfSome (slice_get parts p) (StandsAs d p)

-- each partition of a generation has the tables that it had, and spells NULL where it did
pub record HaveSameTables {D : Type 0} (c : Coordinator D) (v : ℕ → PartView) (c' : Coordinator D) (v' : ℕ → PartView) : Type 0 where
  pub tables : (p : ℕ) → p < partition_count c → each_tables c' v' p ≡ each_tables c v p
  pub nulls : (p : ℕ) → p < partition_count c → has_nulls (v p).log.header.format ≡ true → has_nulls (v' p).log.header.format ≡ true

-- they are those of another generation of the store
pub record GoOn {D : Type 0} (r : Reading D) (d : View) (parts : List Partition) (which : WhichLog) (c : Coordinator D) (v : ℕ → PartView) : Type 0 where
  pub view : ℕ → PartView
  pub as_if : IsAsIf c v c view
  pub same : HaveSameTables c v c view
  pub are : ArePartsOf r d parts which c view

-- in which the first n have no prepared unit, and NULL spelled: where the devices tell, they are of format 2
pub record GoOnEmpty {D : Type 0} (n : ℕ) (r : Reading D) (d : View) (parts : List Partition) (which : WhichLog) (c : Coordinator D) (v : ℕ → PartView) : Type 0 where
  pub on : GoOn r d parts which c v
  pub none : (p : ℕ) → p < n → (on.view p).log.prepared ≡ []
  pub nulls : (p : ℕ) → p < n → has_nulls (on.view p).log.header.format ≡ true
  pub format : IsTrue d.told → (p : ℕ) → p < n → (on.view p).log.header.format ≡ 2

-- the device is a log of one of the first n partitions, or has its pages
pub record IsOfPart (n dev : ℕ) : Type 0 where
  pub p : ℕ
  pub low : p < n
  pub is : IsPartitionLog p dev ⊎ (dev ≡ pages_device p)

-- one of these partitions is too long for its devices, as they are behind the call
pub record IsTooLong (d : View) (parts : List Partition) (dev : ℕ) : Type 0 where
  pub p : ℕ
  pub part : Partition
  pub at : slice_get parts p ≡ Some part
  pub full : FullAtCheckpoint d part (Some (Full dev))

abbrev pub FullAtOne : View → List Partition → Option DiskErr → Type 0
FullAtOne d parts answer = FullWhere (IsTooLong d parts) answer

-- and it has one of these shares, which is not empty
pub record IsTooLongForShare (d : View) (parts : List Partition) (shares : List (List Change)) (dev : ℕ) : Type 0 where
  pub long : IsTooLong d parts dev
  pub share : List Change
  pub at : slice_get shares long.p ≡ Some share
  pub some : 0 < length share

abbrev pub FullAtShare : View → List Partition → List (List Change) → Option DiskErr → Type 0
FullAtShare d parts shares answer = FullWhere (IsTooLongForShare d parts shares) answer

-- each has as many pages as it had
pub record HaveSamePages (old new : List Partition) : Type 0 where
  pub each : (p : ℕ) (x y : Partition) → slice_get old p ≡ Some x → slice_get new p ≡ Some y → page_count y ≡ page_count x

-- the first n have no unit in their logs
pub record HaveNone (n : ℕ) (parts : List Partition) : Type 0 where
  pub each : (p : ℕ) → p < n → (x : Partition) → slice_get parts p ≡ Some x → unit_count x ≡ 0

-- how many units a partition's log may have before it is begun anew
abbrev pub most_units : ℕ
most_units = 256

-- of the first n partitions each that has a share has room for one unit more
pub record HaveRoom (n : ℕ) (parts : List Partition) (shares : List (List Change)) : Type 0 where
  pub each : (p : ℕ) → p < n → (x : Partition) → slice_get parts p ≡ Some x → (c : Change) (cs : List Change) → slice_get shares p ≡ Some (c ∷ cs) → unit_count x < most_units
