-- What a store on its devices holds of a database.
use Rattle.law_generations.specs.AsIf.{IsNewName}
use Rattle.salt_bytes.specs.Formats.{has_nulls}
use Rattle.salt_bytes.specs.Generations.{Counts, WhichLog}
use Rattle.salt_commit.specs.Messages.{IsAtRest, IsNewIn, net_of}
use Rattle.salt_commit.specs.Stores.{IsStore, last_boot, reading}
use Rattle.salt_commit.specs.declared.store.Store.{Store}
use Rattle.salt_devices.specs.Leaving.{CanOpen}
use Rattle.salt_disk.specs.Settling.{AreSettled}
use Rattle.salt_devices.specs.declared.pending.Pending.TheVariants.{Nothing}
use Rattle.salt_devices.specs.declared.pending.Pending.{Pending}
use Rattle.salt_disk.specs.Disks.{View}
use Rattle.salt_model.specs.Kept.{Definition, Kept}
use Rattle.salt_net.specs.Turns.{Turning}
use Rattle.salt_stands.specs.Commits.{found_of, partition_count}
use Rattle.salt_stands.specs.Coordinator.{Coordinator, coordinator_pair}
use Rattle.salt_stands.specs.Fitting.{kept_in}
use Rattle.salt_stands.specs.Partition.{pages_device, part_pair}
use Rattle.salt_stands.specs.Pieces.{PartView}
use Rattle.salt_stands.specs.Stands.{logs_of}
use Rattle.salt_storage.specs.Staying.{Setup}
use Rattle.salt_storage.specs.Storing.{IsSoundKept}
use Rattle.salt_place.specs.Placement.{IsParts}
use Rattle.salt_values.specs.declared.id.Id.{Id}
use Rattle.salt_place.specs.declared.placement.Shape.{Shape}
use Rattle.std.specs.Prelude.{Bool, IfSome, IsTrue, None, Option, Some, false, true, ℕ, ◌<◌, ◌≡◌}

-- what devices are asked for
abbrev pub setup_in : Shape → Bool → Setup
setup_in shape over = record { shape = shape; over_net = over }

-- there are devices for each part
pub record IsAble (shape : Shape) (d : View) : Type 0 where
  pub parts : IsParts shape.parts
  pub room : (p : ℕ) → p < shape.parts → pages_device p < d.count

-- and where they were started, nothing is pending
pub record CanStart (shape : Shape) (started : Bool) (p : Pending) (d : View) : Type 0 where
  pub able : IsAble shape d
  pub settled : started ≡ true → AreSettled d
  pub opens : CanOpen p started d shape

-- WHAT STANDS, whatever the disks tell: a store in this shape and the newest formats

pub record IsInShape (shape : Shape) (c : Coordinator Definition) (v : ℕ → PartView) : Type 0 where
  pub has_shape : c.log.header.shape ≡ shape
  pub format : c.log.header.format ≡ 3
  pub nulls : (p : ℕ) → p < partition_count c → has_nulls (v p).log.header.format ≡ true

pub record IsStanding (d : View) (shape : Shape) (x : Store) : Type 0 where
  pub which : WhichLog
  pub c : Coordinator Definition
  pub v : ℕ → PartView
  pub is : IsStore reading d x which c v
  pub newest : IsInShape shape c v

-- where the disks tell, it keeps this, which is sound
pub record IsHeld (d : View) (shape : Shape) (x : Store) (k : Kept) : Type 0 where
  pub told : IsTrue d.told
  pub which : WhichLog
  pub c : Coordinator Definition
  pub v : ℕ → PartView
  pub is : IsStore reading d x which c v
  pub newest : IsInShape shape c v
  pub keeps : kept_in (found_of c v) ≡ k
  pub kept : IsSoundKept k

-- the net that commits go over, where they do, rests, and knows no unit of a later boot
pub record NetFits (x : Store) (boot : ℕ) : Type 0 where
  pub rests : IsAtRest x
  pub later : (u : Id) → boot < u.boot → IsNewIn x u

-- the store stands in memory: no call on it has failed, and the devices were not started since
pub record IsGoing (shape : Shape) (started : Bool) (p : Pending) (d : View) (x : Store) : Type 0 where
  pub called : started ≡ false
  pub nothing : p ≡ Nothing
  pub stands : IsStanding d shape x
  pub net : NetFits x (last_boot x)

-- whatever the disks tell, it can be called, and started again
pub record IsCallable (shape : Shape) (started : Bool) (o : Option Store) (p : Pending) (d : View) : Type 0 where
  pub can : CanStart shape started p d
  pub store : IfSome o (IsGoing shape started p d)

-- what its commits have sent
abbrev pub net_in : Option Store → Option Turning
net_in None = None
net_in (Some x) = net_of x

abbrev pub HoldsIn : View → Shape → Option Store → Kept → Type 0
HoldsIn d shape None k = ⊥
HoldsIn d shape (Some x) k = IsHeld d shape x k

-- the logs that count are these
pub record AreLogsOf (d : View) (c : Coordinator Definition) (v : ℕ → PartView) : Type 0 where
  pub which : WhichLog
  pub counts : coordinator_pair (logs_of d.bytes) ≡ Counts which c.log
  pub parts : (p : ℕ) → p < partition_count c → part_pair p (logs_of d.bytes) ≡ Counts (v p).which (v p).log

-- where the disks tell; where not, the units' names are not known
abbrev pub IsNewTo : View → Id → Type 0
IsNewTo d u = IsTrue d.told → (c : Coordinator Definition) (v : ℕ → PartView) → AreLogsOf d c v → IsNewName c v u

-- nor was it started in the net
abbrev pub IsNewWith : View → Option Store → Id → Type 0
IsNewWith d o u = IsNewTo d u × IfSome o (λ x. IsNewIn x u)
