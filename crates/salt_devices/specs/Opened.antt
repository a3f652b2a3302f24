-- What an opening of devices finds.
use Rattle.law_generations.specs.AsIf.{in_format}
use Rattle.salt_bytes.specs.Generations.{WhichLog}
use Rattle.salt_commit.specs.Stores.{IsStore, StandForEither, reading}
use Rattle.salt_commit.specs.declared.store.Store.{Store}
use Rattle.salt_decisions.specs.Kept.{IsKept}
use Rattle.salt_decisions.specs.declared.kept.Kept as log
use Rattle.salt_devices.specs.Holding.{IsHeld, IsStanding}
use Rattle.salt_devices.specs.Leaving.{StandsFor}
use Rattle.salt_devices.specs.Remembering.{AreNumbersOf, numbers_of}
use Rattle.salt_disk.specs.Disks.{KeepsAll, View}
use Rattle.salt_disk.specs.declared.disks.DiskErr.{DiskErr}
use Rattle.salt_found.specs.Recovered.{IsRecovered}
use Rattle.salt_found.specs.declared.recovery.Recovered.{Recovered}
use Rattle.salt_model.specs.Kept.{Definition, Kept}
use Rattle.salt_place.specs.declared.placement.Shape.{Shape}
use Rattle.salt_stands.specs.Commits.{found_of, partition_count}
use Rattle.salt_stands.specs.Coordinator.{Coordinator, coordinator_of}
use Rattle.salt_stands.specs.CoordinatorLog.{CoordinatorLog}
use Rattle.salt_stands.specs.Fitting.{kept_in}
use Rattle.salt_stands.specs.Partition.{is_format_under}
use Rattle.salt_stands.specs.Pieces.{PartView}
use Rattle.salt_stands.specs.Stands as opening
use Rattle.salt_stands.specs.Stands.{Stands, opening_of}
use Rattle.salt_storage.specs.Storing.{IsFound, IsSoundKept}
use Rattle.salt_storage.specs.declared.found.Found.{Found}
use Rattle.std.specs.Prelude.{IsTrue, Option, true, ℕ, ◌<◌, ◌≡◌, ◌⊎◌}

-- THE LOG that is opened

-- it is what the log stands for that keeps this
pub record IsRead (kept : log.Kept) (r : Recovered) : Type 0 where
  pub is : (l : CoordinatorLog) → IsKept kept l → IsRecovered r (coordinator_of reading l)

-- THE STORE

-- It stands, and what is found is of something that may be kept. Where the disks tell, that is what it holds, and what stood on the
-- devices; where not, no rows are known.
pub record OpensAs (d e : View) (shape : Shape) (x : Store) (found : Found) : Type 0 where
  pub kept : Kept
  pub stands : IsStanding e shape x
  pub is_found : IsFound found kept
  pub numbers : AreNumbersOf (numbers_of x) kept
  pub sound : IsSoundKept kept
  pub held : IsTrue e.told → IsHeld e shape x kept
  pub stood : IsTrue d.told → StandsFor shape d.bytes kept

-- It opened in the format that it has: the rest as of one that stands in the newest.
pub record OpensIn (d e : View) (shape : Shape) (x : Store) (found : Found) : Type 0 where
  pub which : WhichLog
  pub c : Coordinator Definition
  pub v : ℕ → PartView
  pub is : IsStore reading e x which c v
  pub has_shape : c.log.header.shape ≡ shape
  pub under : (p : ℕ) → p < partition_count c → is_format_under c.log.header.format (v p).log.header.format ≡ true
  pub kept : Kept
  pub is_found : IsFound found kept
  pub numbers : AreNumbersOf (numbers_of x) kept
  pub sound : IsSoundKept kept
  pub keeps : IsTrue e.told → kept_in (found_of c v) ≡ kept
  pub finds : IsTrue d.told → opening_of reading d.bytes shape ≡ Stands (found_of c v)

-- WHAT IT LEAVES where it fails: nothing is written, or the bytes stood for a store, and each image stands for that, in the format that it
-- had or in the newest
pub record StandsYet (d e : View) (shape : Shape) : Type 0 where
  pub found : opening.Found Definition
  pub opens : opening_of reading d.bytes shape ≡ Stands found
  pub images : StandForEither reading e found (in_format 3 found)

abbrev pub LeavesKept : (d e : View) → Shape → Option DiskErr → Type 0
LeavesKept d e shape answer = KeepsAll d e answer ⊎ StandsYet d e shape
