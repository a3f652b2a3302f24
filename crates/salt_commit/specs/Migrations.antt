-- A store goes on in the newest formats.
use Rattle.law_generations.specs.AsIf.{IsAsIfIn, in_format}
use Rattle.salt_bytes.specs.Formats.{has_nulls}
use Rattle.salt_bytes.specs.Generations.{WhichLog}
use Rattle.salt_commit.specs.Messages.{messages_of}
use Rattle.salt_commit.specs.Stores.{IsStore, IsStoreDevice, StandForEither, numbers_in, reading, shape_of_store}
use Rattle.salt_commit.specs.declared.store.Store.{Store}
use Rattle.salt_decisions.specs.declared.header_payload.TheConstants.{FORMAT}
use Rattle.salt_disk.specs.Disks.{FullWhere, HasCause, KeepsBut, View}
use Rattle.salt_disk.specs.declared.disks.DiskErr.{DiskErr}
use Rattle.salt_model.specs.Kept.{Definition}
use Rattle.salt_promise.specs.Filling.{MigrationFills}
use Rattle.salt_room.specs.Migrations.{GoUnder}
use Rattle.salt_stands.specs.Commits.{found_of, partition_count}
use Rattle.salt_stands.specs.Coordinator.{Coordinator}
use Rattle.salt_stands.specs.Pieces.{PartView}
use Rattle.std.specs.Prelude.{IsTrue, None, Option, true, ℕ, ◌<◌, ◌≡◌}

-- another generation of a store, in the newest formats: it stands for the same but for that, and each partition spells NULL
pub record GoesOnNewest (d : View) (x : Store) (c : Coordinator Definition) (v : ℕ → PartView) : Type 0 where
  pub which : WhichLog
  pub coordinator : Coordinator Definition
  pub views : ℕ → PartView
  pub as_if : IsAsIfIn FORMAT c v coordinator views
  pub nulls : (p : ℕ) → p < partition_count c → has_nulls (views p).log.header.format ≡ true
  pub is : IsStore reading d x which coordinator views

-- Behind Ok the store goes on so, where each partition has a format that goes under the coordinator's. Whatever is answered, each image
-- stands for what stood before, in the format that it had or in the newest.
pub record HasMigrated (d e : View) (x y : Store) (answer : Option DiskErr) : Type 0 where
  pub on : answer ≡ None → (which : WhichLog) (c : Coordinator Definition) (v : ℕ → PartView) → IsStore reading d x which c v → GoUnder c v → GoesOnNewest e y c v
  pub images : (which : WhichLog) (c : Coordinator Definition) (v : ℕ → PartView) → IsStore reading d x which c v → IsTrue d.told → StandForEither reading e (found_of c v) (in_format FORMAT (found_of c v))
  pub numbers : numbers_in y ≡ numbers_in x
  pub shape : shape_of_store y ≡ shape_of_store x
  pub messages : messages_of y ≡ messages_of x
  pub others : KeepsBut (IsStoreDevice (shape_of_store x).parts) d e answer
  pub cause : HasCause d e answer
  pub full : IsTrue d.told → FullWhere (MigrationFills e (shape_of_store x)) answer
