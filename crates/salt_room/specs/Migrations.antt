-- A store of an older format goes on in the newest.
use Rattle.law_generations.specs.AsIf.{IsAsIfIn, in_format}
use Rattle.salt_bytes.specs.Formats.{has_nulls}
use Rattle.salt_bytes.specs.Generations.{WhichLog}
use Rattle.salt_decisions.specs.Decisions.{numbers_in, shape_of}
use Rattle.salt_decisions.specs.declared.decisions.Decisions.{Decisions}
use Rattle.salt_decisions.specs.declared.header_payload.TheConstants.{FORMAT}
use Rattle.salt_disk.specs.Disks.{FullWhere, HasCause, IsImage, KeepsBut, View}
use Rattle.salt_disk.specs.declared.disks.DiskErr.{DiskErr}
use Rattle.salt_model.specs.Kept.{Definition}
use Rattle.salt_paged.specs.declared.partition.Partition.{Partition}
use Rattle.salt_place.specs.declared.placement.Shape.{Shape}
use Rattle.salt_room.specs.Making.{IsFullAtRenewal}
use Rattle.salt_room.specs.Renewals.{IsOfStore, IsStoreOf}
use Rattle.salt_stands.specs.Commits.{found_of, partition_count}
use Rattle.salt_stands.specs.Coordinator.{Coordinator}
use Rattle.salt_stands.specs.Partition.{is_format_under}
use Rattle.salt_stands.specs.Pieces.{PartView}
use Rattle.salt_stands.specs.Reading.{Reading}
use Rattle.salt_stands.specs.Stands.{stands_on}
use Rattle.std.specs.Prelude.{IsTrue, List, None, Ok, Option, length, true, ℕ, ◌<◌, ◌≡◌, ◌≢◌, ◌⊎◌}

-- each partition has a format that goes under the coordinator's
abbrev pub GoUnder : Coordinator Definition → (ℕ → PartView) → Type 0
GoUnder c v = (p : ℕ) → p < partition_count c → is_format_under c.log.header.format (v p).log.header.format ≡ true

-- the store goes on in the newest formats: it stands for the same but for that, and each partition spells NULL
pub record GoesOnNewest (r : Reading Definition) (d : View) (x : Decisions) (parts : List Partition) (c : Coordinator Definition) (v : ℕ → PartView) : Type 0 where
  pub which : WhichLog
  pub coordinator : Coordinator Definition
  pub views : ℕ → PartView
  pub as_if : IsAsIfIn FORMAT c v coordinator views
  pub nulls : (p : ℕ) → p < partition_count c → has_nulls (views p).log.header.format ≡ true
  pub is : IsStoreOf r d x parts which coordinator views

-- each image stands for what stood before, in the format that it had or in the newest
abbrev pub StandsInEither : Reading Definition → View → Coordinator Definition → (ℕ → PartView) → Type 0
StandsInEither r d c v = (asked : Shape) (image : ℕ → List ℕ) → IsImage d image
    → (stands_on r image asked ≡ Ok (found_of c v)) ⊎ (stands_on r image asked ≡ Ok (in_format FORMAT (found_of c v)))

-- WHERE A DEVICE IS FULL, behind the call: the log of the coordinator that counts is of an older format, and all logs begin anew
pub record MigrationPassesLimit (d : View) (x : Decisions) (parts : List Partition) (dev : ℕ) : Type 0 where
  pub renewal : IsFullAtRenewal d x parts dev
  pub older : renewal.log.header.format ≢ FORMAT

abbrev pub FullAtMigration : View → Decisions → List Partition → Option DiskErr → Type 0
FullAtMigration d x parts answer = FullWhere (MigrationPassesLimit d x parts) answer

-- WHAT A MIGRATION DOES
pub record Migrates (d e : View) (x y : Decisions) (parts now : List Partition) (answer : Option DiskErr) : Type 0 where
  pub on : answer ≡ None → (r : Reading Definition) (which : WhichLog) (c : Coordinator Definition) (v : ℕ → PartView) → IsStoreOf r d x parts which c v → GoUnder c v → GoesOnNewest r e y now c v
  pub images : (r : Reading Definition) (which : WhichLog) (c : Coordinator Definition) (v : ℕ → PartView) → IsTrue d.told → IsStoreOf r d x parts which c v → StandsInEither r e c v
  pub numbers : numbers_in y ≡ numbers_in x
  pub shape : shape_of y ≡ shape_of x
  pub size : length now ≡ length parts
  pub others : KeepsBut (IsOfStore (length parts)) d e answer
  pub cause : HasCause d e answer
  pub full : IsTrue d.told → FullAtMigration e x parts answer
