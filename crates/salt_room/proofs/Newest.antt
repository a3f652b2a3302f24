-- A store goes on in the newest formats: it has them already, or all logs begin new generations.
use Rattle.law_generations.proofs.AsIf.{as_if_in_same, as_if_same}
use Rattle.salt_bytes.specs.Formats.{has_nulls}
use Rattle.salt_bytes.specs.Generations.{WhichLog}
use Rattle.salt_decisions.specs.Decisions.{format_of, numbers_in, shape_of}
use Rattle.salt_decisions.specs.declared.decisions.Decisions.{Decisions}
use Rattle.salt_disk.proofs.CallAfterCall.{cause_none, same_shape}
use Rattle.salt_disk.specs.Disks.{HasCause, KeepsBut, View}
use Rattle.salt_disk.specs.declared.disks.DiskErr.TheVariants.{Failed, Full, Memory, Stopped}
use Rattle.salt_disk.specs.declared.disks.DiskErr.{DiskErr}
use Rattle.salt_model.specs.Kept.{Definition}
use Rattle.salt_paged.specs.declared.partition.Partition.{Partition}
use Rattle.salt_room.proofs.Begun.{ready_stands}
use Rattle.salt_room.proofs.Made.{when_ok}
use Rattle.salt_room.specs.Migrations.{FullAtMigration, GoUnder, GoesOnNewest, MigrationPassesLimit, Migrates, StandsInEither}
use Rattle.salt_room.specs.Renewals.{IsOfStore, IsStoreOf}
use Rattle.salt_stands.specs.Coordinator.{Coordinator}
use Rattle.salt_stands.specs.Partition.{is_format_under}
use Rattle.salt_stands.specs.Pieces.{PartView}
use Rattle.salt_stands.specs.Reading.{Reading}
use Rattle.std.proofs.Common.{Err, IsTrue, List, None, Ok, OnOk, Result, ap, inl, length, refl, sym, true, ℕ, ◌≡◌, ◌∙◌}
use Rattle.std.proofs.lemmas.Bool.Decides.{Decides-eqb}
use Rattle.std.specs.Result.{result_err}

-- under a log of the newest format a partition spells NULL
nulls_under : (format : ℕ) → is_format_under 3 format ≡ true → has_nulls format ≡ true
nulls_under format under = ap has_nulls ((Decides-eqb format 2).0 under)

-- IT HAS THEM
module _ (d : View) (x : Decisions) (parts : List Partition) (newest : format_of x ≡ 3) where
  as_it_is : (r : Reading Definition) (which : WhichLog) (c : Coordinator Definition) (v : ℕ → PartView) → IsStoreOf r d x parts which c v → GoUnder c v → GoesOnNewest r d x parts c v
  as_it_is r which c v is under = record {
    which = which;
    coordinator = c;
    views = v;
    as_if = as_if_in_same 3 c c v v own (as_if_same c v);
    nulls = λ p low. nulls_under (v p).log.header.format (ap (λ (k : ℕ). is_format_under k (v p).log.header.format) (sym own) ∙ under p low);
    is = is;
  }
    where
      own : c.log.header.format ≡ 3
      own = sym is.decisions.holds.format ∙ newest

  pub newest_already : Migrates d d x x parts parts None
  newest_already = record {
    on = λ done r which c v is under. as_it_is r which c v is under;
    images = λ r which c v told is asked image left. inl (ready_stands r d which c v (is.are.ready told) asked image left);
    numbers = refl;
    shape = refl;
    size = refl;
    others = record { shape = same_shape d; kept = λ dev other. record { bytes = refl; images = λ image left. left }; images = λ dev other image left. left };
    cause = cause_none d;
    full = λ told. tt;
  }

-- ALL LOGS begin new generations
full_at_migration : {T : Type 0} (e : View) (x : Decisions) (parts : List Partition) (answer : Result T DiskErr) → ((dev : ℕ) → answer ≡ Err (Full dev) → MigrationPassesLimit e x parts dev) → FullAtMigration e x parts (result_err answer)
full_at_migration e x parts (Ok y) passes = tt
full_at_migration e x parts (Err Failed) passes = tt
full_at_migration e x parts (Err Stopped) passes = tt
full_at_migration e x parts (Err Memory) passes = tt
full_at_migration e x parts (Err (Full dev)) passes = passes dev refl

pub newest_made : {T : Type 0} (d e : View) (x y : Decisions) (parts now : List Partition) (answer : Result T DiskErr)
    → ((r : Reading Definition) (which : WhichLog) (c : Coordinator Definition) (v : ℕ → PartView) → IsStoreOf r d x parts which c v → OnOk answer (GoesOnNewest r e y now c v))
    → ((r : Reading Definition) (which : WhichLog) (c : Coordinator Definition) (v : ℕ → PartView) → IsTrue d.told → IsStoreOf r d x parts which c v → StandsInEither r e c v)
    → numbers_in y ≡ numbers_in x → shape_of y ≡ shape_of x → length now ≡ length parts → KeepsBut (IsOfStore (length parts)) d e (result_err answer) → HasCause d e (result_err answer)
    → ((dev : ℕ) → answer ≡ Err (Full dev) → IsTrue d.told → MigrationPassesLimit e x parts dev) → Migrates d e x y parts now (result_err answer)
newest_made d e x y parts now answer ok images numbers shape size others cause passes = record {
  on = λ done r which c v is under. when_ok answer (ok r which c v is) done;
  images = images;
  numbers = numbers;
  shape = shape;
  size = size;
  others = others;
  cause = cause;
  full = λ told. full_at_migration e x parts answer (λ dev is. passes dev is told);
}
