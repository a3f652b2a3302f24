-- A store goes on in the newest formats, as salt_room has it.
use Rattle.salt_commit.proofs.Roomed.{from_store, new_logs_fill, store_device, store_of}
use Rattle.salt_commit.specs.Migrations.{HasMigrated}
use Rattle.salt_commit.specs.Stores.{IsStoreDevice, reading, shape_of_store}
use Rattle.salt_commit.specs.declared.store.Store.{Store}
use Rattle.salt_disk.proofs.CallAfterCall.{keeps_wider}
use Rattle.salt_disk.specs.Disks.{FullWhere, View}
use Rattle.salt_disk.specs.declared.disks.DiskErr.TheVariants.{Failed, Full, Memory, Stopped}
use Rattle.salt_disk.specs.declared.disks.DiskErr.{DiskErr}
use Rattle.salt_promise.specs.Filling.{MigrationFills}
use Rattle.salt_room.specs.Migrations.{FullAtMigration, MigrationPassesLimit, Migrates}
use Rattle.salt_room.specs.Renewals.{IsOfStore}
use Rattle.std.proofs.Common.{IsTrue, None, Option, Some, length, ℕ, ◌≡◌, ◌∙◌}

migration_fills : (e : View) (x : Store) (dev : ℕ) → length x.parts ≡ (shape_of_store x).parts → IsTrue e.told → MigrationPassesLimit e x.decisions x.parts dev → MigrationFills e (shape_of_store x) dev
migration_fills e x dev size told full =
    let r = full.renewal in
    record { which = r.which; log = r.log; counts = r.counting.counts; older = full.older; fills = new_logs_fill e x dev size told r.which r.log r.passes }

full_where : (e : View) (x : Store) (answer : Option DiskErr) → length x.parts ≡ (shape_of_store x).parts → IsTrue e.told → FullAtMigration e x.decisions x.parts answer → FullWhere (MigrationFills e (shape_of_store x)) answer
full_where e x None size told full = tt
full_where e x (Some Failed) size told full = tt
full_where e x (Some Stopped) size told full = tt
full_where e x (Some (Full dev)) size told full = migration_fills e x dev size told full
full_where e x (Some Memory) size told full = tt

pub has_migrated : (d e : View) (x y : Store) (answer : Option DiskErr) → length x.parts ≡ (shape_of_store x).parts → Migrates d e x.decisions y.decisions x.parts y.parts answer → y.messages ≡ x.messages → HasMigrated d e x y answer
has_migrated d e x y answer many made messages = record {
  on = λ done which c v is under.
      let z = made.on done reading which c v (store_of d x which c v is) under in
      record { which = z.which; coordinator = z.coordinator; views = z.views; as_if = z.as_if; nulls = z.nulls; is = from_store e y z.which z.coordinator z.views z.is };
  images = λ which c v is told. made.images reading which c v told (store_of d x which c v is);
  numbers = made.numbers;
  shape = made.shape;
  messages = messages;
  others = keeps_wider (IsOfStore (length x.parts)) (IsStoreDevice (shape_of_store x).parts) d e answer (λ dev h. store_device (length x.parts) (shape_of_store x).parts dev many h) made.others;
  cause = made.cause;
  full = λ told. full_where e x answer many (made.others.shape.told ∙ told) (made.full told);
}
