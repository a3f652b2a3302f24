-- The store of a new database.
use Rattle.salt_bytes.specs.Generations.{LogA}
use Rattle.salt_commit.specs.Stores.{IsStore}
use Rattle.salt_commit.specs.declared.store.Store.{Store}
use Rattle.salt_decisions.specs.Decisions.{IsDecisions}
use Rattle.salt_decisions.specs.Opened.{begun}
use Rattle.salt_disk.specs.Disks.{View}
use Rattle.salt_paged.specs.Partitions.{ArePartitions}
use Rattle.salt_stands.proofs.Prepared.{sound_log}
use Rattle.salt_stands.specs.FirstOpening.{first_coordinator, first_view}
use Rattle.salt_stands.specs.Reading.{Reading}
use Rattle.salt_place.specs.declared.placement.Shape.{Shape}
use Rattle.std.proofs.Common.{[], length, refl, ◌≡◌}

-- a new coordinator and new partitions are a store
pub first_store : {D : Type 0} (r : Reading D) (d : View) (x : Store) (asked : Shape) → IsDecisions d x.decisions LogA (begun asked) → length x.parts ≡ asked.parts
    → ArePartitions d x.parts (first_view 2) (λ p. []) → IsStore r d x LogA (first_coordinator asked 3) (first_view 2)
first_store r d x asked decisions size parts = record {
  decisions = decisions;
  size = size;
  parts = parts;
  sound = λ told. record {
    coordinator = record { defined = refl; moves = refl; rise = refl; named = refl; decided = refl };
    part = λ p low. sound_log r (first_coordinator asked 3) p (first_view 2 p).log refl refl refl;
    rows = λ p low. refl;
  };
}
