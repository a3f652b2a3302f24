-- When a store of partitions on pages is ready.
use Rattle.salt_bytes.specs.Generations.{WhichLog}
use Rattle.salt_checkpoint.specs.Checkpoints.{IsReady}
use Rattle.salt_disk.specs.Disks.{IsSettled, View}
use Rattle.salt_paged.proofs.Framed.{logs_settled, part_stands}
use Rattle.salt_paged.specs.Partitions.{IsPartition}
use Rattle.salt_paged.specs.declared.partition.Partition.{Partition}
use Rattle.salt_room.proofs.Lists.{if_some, some_at}
use Rattle.salt_stands.specs.Commits.{partition_count}
use Rattle.salt_stands.specs.Coordinator.{Coordinator, decided_for}
use Rattle.salt_stands.specs.Partition.{is_sound_change, is_sound_log}
use Rattle.salt_stands.specs.Pieces.{CoordinatorStands, PartView}
use Rattle.salt_stands.specs.Reading.{Reading}
use Rattle.salt_stands.specs.Stands.{logs_of}
use Rattle.std.proofs.Common.{IsTrue, List, arith, length, true, ℕ, ◌<◌, ◌≡◌}
use Rattle.std.specs.List.{list_all}
use Rattle.std.specs.Prelude.{IfSome, slice_get}

-- The disks tell; each partition stands, with the decided units applied; and its log and the rows on its pages fit the coordinator.
module _ {D : Type 0} (r : Reading D) (d : View) (parts : List Partition) (which : WhichLog) (c : Coordinator D) (v : ℕ → PartView) (told : IsTrue d.told) (size : length parts ≡ partition_count c)
    (each : (p : ℕ) → IfSome (slice_get parts p) (λ x. IsPartition d x p (v p) (decided_for p c.log.told.decided)))
    (logs : (p : ℕ) → p < partition_count c → is_sound_log r c p (v p).log ≡ true)
    (rows : (p : ℕ) → p < partition_count c → list_all (is_sound_change r c p) (v p).rows ≡ true) where
  part : (p : ℕ) → p < partition_count c → (x : Partition) × IsPartition d x p (v p) (decided_for p c.log.told.decided)
  part p low =
      let x = some_at parts p (omega (arith, low, size)) in
      (x.0, if_some (slice_get parts p) x.0 (λ y. IsPartition d y p (v p) (decided_for p c.log.told.decided)) x.1 (each p))

  -- then the store is ready, where the coordinator stands with nothing pending on its logs
  pub parts_ready : CoordinatorStands r (logs_of d.bytes) which c → 1 < d.count → IsSettled d 0 → IsSettled d 1 → IsReady r d which c v
  parts_ready stands two first second = record {
    stood = record {
      coordinator = stands;
      part = λ p low. let x = part p low in part_stands r c d x.0 p (v p) (decided_for p c.log.told.decided) x.1 told (logs p low) (rows p low);
    };
    two = two;
    known = λ p low. (part p low).1.known;
    first = first;
    second = second;
    log_a = λ p low. let x = part p low in (logs_settled d x.0 p (v p) (decided_for p c.log.told.decided) x.1).0;
    log_b = λ p low. let x = part p low in (logs_settled d x.0 p (v p) (decided_for p c.log.told.decided) x.1).1;
    pages = λ p low. ((part p low).1.told told).settled;
  }
