-- A store that stands is ready, where the disks tell their bytes.
use Rattle.salt_bytes.specs.Generations.{LogA, LogB, WhichLog}
use Rattle.salt_checkpoint.specs.Checkpoints.{IsReady}
use Rattle.salt_commit.proofs.Standing.{part_at}
use Rattle.salt_commit.specs.Stores.{IsSound, IsStore, decided_by}
use Rattle.salt_commit.specs.declared.store.Store.{Store}
use Rattle.salt_decisions.specs.Decisions.{IsDecisions, conts_in}
use Rattle.salt_decisions.specs.declared.decisions.Decisions.{Decisions}
use Rattle.salt_disk.specs.Disks.{IsSettled, View}
use Rattle.salt_paged.proofs.Framed.{logs_settled, part_stands}
use Rattle.salt_paged.specs.Partitions.{ArePartitions, IsPartition}
use Rattle.salt_paged.specs.declared.partition.Partition.{Partition}
use Rattle.salt_stands.proofs.PlacedParts.{placed_part}
use Rattle.salt_stands.specs.Commits.{each_tables, partition_count}
use Rattle.salt_stands.specs.Coordinator.{Coordinator, device_of}
use Rattle.salt_stands.specs.Pieces.{PartView, other_log}
use Rattle.salt_stands.specs.Placed.{IsPlaced}
use Rattle.salt_stands.specs.Reading.{Reading}
use Rattle.salt_stands.specs.Stands.{logs_of}
use Rattle.salt_values.specs.declared.id.Id.{Id}
use Rattle.std.proofs.Common.{IsTrue, List, arith, length, subst, sym, ℕ, ◌<◌, ◌≡◌}

-- each log of the coordinator's pair is settled
pub coordinator_settled : {D : Type 0} (d : View) (x : Decisions) (which : WhichLog) (c : Coordinator D) → IsDecisions d x which c.log → (w : WhichLog) → IsSettled d (device_of 0 w)
coordinator_settled d x which c is w = pick which w (subst (IsSettled d) is.counting.device is.counting.is_log.settled) is.counting.other
  where
    pick : (y z : WhichLog) → IsSettled d (device_of 0 y) → IsSettled d (device_of 0 (other_log y)) → IsSettled d (device_of 0 z)
    pick LogA LogA one two = one
    pick LogA LogB one two = two
    pick LogB LogA one two = two
    pick LogB LogB one two = one

-- so it is whichever units are applied
pub sound_ready : {D : Type 0} (r : Reading D) (d : View) (x : Decisions) (parts : List Partition) (which : WhichLog) (c : Coordinator D) (v : ℕ → PartView) (applied : ℕ → List Id)
    → IsTrue d.told → IsDecisions d x which c.log → length parts ≡ partition_count c → ArePartitions d parts v applied → IsSound r c v → IsReady r d which c v
sound_ready r d x parts which c v applied told is size are sound = record {
  stood = record {
    coordinator = record { counts = is.counting.counts told; is = sound.coordinator };
    part = λ p low. let q = part p low in part_stands r c d q.0 p (v p) (applied p) q.1 told (sound.part p low) (sound.rows p low);
  };
  two = is.counting.known;
  known = λ p low. (part p low).1.known;
  first = coordinator_settled d x which c is LogA;
  second = coordinator_settled d x which c is LogB;
  log_a = λ p low. let q = part p low in (logs_settled d q.0 p (v p) (applied p) q.1).0;
  log_b = λ p low. let q = part p low in (logs_settled d q.0 p (v p) (applied p) q.1).1;
  pages = λ p low. ((part p low).1.told told).settled;
}
  where
    part : (p : ℕ) → p < partition_count c → (q : Partition) × IsPartition d q p (v p) (applied p)
    part p low = part_at d parts v applied are p (omega (arith, low, size))

module _ {D : Type 0} (r : Reading D) (d : View) (x : Store) (which : WhichLog) (c : Coordinator D) (v : ℕ → PartView) (is : IsStore r d x which c v) (told : IsTrue d.told) where
  pub store_ready : IsReady r d which c v
  store_ready = sound_ready r d x.decisions x.parts which c v (decided_by c) told is.decisions is.size is.parts (is.sound told)

  -- each row stands in the partition of its key
  pub store_placed : (p : ℕ) → p < partition_count c → IsPlaced c.log.header.shape p (each_tables c v p)
  store_placed p low = placed_part r c (logs_of d.bytes) d.bytes p (v p) (store_ready.stood.part p low)

  -- the continuations that the coordinator's log has open are the store's
  pub store_conts : c.conts ≡ conts_in x.decisions
  store_conts = let co = (is.sound told).coordinator in sym (is.decisions.holds.conts co.rise c.conts co.moves)
