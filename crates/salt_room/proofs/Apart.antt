-- The devices of two partitions are apart.
use Rattle.salt_bytes.specs.Generations.{LogA, LogB, WhichLog}
use Rattle.salt_disk.specs.Disks.{KeepsBut, View}
use Rattle.salt_paged.proofs.Framed.{partition_kept}
use Rattle.salt_paged.specs.Checkpoints.{IsTouched}
use Rattle.salt_paged.specs.Partitions.{IsPartition}
use Rattle.salt_paged.specs.declared.partition.Partition.{Partition}
use Rattle.salt_partition.specs.Choices.{which_of}
use Rattle.salt_room.specs.Rooms.{IsOfPart}
use Rattle.salt_stands.specs.Coordinator.{device_of}
use Rattle.salt_stands.specs.LogDevices.{IsPartitionLog}
use Rattle.salt_stands.specs.Partition.{pages_device, part_device}
use Rattle.salt_stands.specs.Pieces.{PartView, other_log}
use Rattle.salt_values.specs.declared.id.Id.{Id}
use Rattle.std.proofs.Common.{List, None, ap, arith, inl, inr, refl, ℕ, ◌+◌, ◌<◌, ◌≡◌, ◌≢◌, ◌⊎◌, ◌∙◌}

pub near : (a : ℕ) (which : WhichLog) → (device_of a which ≡ a) ⊎ (device_of a which ≡ a + 1)
near a LogA = inl refl
near a LogB = inr refl

-- a checkpoint of one touches no device of another
module _ (x : Partition) (q : ℕ) (other : q ≢ x.part) where
  abbrev log : ℕ
  log = device_of (part_device x.part) (other_log (which_of x.side))

  spot : (log ≡ part_device x.part) ⊎ (log ≡ part_device x.part + 1)
  spot = near (part_device x.part) (other_log (which_of x.side))

  far_first : IsTouched x (part_device q) → ⊥
  far_first (inl same) = omega (arith, same)
  far_first (inr same) = by spot
    where
      by : (log ≡ part_device x.part) ⊎ (log ≡ part_device x.part + 1) → ⊥
      by (inl a) = other (omega (arith, same, a))
      by (inr b) = omega (arith, same, b)

  far_second : IsTouched x (part_device q + 1) → ⊥
  far_second (inl same) = omega (arith, same)
  far_second (inr same) = by spot
    where
      by : (log ≡ part_device x.part) ⊎ (log ≡ part_device x.part + 1) → ⊥
      by (inl a) = omega (arith, same, a)
      by (inr b) = other (omega (arith, same, b))

  far_pages : IsTouched x (pages_device q) → ⊥
  far_pages (inl same) = other (omega (arith, same))
  far_pages (inr same) = by spot
    where
      by : (log ≡ part_device x.part) ⊎ (log ≡ part_device x.part + 1) → ⊥
      by (inl a) = omega (arith, same, a)
      by (inr b) = omega (arith, same, b)

  pub other_kept : (d e : View) (y : Partition) (v : PartView) (applied : List Id) → KeepsBut (IsTouched x) d e None → IsPartition d y q v applied → IsPartition e y q v applied
  other_kept d e y v applied others is = partition_kept d e y q v applied others.shape (others.kept (part_device q) far_first) (others.kept (part_device q + 1) far_second) (others.kept (pages_device q) far_pages) is

-- each that it touches is its own
pub of_part : (x : Partition) (n p : ℕ) → x.part ≡ p → p < n → (dev : ℕ) → IsTouched x dev → IsOfPart n dev
of_part x n p is low dev (inl same) = record { p = p; low = low; is = inr (same ∙ ap pages_device is) }
of_part x n p is low dev (inr same) = by (near (part_device x.part) (other_log (which_of x.side)))
  where
    by : (device_of (part_device x.part) (other_log (which_of x.side)) ≡ part_device x.part) ⊎ (device_of (part_device x.part) (other_log (which_of x.side)) ≡ part_device x.part + 1) → IsOfPart n dev
    by (inl a) = record { p = p; low = low; is = inl (inl (same ∙ a ∙ ap part_device is)) }
    by (inr b) = record { p = p; low = low; is = inl (inr (same ∙ b ∙ ap (λ (k : ℕ). part_device k + 1) is)) }

-- and none of the coordinator's
pub no_part : (n dev : ℕ) → dev < 2 → IsOfPart n dev → ⊥
no_part n dev low h = by h.is
  where
    by : IsPartitionLog h.p dev ⊎ (dev ≡ pages_device h.p) → ⊥
    by (inl (inl same)) = omega (arith, low, same)
    by (inl (inr same)) = omega (arith, low, same)
    by (inr same) = omega (arith, low, same)
