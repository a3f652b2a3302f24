-- Partitions that are too long for their devices, by the numbers of their places.
use Rattle.salt_bytes.specs.Page.{page_place}
use Rattle.salt_disk.specs.Disks.{View}
use Rattle.salt_disk.specs.declared.disks.DiskErr.TheVariants.{Full}
use Rattle.salt_paged.specs.Checkpoints.{FullAtCheckpoint, header_end, other_device}
use Rattle.salt_paged.specs.Partitions.{IsPartition, page_count}
use Rattle.salt_paged.specs.declared.partition.Partition.{Partition}
use Rattle.salt_partition.specs.Choices.{which_of}
use Rattle.salt_room.proofs.Apart.{near}
use Rattle.salt_room.proofs.Lists.{if_some}
use Rattle.salt_room.specs.Making.{CheckpointPassesLimit}
use Rattle.salt_room.specs.Renewals.{StandAsStore}
use Rattle.salt_room.specs.Rooms.{IsTooLong}
use Rattle.salt_decisions.specs.declared.decisions.Decisions.{Decisions}
use Rattle.salt_stands.specs.Coordinator.{decided_for, device_of}
use Rattle.salt_stands.specs.LogDevices.{IsPartitionLog}
use Rattle.salt_stands.specs.Partition.{HoldsPages, pages_device, part_device}
use Rattle.salt_stands.specs.Pieces.{other_log}
use Rattle.salt_values.specs.declared.change.Change.{Change}
use Rattle.std.proofs.Common.{IsTrue, List, Some, ap, inl, inr, subst, ℕ, ◌+◌, ◌<◌, ◌≡◌, ◌⊎◌, ◌∙◌}
use Rattle.std.specs.Prelude.{slice_get}

-- a partition of a store has the number of its place
pub number_is : (d : View) (x : Decisions) (parts : List Partition) → StandAsStore d x parts → (p : ℕ) (y : Partition) → slice_get parts p ≡ Some y → y.part ≡ p
number_is d x parts s p y at = (if_some (slice_get parts p) y (λ z. IsPartition d z p (s.v p) (decided_for p s.c.log.told.decided)) at (s.is.are.each p)).part

-- so one that is too long for a device is so by that number
module _ (e : View) (parts : List Partition) (numbers : (p : ℕ) (y : Partition) → slice_get parts p ≡ Some y → y.part ≡ p) (dev : ℕ) (long : IsTooLong e parts dev) where
  own : long.part.part ≡ long.p
  own = numbers long.p long.part long.at

  log : (dev ≡ other_device long.part) → IsPartitionLog long.p dev
  log same = at (near (part_device long.part.part) (other_log (which_of long.part.side)))
    where
      at : (device_of (part_device long.part.part) (other_log (which_of long.part.side)) ≡ part_device long.part.part) ⊎ (device_of (part_device long.part.part) (other_log (which_of long.part.side)) ≡ part_device long.part.part + 1)
          → IsPartitionLog long.p dev
      at (inl a) = inl (same ∙ a ∙ ap part_device own)
      at (inr b) = inr (same ∙ b ∙ ap (λ (k : ℕ). part_device k + 1) own)

  pub too_long : CheckpointPassesLimit e parts dev
  too_long = record { p = long.p; part = long.part; at = long.at; passes = by long.full }
    where
      by : FullAtCheckpoint e long.part (Some (Full dev)) → ((dev ≡ pages_device long.p) × (e.limit dev < page_place (page_count long.part) 0))
          ⊎ (IsPartitionLog long.p dev × (e.limit dev < header_end (page_count long.part)) × (IsTrue e.told → HoldsPages (page_count long.part) (e.bytes (pages_device long.p))))
      by (inl h) = inl (h.0 ∙ ap pages_device own, h.1)
      by (inr h) = inr (log h.0, h.1, λ told. subst (λ (k : ℕ). HoldsPages (page_count long.part) (e.bytes (pages_device k))) own (h.2 told))

  -- its share is that of its place
  pub long_share : (shares : List (List Change)) (share : List Change) → slice_get shares long.p ≡ Some share → slice_get shares too_long.p ≡ Some share
  unfolding too_long
  long_share shares share at = at
