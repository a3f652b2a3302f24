-- Which devices are logs.
use Rattle.salt_stands.specs.Partition.{part_device}
use Rattle.std.specs.Prelude.{ℕ, ◌+◌, ◌<◌, ◌≡◌, ◌⊎◌}

-- the device is one of the coordinator's two
abbrev pub IsCoordinatorLog : ℕ → Type 0
IsCoordinatorLog dev = (dev ≡ 0) ⊎ (dev ≡ 1)

-- the device is one of the two of a partition, whose third has its pages
abbrev pub IsPartitionLog : ℕ → ℕ → Type 0
IsPartitionLog p dev = (dev ≡ part_device p) ⊎ (dev ≡ part_device p + 1)

-- the device is a log of one of the first n partitions
pub record IsPartLog (n dev : ℕ) : Type 0 where
  pub p : ℕ
  pub low : p < n
  pub is : IsPartitionLog p dev

-- or one of the coordinator's
abbrev pub IsStoreLog : ℕ → ℕ → Type 0
IsStoreLog n dev = IsCoordinatorLog dev ⊎ IsPartLog n dev
