-- Which log of a pair was chosen.
use Rattle.salt_bytes.specs.Generations.{BothBlank, Counts, Faulty, LogA, LogB, Pair, WhichLog, pair_of}
use Rattle.salt_partition.specs.Contents.{content_seen, log_of}
use Rattle.salt_partition.specs.declared.contents.LogContent.TheVariants as found
use Rattle.salt_partition.specs.declared.contents.LogContent.{LogContent}
use Rattle.salt_partition.specs.declared.contents.ReadLog.{ReadLog}
use Rattle.salt_partition.specs.declared.generations.Side.TheVariants.{A, B}
use Rattle.salt_partition.specs.declared.generations.Side.{Side}
use Rattle.salt_stands.specs.PartitionLog.{PartitionLog, partition_generation}
use Rattle.std.specs.Prelude.{Err, Ok, Result, ◌≡◌, ◌⊎◌}

abbrev pub which_of : Side → WhichLog
which_of A = LogA
which_of B = LogB

abbrev pub pair_seen : LogContent → LogContent → Pair PartitionLog
pair_seen a b = pair_of partition_generation (content_seen a) (content_seen b)

-- of two, the one of this side
abbrev pub side_of : {X : Type 0} → Side → X → X → X
side_of A a b = a
side_of B a b = b

-- the log that counts is one of the two; a fault counts against one, and where both are blank against B
abbrev pub IsChosen : LogContent → LogContent → Result (Side × ReadLog) Side → Type 0
IsChosen a b (Ok chosen) = (pair_seen a b ≡ Counts (which_of chosen.0) (log_of chosen.1)) × (side_of chosen.0 a b ≡ found.Read chosen.1)
IsChosen a b (Err side) = (pair_seen a b ≡ Faulty (which_of side)) ⊎ ((pair_seen a b ≡ BothBlank) × (which_of side ≡ LogB))
