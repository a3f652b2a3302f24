-- What a partition's log says.
use Rattle.salt_bytes.specs.Formats.{has_nulls}
use Rattle.salt_bytes.specs.Partition.{PartitionHeader, Prepared, partition_header_in, prepared_in}
use Rattle.std.specs.Prelude.{Bool, List, None, Option, Some, [], option_map, ℕ, ◌++◌, ◌==◌, ◌∷◌, option_and_then}
use Rattle.std.specs.Bool.{then_some}

-- with one more payload
abbrev pub gather : Bool → List ℕ → Option (List Prepared) → Option (List Prepared)
gather nulls payload found = option_and_then (λ ps. option_map (λ p. ps ++ p ∷ []) (prepared_in nulls payload)) found

abbrev pub gathered : Bool → Option (List Prepared) → List (List ℕ) → Option (List Prepared)
gathered nulls found [] = found
gathered nulls found (payload ∷ payloads) = gathered nulls (gather nulls payload found) payloads

pub record PartitionLog : Type 0 where
  pub header : PartitionHeader
  pub prepared : List Prepared

abbrev pub with_prepared : PartitionHeader → Option (List Prepared) → Option PartitionLog
with_prepared h found = option_map (λ ps. record { header = h; prepared = ps }) found

abbrev pub own_log : ℕ → PartitionHeader → List (List ℕ) → Option PartitionLog
own_log p h payloads = option_and_then (λ own. with_prepared own (gathered (has_nulls own.format) (Some []) payloads)) (then_some (h.part == p) h)

-- the header's partition number is its own
abbrev pub partition_in : ℕ → List (List ℕ) → Option PartitionLog
partition_in p [] = None
partition_in p (first ∷ payloads) = option_and_then (λ h. own_log p h payloads) (partition_header_in first)

abbrev pub partition_generation : PartitionLog → ℕ
partition_generation log = log.header.generation
