-- What a device of the pair holds, by what was read of it.
use Rattle.salt_bytes.specs.Formats.{has_nulls}
use Rattle.salt_bytes.specs.Generations.{Content, IsRead, Outside, content_of, read_or_outside}
use Rattle.salt_bytes.specs.Partition.{PartitionHeader, Prepared, partition_header_in}
use Rattle.salt_stands.specs.PartitionLog.{PartitionLog, gathered, own_log, partition_in, with_prepared}
use Rattle.std.proofs.Common.{List, None, Option, Some, [], ap, arith, drop, false, length, slice_get, sym, true, ℕ, ◌<◌, ◌≡◌, ◌∙◌, ◌∷◌}
use Rattle.std.specs.Prelude.{◌==◌, option_and_then}
use Rattle.std.specs.Bool.{then_some}

module _ (p : ℕ) where
  abbrev pub seen_of : List (List ℕ) → Content PartitionLog
  seen_of entries = content_of (partition_in p) (Some entries)

  pub no_header : (entries : List (List ℕ)) → 0 < length entries → None ≡ option_and_then partition_header_in (slice_get entries 0) → Outside ≡ seen_of entries
  no_header [] some is = absurd (omega (arith, some))
  no_header (first ∷ payloads) some is = ap (λ o. read_or_outside (option_and_then (λ h. own_log p h payloads) o)) is

  pub other_part : (entries : List (List ℕ)) (h : PartitionHeader) → 0 < length entries → Some h ≡ option_and_then partition_header_in (slice_get entries 0) → (h.part == p) ≡ false → Outside ≡ seen_of entries
  other_part [] h some is not_own = absurd (omega (arith, some))
  other_part (first ∷ payloads) h some is not_own =
      sym (ap (λ b. read_or_outside (option_and_then (λ own. with_prepared own (gathered (has_nulls own.format) (Some []) payloads)) (then_some b h))) not_own) ∙ ap (λ o. read_or_outside (option_and_then (λ h. own_log p h payloads) o)) is

  units : (entries : List (List ℕ)) (h : PartitionHeader) (found : Option (List Prepared)) → 0 < length entries → Some h ≡ option_and_then partition_header_in (slice_get entries 0) → (h.part == p) ≡ true
      → found ≡ gathered (has_nulls h.format) (Some []) (drop 1 entries) → read_or_outside (with_prepared h found) ≡ seen_of entries
  units [] h found some is own got = absurd (omega (arith, some))
  units (first ∷ payloads) h found some is own got =
      ap (λ o. read_or_outside (with_prepared h o)) got
      ∙ sym (ap (λ b. read_or_outside (option_and_then (λ own. with_prepared own (gathered (has_nulls own.format) (Some []) payloads)) (then_some b h))) own) ∙ ap (λ o. read_or_outside (option_and_then (λ h. own_log p h payloads) o)) is

  pub no_units : (entries : List (List ℕ)) (h : PartitionHeader) → 0 < length entries → Some h ≡ option_and_then partition_header_in (slice_get entries 0) → (h.part == p) ≡ true
      → None ≡ gathered (has_nulls h.format) (Some []) (drop 1 entries) → Outside ≡ seen_of entries
  no_units entries h some is own got = units entries h None some is own got

  pub whole : (entries : List (List ℕ)) (h : PartitionHeader) (ps : List Prepared) → 0 < length entries → Some h ≡ option_and_then partition_header_in (slice_get entries 0) → (h.part == p) ≡ true
      → Some ps ≡ gathered (has_nulls h.format) (Some []) (drop 1 entries) → IsRead (record { header = h; prepared = ps }) ≡ seen_of entries
  whole entries h ps some is own got = units entries h (Some ps) some is own got

  -- a log that is seen was read so
  pub was_read : (entries : List (List ℕ)) (log : PartitionLog) → 0 < length entries → IsRead log ≡ seen_of entries → partition_in p entries ≡ Some log
  was_read [] log some is = absurd (omega (arith, some))
  was_read (first ∷ payloads) log some is = by (partition_in p (first ∷ payloads)) (sym is)
    where
      by : (o : Option PartitionLog) → read_or_outside o ≡ IsRead log → o ≡ Some log
      by None e = cc
      by (Some x) e = cc
