-- The formats of a partition's log.
use Rattle.salt_bytes.specs.Coordinator.{take_word}
use Rattle.salt_bytes.specs.Formats.{has_nulls}
use Rattle.salt_bytes.specs.Numbers.{take_32, take_64}
use Rattle.salt_bytes.specs.Partition.{PartitionHeader, Prepared, is_side, partition_header_in, take_partition_header}
use Rattle.salt_bytes.specs.Taking.{Take, give, go_on, if_all, only_if, take_byte, take_bytes, then_take}
use Rattle.salt_stands.proofs.Booleans.{right}
use Rattle.salt_stands.specs.PartitionLog.{PartitionLog, gathered, own_log, partition_in, with_prepared}
use Rattle.std.proofs.Common.{Bool, List, None, Option, Some, [], ap, arith, codes, false, refl, subst, true, ℕ, ◌≡◌, ◌≤◌, ◌∷◌}
use Rattle.std.proofs.lemmas.Bool.Decides.{nat_tests}
use Rattle.std.specs.Bool.{then_some}
use Rattle.std.specs.List.{list_all}
use Rattle.std.specs.Prelude.{nat_le, option_and_then, ◌&&◌, ◌==◌}

-- whatever is taken has P
record Gives {A : Type 0} (take : Take A) (P : A → Type 0) : Type 0 where
  pub each : (bytes rest : List ℕ) (x : A) → take bytes ≡ Some (x, rest) → P x

given_one : {A : Type 0} (P : A → Type 0) (x : A) → P x → Gives (give x) P
given_one {A = A} P x h = record { each = λ bytes rest y e. let both : ◌≡◌ {A = A × List ℕ} (x, bytes) (y, rest) = cc e in subst P (ap (λ q. q.0) both) h }

if_only : {A : Type 0} (P : A → Type 0) (b : Bool) (take : Take A) → (b ≡ true → Gives take P) → Gives (only_if b take) P
if_only P true take h = h refl
if_only P false take h = record { each = λ bytes rest x e. absurd (cc e) }

then_gives : {A B : Type 0} (P : B → Type 0) (take : Take A) (next : A → Take B) → ((x : A) → Gives (next x) P) → Gives (then_take take next) P
then_gives {A = A} {B = B} P take next h = record { each = λ bytes rest y e. by (take bytes) rest y e }
  where
    by : (o : Option (A × List ℕ)) (rest : List ℕ) (y : B) → go_on next o ≡ Some (y, rest) → P y
    by None rest y e = absurd (cc e)
    by (Some taken) rest y e = (h taken.0).each taken.1 rest y e

HasKnownFormat : PartitionHeader → Type 0
HasKnownFormat h = h.format ≤ 2

known_format : (format : ℕ) → (nat_le 1 format && nat_le format 2) ≡ true → format ≤ 2
known_format format e = let h = right (nat_le 1 format) (nat_le format 2) e in grind (arith, nat_tests)

header_gives : Gives take_partition_header HasKnownFormat
unfolding HasKnownFormat
header_gives =
    then_gives HasKnownFormat (take_word (codes "SALTP")) _ (λ word.
    then_gives HasKnownFormat take_byte _ (λ format. if_only HasKnownFormat (nat_le 1 format && nat_le format 2) _ (λ is.
    then_gives HasKnownFormat take_64 _ (λ generation. if_only HasKnownFormat (nat_le 1 generation) _ (λ first.
    then_gives HasKnownFormat take_byte _ (λ part.
    then_gives HasKnownFormat (then_take take_32 take_bytes) _ (λ sides. if_only HasKnownFormat (list_all is_side sides) _ (λ are.
    given_one HasKnownFormat _ (known_format format is)))))))))

header_format : (bytes : List ℕ) (h : PartitionHeader) → partition_header_in bytes ≡ Some h → h.format ≤ 2
unfolding HasKnownFormat
header_format bytes h e = by (take_partition_header bytes) refl e
  where
    by : (o : Option (PartitionHeader × List ℕ)) → take_partition_header bytes ≡ o → if_all o ≡ Some h → h.format ≤ 2
    by None is e' = absurd (cc e')
    by (Some (x, [])) is e' = let same : x ≡ h = cc e' in subst HasKnownFormat same (header_gives.each bytes [] x is)
    by (Some (x, b ∷ bs)) is e' = absurd (cc e')

-- a log that is read is of format 1 or 2
log_format : (p : ℕ) (entries : List (List ℕ)) (log : PartitionLog) → partition_in p entries ≡ Some log → log.header.format ≤ 2
log_format p [] log e = absurd (cc e)
log_format p (first ∷ payloads) log e = by (partition_header_in first) refl e
  where
    found : (h : PartitionHeader) (o : Option (List Prepared)) → h.format ≤ 2 → with_prepared h o ≡ Some log → log.header.format ≤ 2
    found h None known e' = absurd (cc e')
    found h (Some ps) known e' = let same : record { header = h; prepared = ps } ≡ log = cc e' in subst (λ (l : PartitionLog). l.header.format ≤ 2) same known

    own : (b : Bool) (h : PartitionHeader) → h.format ≤ 2 → option_and_then (λ own. with_prepared own (gathered (has_nulls own.format) (Some []) payloads)) (then_some b h) ≡ Some log → log.header.format ≤ 2
    own false h known e' = absurd (cc e')
    own true h known e' = found h (gathered (has_nulls h.format) (Some []) payloads) known e'

    by : (o : Option PartitionHeader) → partition_header_in first ≡ o → option_and_then (λ h. own_log p h payloads) o ≡ Some log → log.header.format ≤ 2
    by None is e' = absurd (cc e')
    by (Some h) is e' = own (h.part == p) h (header_format first h is) e'

-- and of format 2 where it spells NULL
pub newest_format : (p : ℕ) (entries : List (List ℕ)) (log : PartitionLog) → partition_in p entries ≡ Some log → has_nulls log.header.format ≡ true → log.header.format ≡ 2
newest_format p entries log is spells = let known = log_format p entries log is in two log.header.format known spells
  where
    two : (format : ℕ) → format ≤ 2 → nat_le 2 format ≡ true → format ≡ 2
    two format most least = grind (arith, nat_tests)
