-- What an opening finds.
use Rattle.salt_bytes.specs.Generations.{BothBlank, Counts, Faulty, Pair, content_of, pair_of}
use Rattle.salt_bytes.specs.Log.{entries_in}
use Rattle.salt_disk.specs.Disks.{IsSettled, IsUnchanged, KeepsAll, SameShape, View}
use Rattle.salt_disk.specs.declared.disks.DiskErr.{DiskErr}
use Rattle.salt_gatelog.proofs.Frame.{log_kept}
use Rattle.salt_gatelog.specs.Log as gates
use Rattle.salt_gatelog.specs.Log.{IsLog}
use Rattle.salt_gatelog.specs.declared.log.GateLog.{GateLog}
use Rattle.salt_gatelog.specs.declared.pair.PairErr.TheVariants.{Disk, NotSalt}
use Rattle.salt_gatelog.specs.declared.pair.PairErr.{PairErr}
use Rattle.salt_partition.proofs.Keyed.{units_keyed}
use Rattle.salt_partition.proofs.Seen.{was_read}
use Rattle.salt_partition.specs.Choices.{pair_seen, side_of, which_of}
use Rattle.salt_partition.specs.Contents.{HasContent, IsContent, IsKept, IsKeptIn, KeepsEntries, content_seen, log_of, units_of}
use Rattle.salt_partition.proofs.Standing.{settled_kept}
use Rattle.salt_partition.proofs.Steps.{unchanged}
use Rattle.salt_partition.specs.Openings.{HasChosen, IsPairWhy, IsWhy, OpensAs, are_some, fault_of, has_pages, pair_fault}
use Rattle.salt_partition.specs.Partitions.{IsLastKept}
use Rattle.salt_partition.specs.declared.contents.LogContent.TheVariants as found
use Rattle.salt_partition.specs.declared.contents.LogContent.{LogContent}
use Rattle.salt_partition.specs.declared.contents.ReadLog.{ReadLog}
use Rattle.salt_partition.specs.declared.generations.Side.TheVariants.{A, B}
use Rattle.salt_partition.specs.declared.generations.Side.{Side}
use Rattle.salt_stands.specs.Coordinator.{device_of}
use Rattle.salt_bytes.specs.Formats.{has_nulls}
use Rattle.salt_model.specs.Tables.{no_rows, with_changes}
use Rattle.salt_partition.specs.declared.partition.Partition.{Partition}
use Rattle.salt_stands.proofs.Pairs.{pair_same}
use Rattle.salt_stands.specs.OpenedPart.{is_known_log}
use Rattle.salt_stands.specs.Partition.{decided_changes, pages_device, part_device, part_pair}
use Rattle.salt_stands.specs.Pieces.{other_log}
use Rattle.salt_values.specs.declared.id.Id.{Id}
use Rattle.salt_stands.specs.PartitionLog.{PartitionLog, partition_generation, partition_in}
use Rattle.salt_stands.specs.Stands.{logs_of}
use Rattle.std.proofs.Common.{Err, IsTrue, List, None, Ok, Result, Some, [], ap, arith, false, length, refl, subst, sym, true, ℕ, ◌+◌, ◌<◌, ◌≡◌, ◌∙◌, ◌∷◌}
use Rattle.std.specs.Prelude.{IfOk}

kept_in : (d : View) (part dev : ℕ) (entries : List (List ℕ)) (c : LogContent) → 0 < length entries → (IsTrue d.told → content_seen c ≡ content_of (partition_in part) (Some entries)) → KeepsEntries d dev entries c → IsKeptIn d part dev c
kept_in d part dev entries found.Blank some seen log = tt
kept_in d part dev entries (found.Read r) some seen log = record { entries = entries; is_log = log.0; device = log.1; some = some; put = log.2; sides = log.3; reads = λ told. was_read part entries (log_of r) some (seen told) }
kept_in d part dev entries found.Outside some seen log = tt

pub content_found : (d0 d1 d : View) (part dev : ℕ) (log : GateLog) (entries : List (List ℕ)) (r : Result LogContent DiskErr) → SameShape d0 d → IsLog d1 log entries → 0 < length entries → gates.device_of log ≡ dev
    → (IsTrue d0.told → entries_in (d0.bytes (gates.device_of log)) ≡ Some entries)
    → IfOk r (λ c. (es : List (List ℕ)) → IsLog d1 log es → 0 < length es → HasContent d part (gates.device_of log) es c) → IfOk r (IsContent d0 d part dev)
content_found d0 d1 d part dev log entries (Err e) shape is some same stands has = tt
content_found d0 d1 d part dev log entries (Ok c) shape is some same stands each =
    let has = each entries is some in
    record {
      seen = λ told. has.seen (shape.told ∙ told) ∙ ap (content_of (partition_in part)) (sym (stands told) ∙ ap (λ k. entries_in (d0.bytes k)) same);
      log = subst (λ (k : ℕ). IsKeptIn d part k c) same (kept_in d part (gates.device_of log) entries c some has.seen has.log);
    }

-- a log that was read is so after calls that write nothing
still_kept : (d e : View) (part dev : ℕ) (r : ReadLog) → SameShape d e → ((k : ℕ) → IsUnchanged d e k) → IsKept d part dev r → IsKept e part dev r
still_kept d e part dev r shape same is = record {
  entries = is.entries;
  is_log = log_kept d e r.log is.entries shape (same (gates.device_of r.log)) is.is_log;
  device = is.device;
  some = is.some;
  put = is.put;
  sides = is.sides;
  reads = λ told. is.reads (sym shape.told ∙ told);
}

chosen_kept : (d1 d2 : View) (part dev : ℕ) (side : Side) (a b : LogContent) (r : ReadLog) → SameShape d1 d2 → ((k : ℕ) → IsUnchanged d1 d2 k) → side_of side a b ≡ found.Read r
    → IsKeptIn d1 part dev a → IsKeptIn d2 part (dev + 1) b → IsKept d2 part (device_of dev (which_of side)) r
chosen_kept d1 d2 part dev A a b r shape same is ka kb = still_kept d1 d2 part dev r shape same (subst (λ (c : LogContent). IsKeptIn d1 part dev c) is ka)
chosen_kept d1 d2 part dev B a b r shape same is ka kb = subst (λ (c : LogContent). IsKeptIn d2 part (dev + 1) c) is kb

-- the pair that was read is that of the bytes
pub pair_is : (d0 d1 d2 : View) (part : ℕ) (a b : LogContent) → SameShape d0 d1 → ((k : ℕ) → IsUnchanged d0 d1 k) → IsContent d0 d1 part (part_device part) a → IsContent d1 d2 part (part_device part + 1) b
    → IsTrue d0.told → part_pair part (logs_of d0.bytes) ≡ pair_seen a b
pair_is d0 d1 d2 part a b shape same ca cb told =
    let dev = part_device part in
    let second : content_seen b ≡ content_of (partition_in part) (entries_in (d0.bytes (dev + 1))) = cb.seen (shape.told ∙ told) ∙ ap (λ bytes. content_of (partition_in part) (entries_in bytes)) (same (dev + 1)).bytes in
    sym (ap (λ x. pair_of partition_generation x (content_seen b)) (ca.seen told) ∙ ap (λ x. pair_of partition_generation (content_of (partition_in part) (entries_in (d0.bytes dev))) x) second)

pub has_chosen : (d0 d1 d2 : View) (part : ℕ) (a b : LogContent) (side : Side) (r : ReadLog) → SameShape d0 d1 → ((k : ℕ) → IsUnchanged d0 d1 k) → SameShape d1 d2 → ((k : ℕ) → IsUnchanged d1 d2 k)
    → IsContent d0 d1 part (part_device part) a → IsContent d1 d2 part (part_device part + 1) b
    → pair_seen a b ≡ Counts (which_of side) (log_of r) → side_of side a b ≡ found.Read r → HasChosen d0 d2 part side r
has_chosen d0 d1 d2 part a b side r shape same shape' same' ca cb pair is = record {
  counts = λ told. pair_is d0 d1 d2 part a b shape same ca cb told ∙ pair;
  kept = chosen_kept d1 d2 part (part_device part) side a b r shape' same' is ca.log cb.log;
}

-- a pair's fault is the partition's
pair_then_part : (boot : ℕ) (decided : List Id) (p : ℕ) (pair : Pair PartitionLog) (dev : ℕ) → pair_fault p pair ≡ Some dev → fault_of boot decided p pair ≡ Some dev
pair_then_part boot decided p BothBlank dev is = is
pair_then_part boot decided p (Faulty which) dev is = is
pair_then_part boot decided p (Counts which log) dev is = cc

pub why_of : (bytes : ℕ → List ℕ) (boot : ℕ) (decided : List Id) (p : ℕ) (e : PairErr) → IsPairWhy bytes p e → IsWhy bytes boot decided p e
why_of bytes boot decided p (NotSalt dev) is = pair_then_part boot decided p (part_pair p (logs_of bytes)) dev is
why_of bytes boot decided p (Disk e) is = is

-- A PARTITION OPENS

settled_other : (d : View) (a : ℕ) (side : Side) → IsSettled d a → IsSettled d (a + 1) → IsSettled d (device_of a (other_log (which_of side)))
settled_other d a A first second = second
settled_other d a B first second = first

none_some : (sides : List ℕ) → are_some sides ≡ false → sides ≡ []
none_some [] e = refl
none_some (side ∷ sides) e = cc

pub opens_as : (d0 d1 : View) (x : Partition) (boot : ℕ) (decided : List Id) (part : ℕ) (side : Side) (r : ReadLog)
    → KeepsAll d0 d1 None → pages_device part < d0.count → IsSettled d0 (part_device part) → IsSettled d0 (part_device part + 1)
    → HasChosen d0 d1 part side r → is_known_log boot decided (log_of r) ≡ true → has_pages (log_of r) ≡ false
    → x.part ≡ part → x.log ≡ r.log → x.nulls ≡ has_nulls r.header.format → x.rows ≡ (with_changes (decided_changes decided (units_of r.units.items)) no_rows).list
    → IsLastKept decided (units_of r.units.items) x.last
    → OpensAs d0 d1 x boot decided part
opens_as d0 d1 x boot decided part side r keeps known first second h is_known pages own log nulls rows last =
    let a = part_device part in
    let same : (dev : ℕ) → IsUnchanged d0 d1 dev = unchanged d0 d1 keeps in
    record {
      view = record { which = which_of side; log = log_of r; rows = [] };
      is = record {
        part = own;
        entries = h.kept.entries;
        is_log = subst (λ (l : GateLog). IsLog d1 l h.kept.entries) (sym log) h.kept.is_log;
        some = h.kept.some;
        device = ap gates.device_of log ∙ h.kept.device;
        known = omega (arith, known, keeps.shape.count);
        other = settled_kept d0 d1 (device_of a (other_log (which_of side))) (same (device_of a (other_log (which_of side)))) (settled_other d0 a side first second);
        nulls = nulls;
        pages = none_some r.header.sides pages;
        none = refl;
        keyed = units_keyed (units_of r.units.items) h.kept.put;
        last = last;
        rows = rows;
        told = λ now. record {
          reads = h.kept.reads now;
          counts = pair_same partition_generation (partition_in part) a (logs_of d0.bytes) (logs_of d1.bytes) (ap entries_in (same a).bytes) (ap entries_in (same (a + 1)).bytes) ∙ h.counts (sym keeps.shape.told ∙ now);
        };
      };
      sound = λ told. ap (fault_of boot decided part) (h.counts told) ∙ rw (is_known, pages) refl;
    }
