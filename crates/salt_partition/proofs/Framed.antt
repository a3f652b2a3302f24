-- What layers above a partition rest on.
use Rattle.salt_bytes.specs.Generations.{Counts, LogA, LogB, WhichLog}
use Rattle.salt_bytes.specs.Log.{entries_in}
use Rattle.salt_disk.specs.Disks.{IsSettled, IsUnchanged, SameShape, View}
use Rattle.salt_gatelog.proofs.Frame.{log_kept}
use Rattle.salt_partition.proofs.Logged.{count_of_units}
use Rattle.salt_partition.proofs.Standing.{settled_kept}
use Rattle.salt_partition.specs.Partitions.{IsPartition, IsPreparedLast, MayPrepare, prepared, unit_count}
use Rattle.salt_partition.specs.declared.partition.Partition.{Partition}
use Rattle.salt_stands.proofs.Pairs.{pair_same}
use Rattle.salt_bytes.specs.Formats.{has_nulls}
use Rattle.salt_partition.specs.Openings.{fault_of, has_pages}
use Rattle.salt_stands.specs.Coordinator.{Coordinator, device_of}
use Rattle.salt_stands.specs.OpenedPart.{is_known_log}
use Rattle.salt_stands.specs.Partition.{are_sound_rows, is_sound_log, pages_device, part_device, rows_from}
use Rattle.salt_stands.specs.PartitionLog.{PartitionLog, partition_generation, partition_in}
use Rattle.salt_stands.specs.Pieces.{PartStands, PartView, other_log, with_prepared_unit}
use Rattle.salt_stands.specs.Reading.{Reading}
use Rattle.salt_stands.specs.Tables.{change_of_row}
use Rattle.salt_stands.specs.Stands.{logs_of}
use Rattle.salt_values.specs.declared.change.Change.{Change}
use Rattle.salt_values.specs.declared.id.Id.{Id}
use Rattle.std.specs.Prelude.{if◌then◌else◌, map, option_and_then}
use Rattle.std.proofs.Common.{Bool, IsTrue, List, None, Some, ap, arith, false, length, refl, subst, sym, true, ℕ, ◌+◌, ◌≡◌, ◌∙◌}
use Rattle.std.specs.Bool.{then_some}

-- what holds of both logs holds of each
at_log : (P : ℕ → Type 0) (a : ℕ) (which : WhichLog) → P a → P (a + 1) → P (device_of a which)
at_log P a LogA first second = first
at_log P a LogB first second = second

-- what holds of one and of the other holds of both
both_logs : (P : ℕ → Type 0) (a : ℕ) (which : WhichLog) → P (device_of a which) → P (device_of a (other_log which)) → P a × P (a + 1)
both_logs P a LogA this other = (this, other)
both_logs P a LogB this other = (other, this)

-- a partition is as it was where its logs are
pub partition_kept : (d e : View) (x : Partition) (p : ℕ) (v : PartView) (applied : List Id) → SameShape d e → IsUnchanged d e (part_device p) → IsUnchanged d e (part_device p + 1)
    → IsPartition d x p v applied → IsPartition e x p v applied
partition_kept d e x p v applied shape first second is =
    let a = part_device p in
    let kept = λ (which : WhichLog). at_log (IsUnchanged d e) a which first second in
    record {
      part = is.part;
      entries = is.entries;
      is_log = log_kept d e x.log is.entries shape (subst (λ (k : ℕ). IsUnchanged d e k) (sym is.device) (kept v.which)) is.is_log;
      some = is.some;
      device = is.device;
      known = omega (arith, is.known, shape.count);
      other = settled_kept d e (device_of a (other_log v.which)) (kept (other_log v.which)) is.other;
      nulls = is.nulls;
      pages = is.pages;
      none = is.none;
      keyed = is.keyed;
      last = is.last;
      rows = is.rows;
      told = λ now.
          let t = is.told (sym shape.told ∙ now) in
          record {
            reads = t.reads;
            counts = pair_same partition_generation (partition_in p) a (logs_of d.bytes) (logs_of e.bytes) (ap entries_in first.bytes) (ap entries_in second.bytes) ∙ t.counts;
          };
    }

-- nothing is pending on its logs
pub logs_settled : (d : View) (x : Partition) (p : ℕ) (v : PartView) (applied : List Id) → IsPartition d x p v applied → IsSettled d (part_device p) × IsSettled d (part_device p + 1)
logs_settled d x p v applied is = both_logs (IsSettled d) (part_device p) v.which (subst (λ (k : ℕ). IsSettled d k) is.device is.is_log.settled) is.other

-- its units are those that its log says
pub units_counted : (d : View) (x : Partition) (p : ℕ) (v : PartView) (applied : List Id) → IsPartition d x p v applied → IsTrue d.told → unit_count x ≡ length v.log.prepared
units_counted d x p v applied is told = let units = count_of_units d x p v applied is told in omega (arith, units, is.is_log.count)

-- a unit that was prepared may be applied
pub may_apply : (v : PartView) (applied : List Id) (u : Id) (cs : List Change) → MayPrepare v applied u cs → IsPreparedLast (with_prepared_unit v (prepared u cs)) applied u
may_apply v applied u cs may = record { before = v.log.prepared; changes = cs; last = refl; fresh = may.fresh; new = may.new }

-- devices without a fault: the log that counts is known, and names no page
pub sound_log : (boot : ℕ) (decided : List Id) (p : ℕ) (which : WhichLog) (log : PartitionLog) → fault_of boot decided p (Counts which log) ≡ None → (is_known_log boot decided log ≡ true) × (has_pages log ≡ false)
sound_log boot decided p which log sound = by (is_known_log boot decided log) (has_pages log) sound
  where
    by : (known pages : Bool) → (if known then (if pages then Some (pages_device p) else None) else Some (device_of (part_device p) which)) ≡ None → (known ≡ true) × (pages ≡ false)
    by true true e = absurd cc
    by true false e = (refl, refl)
    by false pages e = absurd cc

-- where its log fits the coordinator, the partition stands on the devices
pub part_stands : {D : Type 0} (r : Reading D) (c : Coordinator D) (d : View) (x : Partition) (p : ℕ) (v : PartView) (applied : List Id) → IsPartition d x p v applied → IsTrue d.told
    → is_sound_log r c p v.log ≡ true → PartStands r c (logs_of d.bytes) d.bytes p v
part_stands r c d x p v applied is told sound =
    let t = is.told told in
    record {
      counts = t.counts;
      sound = sound;
      rows = ap (λ sides. option_and_then (λ rows. then_some (are_sound_rows r c p (map change_of_row rows)) (map change_of_row rows)) (rows_from (has_nulls v.log.header.format) (d.bytes (pages_device p)) 0 sides)) is.pages
          ∙ ap Some (sym is.none);
    }
