-- What layers above a partition rest on.
use Rattle.salt_bytes.specs.Generations.{Counts, LogA, LogB, WhichLog}
use Rattle.salt_bytes.specs.Partition.{Prepared}
use Rattle.salt_disk.specs.Disks.{IsSettled, IsUnchanged, SameShape, View}
use Rattle.salt_gatelog.proofs.Frame.{log_kept}
use Rattle.salt_paged.proofs.Logged.{count_of_units}
use Rattle.salt_paged.proofs.Paged.{store_kept}
use Rattle.salt_paged.proofs.Standing.{settled_kept, told_kept}
use Rattle.salt_partition.specs.Partitions.{IsPreparedLast, MayPrepare, prepared}
use Rattle.salt_paged.specs.Partitions.{IsPartition, StandsUpTo, unit_count}
use Rattle.salt_paged.specs.declared.partition.Partition.{Partition}
use Rattle.salt_paged.specs.declared.redo.ReadPartition.{ReadPartition}
use Rattle.salt_paged.specs.Openings.{IsReadAs, fault_of, has_pages}
use Rattle.salt_stands.specs.Coordinator.{Coordinator, device_of}
use Rattle.salt_stands.specs.OpenedPart.{is_known_log}
use Rattle.salt_stands.specs.Partition.{are_distinct, are_sound_rows, is_sound_change, is_sound_log, pages_device, part_device}
use Rattle.salt_stands.specs.PartitionLog.{PartitionLog}
use Rattle.salt_stands.specs.Pieces.{PartStands, PartView, other_log, with_prepared_unit}
use Rattle.salt_stands.specs.Reading.{Reading}
use Rattle.salt_stands.specs.Tables.{change_of_row}
use Rattle.std.specs.Bool.{then_some}
use Rattle.std.specs.Prelude.{option_and_then}
use Rattle.salt_stands.specs.Stands.{logs_of}
use Rattle.salt_values.specs.declared.change.Change.{Change}
use Rattle.salt_values.specs.declared.id.Id.{Id}
use Rattle.std.specs.List.{list_all}
use Rattle.std.specs.Prelude.{if◌then◌else◌, map, ◌&&◌}
use Rattle.std.proofs.Common.{Bool, IsTrue, List, None, Some, [], ap, arith, false, length, refl, subst, sym, true, ℕ, ◌+◌, ◌≡◌, ◌∙◌}

-- what holds of both logs holds of each
at_log : (P : ℕ → Type 0) (a : ℕ) (which : WhichLog) → P a → P (a + 1) → P (device_of a which)
at_log P a LogA first second = first
at_log P a LogB first second = second

-- what holds of one and of the other holds of both
both_logs : (P : ℕ → Type 0) (a : ℕ) (which : WhichLog) → P (device_of a which) → P (device_of a (other_log which)) → P a × P (a + 1)
both_logs P a LogA this other = (this, other)
both_logs P a LogB this other = (other, this)

-- it stands as it did where its devices are as they were
pub stands_kept : (d e : View) (x : Partition) (p : ℕ) (v : PartView) (applied : List Id) (done : List Prepared) → SameShape d e → IsUnchanged d e (part_device p) → IsUnchanged d e (part_device p + 1) → IsUnchanged d e (pages_device p)
    → StandsUpTo d x p v applied done → StandsUpTo e x p v applied done
stands_kept d e x p v applied done shape first second pages is =
    let a = part_device p in
    let kept = λ (which : WhichLog). at_log (IsUnchanged d e) a which first second in
    record {
      part = is.part;
      header = is.header;
      which = is.which;
      entries = is.entries;
      is_log = log_kept d e x.log is.entries shape (subst (λ (k : ℕ). IsUnchanged d e k) (sym is.device) (kept v.which)) is.is_log;
      some = is.some;
      device = is.device;
      known = omega (arith, is.known, shape.count);
      other = settled_kept d e (device_of a (other_log v.which)) (kept (other_log v.which)) is.other;
      put = is.put;
      last = is.last;
      rows = store_kept d e x.rows (pages_device p) v.log.header.sides _ shape pages.bytes is.rows;
      keyed = is.keyed;
      told = λ now. told_kept d e p v is.entries first.bytes second.bytes pages (is.told (sym shape.told ∙ now));
    }

-- with all of its units done
pub partition_kept : (d e : View) (x : Partition) (p : ℕ) (v : PartView) (applied : List Id) → SameShape d e → IsUnchanged d e (part_device p) → IsUnchanged d e (part_device p + 1) → IsUnchanged d e (pages_device p)
    → IsPartition d x p v applied → IsPartition e x p v applied
partition_kept d e x p v applied = stands_kept d e x p v applied v.log.prepared

-- with none of them
pub read_kept : (d e : View) (x : ReadPartition) (p : ℕ) (v : PartView) → SameShape d e → IsUnchanged d e (part_device p) → IsUnchanged d e (part_device p + 1) → IsUnchanged d e (pages_device p) → IsReadAs d x p v → IsReadAs e x p v
read_kept d e x p v shape first second pages is = record {
  is = λ applied. stands_kept d e x.partition p v applied [] shape first second pages (is.is applied);
  units = is.units;
  sides = is.sides;
}

-- nothing is pending on its logs
pub logs_settled : (d : View) (x : Partition) (p : ℕ) (v : PartView) (applied : List Id) → IsPartition d x p v applied → IsSettled d (part_device p) × IsSettled d (part_device p + 1)
logs_settled d x p v applied is = both_logs (IsSettled d) (part_device p) v.which (subst (λ (k : ℕ). IsSettled d k) is.device is.is_log.settled) is.other

-- its units are those that its log says
pub units_counted : (d : View) (x : Partition) (p : ℕ) (v : PartView) (applied : List Id) → IsPartition d x p v applied → IsTrue d.told → unit_count x ≡ length v.log.prepared
units_counted d x p v applied is told = let units = count_of_units d x p v applied is told in omega (arith, units, is.is_log.count)

-- a unit that was prepared may be applied
pub may_apply : (v : PartView) (applied : List Id) (u : Id) (cs : List Change) → MayPrepare v applied u cs → IsPreparedLast (with_prepared_unit v (prepared u cs)) applied u
may_apply v applied u cs may = record { before = v.log.prepared; changes = cs; last = refl; fresh = may.fresh; new = may.new }

-- devices without a fault: the log that counts is known, and its pages are there
pub sound_log : (boot : ℕ) (decided : List Id) (p : ℕ) (bytes : List ℕ) (which : WhichLog) (log : PartitionLog) → fault_of boot decided p bytes (Counts which log) ≡ None → (is_known_log boot decided log ≡ true) × (has_pages log bytes ≡ true)
sound_log boot decided p bytes which log sound = by (is_known_log boot decided log) (has_pages log bytes) sound
  where
    by : (known pages : Bool) → (if known then (if pages then None else Some (pages_device p)) else Some (device_of (part_device p) which)) ≡ None → (known ≡ true) × (pages ≡ true)
    by true true e = (refl, refl)
    by true false e = absurd cc
    by false pages e = absurd cc

and_both : (a b : Bool) → a ≡ true → b ≡ true → (a && b) ≡ true
and_both true b one two = two
and_both false b one two = one

-- where its log and its rows fit the coordinator, the partition stands on the devices
pub part_stands : {D : Type 0} (r : Reading D) (c : Coordinator D) (d : View) (x : Partition) (p : ℕ) (v : PartView) (applied : List Id) → IsPartition d x p v applied → IsTrue d.told
    → is_sound_log r c p v.log ≡ true → list_all (is_sound_change r c p) v.rows ≡ true → PartStands r c (logs_of d.bytes) d.bytes p v
part_stands r c d x p v applied is told sound each =
    let t = is.told told in
    let all : are_sound_rows r c p (map change_of_row t.pages) ≡ true = subst (λ cs. are_sound_rows r c p cs ≡ true) t.rows (and_both (list_all (is_sound_change r c p) v.rows) (are_distinct v.rows) each t.apart) in
    record {
      counts = t.counts;
      sound = sound;
      rows = ap (λ o. option_and_then (λ rows. then_some (are_sound_rows r c p (map change_of_row rows)) (map change_of_row rows)) o) t.named
          ∙ ap (λ b. then_some b (map change_of_row t.pages)) all ∙ ap Some (sym t.rows);
    }
