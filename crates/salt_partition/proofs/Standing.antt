-- A partition that stands, after calls.
use Rattle.salt_bytes.specs.Changes.{are_in_order}
use Rattle.salt_bytes.specs.Formats.{has_nulls}
use Rattle.salt_bytes.specs.Log.{entries_in}
use Rattle.salt_bytes.specs.Partition.{Prepared, prepared_in, spell_prepared}
use Rattle.salt_bytes.specs.Spellable.{Every}
use Rattle.salt_disk.specs.Disks.{IsSettled, IsUnchanged, KeepsOthers, SameShape, View}
use Rattle.salt_codec.specs.Entries.{CanBePut, prepared_of}
use Rattle.salt_codec.specs.declared.prepared.PreparedUnit.{PreparedUnit}
use Rattle.salt_eval.proofs.InOrder.{tables_of-list}
use Rattle.salt_eval.specs.Views.{tables_of}
use Rattle.salt_gatelog.proofs.Bytes.{entries_in-closed}
use Rattle.salt_gatelog.specs.Log as gates
use Rattle.salt_gatelog.specs.Log.{IsLog}
use Rattle.salt_gatelog.specs.declared.log.GateLog.{GateLog}
use Rattle.salt_model.specs.Tables.{Entry, Tables, no_rows, place_cmp, with_changes}
use Rattle.salt_values.specs.Id.{has_id}
use Rattle.salt_partition.proofs.Keyed.{all_put_keyed, every_push}
use Rattle.salt_partition.proofs.Lasts.{applied_last, last_put}
use Rattle.salt_partition.specs.Contents.{AreKeyed}
use Rattle.salt_partition.specs.Partitions.{IsLastKept, IsPartition, IsPreparedLast, MayPrepare, log_device, prepared}
use Rattle.salt_partition.specs.declared.partition.Partition.{Partition}
use Rattle.salt_stands.proofs.Decided.{changes_other, changes_push, has_last, with_changes_append}
use Rattle.salt_stands.proofs.Pairs.{pair_push, pair_same}
use Rattle.salt_stands.proofs.PartitionLogs.{partition_push}
use Rattle.salt_stands.specs.Coordinator.{device_of}
use Rattle.salt_stands.specs.Partition.{changes_if, decided_changes, part_device, part_tables}
use Rattle.salt_stands.specs.PartitionLog.{partition_generation, partition_in}
use Rattle.salt_stands.specs.Pieces.{PartView, other_log, with_prepared_unit}
use Rattle.salt_stands.specs.Stands.{logs_of}
use Rattle.salt_bytes.specs.Generations.{LogA, LogB, WhichLog}
use Rattle.salt_values.specs.declared.change.Change.{Change}
use Rattle.salt_values.specs.declared.id.Id.{Id}
use Rattle.std.proofs.Common.{Bool, IsTrue, List, None, Some, [], ap, append_assoc, arith, false, length-append, refl, subst, sym, true, ℕ, ◌+◌, ◌++◌, ◌≡◌, ◌∙◌, ◌∷◌}
use Rattle.std.proofs.lemmas.List.{append-nil}
use Rattle.std.specs.FinMap.Entries.{is_sorted}
use lib.Dec.{T}

-- DEVICES

pub logs_apart : (a : ℕ) (which : WhichLog) → device_of a (other_log which) ≡ device_of a which → ⊥
logs_apart a LogA same = omega (arith, same)
logs_apart a LogB same = omega (arith, same)

pub settled_kept : (d e : View) (dev : ℕ) → IsUnchanged d e dev → IsSettled d dev → IsSettled e dev
settled_kept d e dev kept is = λ c left. is c (kept.images c left) ∙ sym kept.bytes

-- where a disk tells its bytes, a log's entries stand on its device
pub entries_stand : (d : View) (log : GateLog) (entries : List (List ℕ)) → IsLog d log entries → IsTrue d.told → entries_in (d.bytes (gates.device_of log)) ≡ Some entries
entries_stand d log entries is told = entries_in-closed entries (d.bytes (gates.device_of log)) (omega (arith, is.end, is.room)) (is.file told)

-- ROWS

-- a map shows the tables whose entries it has
pub rows_shown : (es : List Entry) (t : Tables) → es ≡ t.list → (tables_of es).list ≡ t.list
rows_shown es t same = tables_of-list es (subst (λ (l : List Entry). T (is_sorted place_cmp l)) (sym same) t.sorted) ∙ same

-- a unit that no decision names leaves the rows as they are
pub undecided_rows : (us : List Id) (v : PartView) (x : Prepared) → has_id x.unit us ≡ false → part_tables us (with_prepared_unit v x).log v.rows ≡ part_tables us v.log v.rows
undecided_rows us v x new =
    ap (λ cs. with_changes (v.rows ++ cs) no_rows) (changes_push us v.log.prepared x ∙ ap (λ b. decided_changes us v.log.prepared ++ changes_if b x.changes) new ∙ append-nil (decided_changes us v.log.prepared))

-- with the last one decided, its changes are made
pub decided_rows : (us : List Id) (v : PartView) (u : Id) (last : IsPreparedLast v us u) → part_tables (us ++ u ∷ []) v.log v.rows ≡ with_changes last.changes (part_tables us v.log v.rows)
decided_rows us v u last =
    let x = prepared u last.changes in
    let few = decided_changes us last.before in
    let without : decided_changes us v.log.prepared ≡ few =
    ap (decided_changes us) last.last ∙ changes_push us last.before x ∙ ap (λ b. few ++ changes_if b x.changes) last.new ∙ append-nil few in
    let with : decided_changes (us ++ u ∷ []) v.log.prepared ≡ few ++ x.changes =
    ap (decided_changes (us ++ u ∷ [])) last.last ∙ changes_push (us ++ u ∷ []) last.before x
    ∙ ap (λ b. decided_changes (us ++ u ∷ []) last.before ++ changes_if b x.changes) (has_last us u) ∙ ap (λ cs. cs ++ x.changes) (changes_other us u last.before last.fresh) in
    ap (λ cs. with_changes (v.rows ++ cs) no_rows) with
    ∙ ap (λ cs. with_changes cs no_rows) (sym (append_assoc v.rows few x.changes))
    ∙ with_changes_append (v.rows ++ few) x.changes no_rows
    ∙ ap (λ cs. with_changes x.changes (with_changes (v.rows ++ cs) no_rows)) (sym without)

module _ (d e : View) (x y : Partition) (p : ℕ) (v : PartView) (applied : List Id) (is : IsPartition d x p v applied) where
  -- AFTER CALLS THAT WRITE NOTHING
  pub moved : SameShape d e → ((dev : ℕ) → IsUnchanged d e dev) → y.part ≡ x.part → y.nulls ≡ x.nulls → y.rows ≡ x.rows → y.last ≡ x.last → log_device y ≡ log_device x → IsLog e y.log is.entries → IsPartition e y p v applied
  moved shape kept part nulls rows last device is_log = record {
    part = part ∙ is.part;
    entries = is.entries;
    is_log = is_log;
    some = is.some;
    device = device ∙ is.device;
    known = omega (arith, is.known, shape.count);
    other = settled_kept d e (device_of (part_device p) (other_log v.which)) (kept (device_of (part_device p) (other_log v.which))) is.other;
    nulls = nulls ∙ is.nulls;
    pages = is.pages;
    none = is.none;
    keyed = is.keyed;
    last = subst (IsLastKept applied v.log.prepared) (sym last) is.last;
    rows = rows ∙ is.rows;
    told = λ now.
        let t = is.told (sym shape.told ∙ now) in
        let a = part_device p in
        record {
          reads = t.reads;
          counts = pair_same partition_generation (partition_in p) a (logs_of d.bytes) (logs_of e.bytes) (ap entries_in (kept a).bytes) (ap entries_in (kept (a + 1)).bytes) ∙ t.counts;
        };
  }

  -- AFTER A UNIT IS PREPARED
  pub with_unit : (u : Id) (cs : List Change) → MayPrepare v applied u cs
      → ((nulls : Bool) → Every (CanBePut nulls) cs → are_in_order cs ≡ true → prepared_in nulls (spell_prepared (prepared u cs)) ≡ Some (prepared u cs))
      → KeepsOthers (log_device x) d e None → y.part ≡ x.part → y.nulls ≡ x.nulls → y.rows ≡ x.rows → (kept : PreparedUnit) → y.last ≡ Some kept → prepared_of kept ≡ prepared u cs → log_device y ≡ log_device x
      → IsLog e y.log (is.entries ++ spell_prepared (prepared u cs) ∷ []) → IsPartition e y p (with_prepared_unit v (prepared u cs)) applied
  with_unit u cs may read others part nulls rows kept_unit last same device is_log =
      let unit = prepared u cs in
      let payload = spell_prepared unit in
      let dev = device_of (part_device p) v.which in
      let other = device_of (part_device p) (other_log v.which) in
      let kept : IsUnchanged d e other = others.kept other (λ same. logs_apart (part_device p) v.which (same ∙ is.device)) in
      record {
        part = part ∙ is.part;
        entries = is.entries ++ payload ∷ [];
        is_log = is_log;
        some = omega (arith, length-append is.entries (payload ∷ []));
        device = device ∙ is.device;
        known = omega (arith, is.known, others.shape.count);
        other = settled_kept d e other kept is.other;
        nulls = nulls ∙ is.nulls;
        pages = is.pages;
        none = is.none;
        keyed = every_push AreKeyed v.log.prepared unit is.keyed (all_put_keyed (has_nulls v.log.header.format) cs may.each);
        last = subst (IsLastKept applied (with_prepared_unit v unit).log.prepared) (sym last) (last_put applied v.log.prepared unit kept_unit same);
        rows = rows ∙ is.rows ∙ ap (λ (s : Tables). s.list) (sym (undecided_rows applied v unit may.new));
        told = λ now.
            let before = sym others.shape.told ∙ now in
            let t = is.told before in
            let reads = read (has_nulls v.log.header.format) may.each may.ordered in
            record {
              reads = partition_push payload unit p is.entries v.log t.reads reads;
              counts = pair_push partition_generation (partition_in p) (part_device p) (logs_of d.bytes) (logs_of e.bytes) v.which v.log (with_prepared_unit v unit).log payload t.counts
                  (record {
                    entries = is.entries;
                    before = subst (λ (k : ℕ). entries_in (d.bytes k) ≡ Some is.entries) is.device (entries_stand d x.log is.entries is.is_log before);
                    after = subst (λ (k : ℕ). entries_in (e.bytes k) ≡ Some (is.entries ++ payload ∷ [])) (device ∙ is.device) (entries_stand e y.log (is.entries ++ payload ∷ []) is_log now);
                  })
                  (ap entries_in kept.bytes) refl (λ es log. partition_push payload unit p es v.log log reads);
            };
      }

-- AFTER A UNIT IS APPLIED
pub with_applied : (d : View) (x y : Partition) (p : ℕ) (v : PartView) (applied : List Id) (u : Id) → IsPartition d x p v applied → (last : IsPreparedLast v applied u)
    → y.part ≡ x.part → y.nulls ≡ x.nulls → y.log ≡ x.log
    → y.rows ≡ (with_changes last.changes (part_tables applied v.log v.rows)).list
    → IsPartition d y p v (applied ++ u ∷ [])
with_applied d x y p v applied u is last part nulls log rows = record {
  part = part ∙ is.part;
  entries = is.entries;
  is_log = subst (λ (l : GateLog). IsLog d l is.entries) (sym log) is.is_log;
  some = is.some;
  device = ap gates.device_of log ∙ is.device;
  known = is.known;
  other = is.other;
  nulls = nulls ∙ is.nulls;
  pages = is.pages;
  none = is.none;
  keyed = is.keyed;
  last = applied_last v applied u last y.last;
  rows = rows ∙ ap (λ (s : Tables). s.list) (sym (decided_rows applied v u last));
  told = is.told;
}
