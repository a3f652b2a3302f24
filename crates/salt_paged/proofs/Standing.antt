-- A partition that stands, after calls.
use Rattle.salt_bytes.specs.Changes.{are_in_order}
use Rattle.salt_bytes.specs.Formats.{has_nulls}
use Rattle.salt_bytes.specs.Log.{entries_in}
use Rattle.salt_bytes.specs.Partition.{Prepared, prepared_in, spell_prepared}
use Rattle.salt_bytes.specs.Spellable.{Every}
use Rattle.salt_disk.specs.Disks.{IsSettled, IsUnchanged, KeepsOthers, SameShape, View}
use Rattle.salt_codec.specs.Entries.{CanBePut, header_of, prepared_of}
use Rattle.salt_codec.specs.declared.prepared.PreparedUnit.{PreparedUnit}
use Rattle.salt_gatelog.proofs.Bytes.{entries_in-closed}
use Rattle.salt_gatelog.specs.Log.{IsLog}
use Rattle.salt_gatelog.specs.declared.log.GateLog.{GateLog}
use Rattle.salt_model.specs.Tables.{Tables, no_rows, with_changes}
use Rattle.salt_values.specs.Id.{has_id}
use Rattle.salt_checkpoint.proofs.Named.{named_reads}
use Rattle.salt_checkpoint.proofs.Standing.{no_page}
use Rattle.salt_checkpoint.specs.Sides.{KeepsNamed, NamedSame}
use Rattle.salt_gatelog.proofs.Frame.{log_kept}
use Rattle.salt_partition.proofs.Keyed.{all_put, every_push}
use Rattle.salt_partition.proofs.Lasts.{last_put}
use Rattle.salt_paged.proofs.Paged.{settled_named_kept, settled_named_on, store_kept}
use Rattle.salt_partition.specs.Choices.{which_of}
use Rattle.salt_partition.specs.Contents.{ArePut}
use Rattle.salt_partition.specs.Partitions.{IsLastKept, IsPreparedLast, MayPrepare, prepared}
use Rattle.salt_paged.specs.Partitions.{IsPartition, IsTold, StandsUpTo}
use Rattle.salt_rows.specs.Stores.{IsRowStore}
use Rattle.salt_rows.specs.declared.store.RowStore.{RowStore}
use Rattle.salt_paged.specs.declared.partition.Partition.{Partition}
use Rattle.salt_stands.proofs.Decided.{changes_other, changes_push, has_last, with_changes_append}
use Rattle.salt_stands.proofs.Pairs.{pair_push, pair_same}
use Rattle.salt_stands.proofs.PartitionLogs.{partition_push}
use Rattle.salt_stands.specs.Coordinator.{device_of}
use Rattle.salt_stands.specs.Partition.{changes_if, decided_changes, pages_device, part_device, part_tables, rows_from}
use Rattle.salt_stands.specs.PartitionLog.{partition_generation, partition_in}
use Rattle.salt_stands.specs.Pieces.{PartView, other_log, with_prepared_unit}
use Rattle.salt_stands.specs.Stands.{logs_of}
use Rattle.salt_bytes.specs.Generations.{LogA, LogB, WhichLog}
use Rattle.salt_values.specs.declared.change.Change.{Change}
use Rattle.salt_values.specs.declared.id.Id.{Id}
use Rattle.std.proofs.Common.{Bool, IsTrue, List, None, Some, [], ap, append_assoc, arith, false, length-append, refl, subst, sym, true, ℕ, ◌+◌, ◌++◌, ◌≡◌, ◌≢◌, ◌∙◌, ◌∷◌}
use Rattle.std.proofs.lemmas.List.{append-nil}

-- DEVICES

pub logs_apart : (a : ℕ) (which : WhichLog) → device_of a (other_log which) ≡ device_of a which → ⊥
logs_apart a LogA same = omega (arith, same)
logs_apart a LogB same = omega (arith, same)

pub settled_kept : (d e : View) (dev : ℕ) → IsUnchanged d e dev → IsSettled d dev → IsSettled e dev
settled_kept d e dev kept is = λ c left. is c (kept.images c left) ∙ sym kept.bytes

-- where a disk tells its bytes, a log's entries stand on its device
pub entries_stand : (d : View) (log : GateLog) (entries : List (List ℕ)) → IsLog d log entries → IsTrue d.told → entries_in (d.bytes log.dev) ≡ Some entries
entries_stand d log entries is told = entries_in-closed entries (d.bytes log.dev) (omega (arith, is.end, is.room)) (is.file told)

-- ROWS

-- the rows of a view, with the changes of those of these units that are applied
abbrev rows_with : List Id → PartView → List Prepared → Tables
rows_with us v done = with_changes (v.rows ++ decided_changes us done) no_rows

-- a unit that no decision names leaves them as they are
pub undecided_rows : (us : List Id) (v : PartView) (done : List Prepared) (x : Prepared) → has_id x.unit us ≡ false → with_changes (v.rows ++ decided_changes us (done ++ x ∷ [])) no_rows ≡ with_changes (v.rows ++ decided_changes us done) no_rows
undecided_rows us v done x new =
    ap (λ cs. with_changes (v.rows ++ cs) no_rows) (changes_push us done x ∙ ap (λ b. decided_changes us done ++ changes_if b x.changes) new ∙ append-nil (decided_changes us done))

-- one that is decided is made
pub done_rows : (us : List Id) (v : PartView) (done : List Prepared) (x : Prepared) → has_id x.unit us ≡ true → with_changes (v.rows ++ decided_changes us (done ++ x ∷ [])) no_rows ≡ with_changes x.changes (with_changes (v.rows ++ decided_changes us done) no_rows)
done_rows us v done x named =
    let few = decided_changes us done in
    ap (λ cs. with_changes (v.rows ++ cs) no_rows) (changes_push us done x ∙ ap (λ b. few ++ changes_if b x.changes) named)
    ∙ ap (λ cs. with_changes cs no_rows) (sym (append_assoc v.rows few x.changes))
    ∙ with_changes_append (v.rows ++ few) x.changes no_rows

-- with the last one decided, its changes are made
pub decided_rows : (us : List Id) (v : PartView) (u : Id) (last : IsPreparedLast v us u) → part_tables (us ++ u ∷ []) v.log v.rows ≡ with_changes last.changes (part_tables us v.log v.rows)
decided_rows us v u last =
    let x = prepared u last.changes in
    let few = decided_changes us last.before in
    let without : decided_changes us v.log.prepared ≡ few =
    ap (decided_changes us) last.last ∙ changes_push us last.before x ∙ ap (λ b. few ++ changes_if b x.changes) last.new ∙ append-nil few in
    let with : decided_changes (us ++ u ∷ []) v.log.prepared ≡ few ++ x.changes =
    ap (decided_changes (us ++ u ∷ [])) last.last ∙ changes_push (us ++ u ∷ []) last.before x
    ∙ ap (λ b. decided_changes (us ++ u ∷ []) last.before ++ changes_if b x.changes) (has_last us u) ∙ ap (λ cs. cs ++ x.changes) (changes_other us u last.before last.fresh) in
    ap (λ cs. with_changes (v.rows ++ cs) no_rows) with
    ∙ ap (λ cs. with_changes cs no_rows) (sym (append_assoc v.rows few x.changes))
    ∙ with_changes_append (v.rows ++ few) x.changes no_rows
    ∙ ap (λ cs. with_changes x.changes (with_changes (v.rows ++ cs) no_rows)) (sym without)

-- WHERE THE DISKS TELL

-- on devices that are as they were
pub told_kept : (d e : View) (p : ℕ) (v : PartView) (entries : List (List ℕ)) → e.bytes (part_device p) ≡ d.bytes (part_device p) → e.bytes (part_device p + 1) ≡ d.bytes (part_device p + 1) → IsUnchanged d e (pages_device p) → IsTold d p v entries → IsTold e p v entries
told_kept d e p v entries first second pages t = record {
  reads = t.reads;
  counts = pair_same partition_generation (partition_in p) (part_device p) (logs_of d.bytes) (logs_of e.bytes) (ap entries_in first) (ap entries_in second) ∙ t.counts;
  pages = t.pages;
  named = ap (λ b. rows_from (has_nulls v.log.header.format) b 0 v.log.header.sides) pages.bytes ∙ t.named;
  rows = t.rows;
  apart = t.apart;
  settled = settled_named_kept v.log.header.sides d e (pages_device p) pages t.settled;
}

-- behind writes of pages to sides that the header does not name
pub told_written : (d e : View) (p : ℕ) (v : PartView) (entries : List (List ℕ)) → e.bytes (part_device p) ≡ d.bytes (part_device p) → e.bytes (part_device p + 1) ≡ d.bytes (part_device p + 1)
    → KeepsNamed v.log.header.sides d e (pages_device p) → NamedSame v.log.header.sides (d.bytes (pages_device p)) (e.bytes (pages_device p)) → IsTold d p v entries → IsTold e p v entries
told_written d e p v entries first second keeps same t = record {
  reads = t.reads;
  counts = pair_same partition_generation (partition_in p) (part_device p) (logs_of d.bytes) (logs_of e.bytes) (ap entries_in first) (ap entries_in second) ∙ t.counts;
  pages = t.pages;
  named = named_reads v (d.bytes (pages_device p)) (e.bytes (pages_device p)) same ∙ t.named;
  rows = t.rows;
  apart = t.apart;
  settled = settled_named_on v.log.header.sides d e (pages_device p) keeps same t.settled;
}

module _ (d e : View) (x y : Partition) (p : ℕ) (v : PartView) (applied : List Id) (done : List Prepared) (is : StandsUpTo d x p v applied done) where
  -- AFTER CALLS THAT WRITE NOTHING; the store may have other frames
  pub moved : SameShape d e → ((dev : ℕ) → IsUnchanged d e dev) → y.part ≡ x.part → header_of y.header ≡ header_of x.header → y.side ≡ x.side → y.last ≡ x.last → y.log.dev ≡ x.log.dev → IsLog e y.log is.entries
      → IsRowStore e y.rows (pages_device p) v.log.header.sides (with_changes (v.rows ++ decided_changes applied done) no_rows) → StandsUpTo e y p v applied done
  moved shape kept part header side last device is_log rows = record {
    part = part ∙ is.part;
    header = header ∙ is.header;
    which = ap which_of side ∙ is.which;
    entries = is.entries;
    is_log = is_log;
    some = is.some;
    device = device ∙ is.device;
    known = omega (arith, is.known, shape.count);
    other = settled_kept d e (device_of (part_device p) (other_log v.which)) (kept (device_of (part_device p) (other_log v.which))) is.other;
    put = is.put;
    last = subst (IsLastKept applied done) (sym last) is.last;
    rows = rows;
    keyed = is.keyed;
    told = λ now. told_kept d e p v is.entries (kept (part_device p)).bytes (kept (part_device p + 1)).bytes (kept (pages_device p)) (is.told (sym shape.told ∙ now));
  }

-- AFTER A UNIT IS PREPARED
pub with_unit : (d e : View) (x y : Partition) (p : ℕ) (v : PartView) (applied : List Id) (is : IsPartition d x p v applied) (u : Id) (cs : List Change) → MayPrepare v applied u cs
    → ((nulls : Bool) → Every (CanBePut nulls) cs → are_in_order cs ≡ true → prepared_in nulls (spell_prepared (prepared u cs)) ≡ Some (prepared u cs))
    → KeepsOthers x.log.dev d e None → y.part ≡ x.part → header_of y.header ≡ header_of x.header → y.side ≡ x.side → y.rows ≡ x.rows → (kept : PreparedUnit) → y.last ≡ Some kept → prepared_of kept ≡ prepared u cs → y.log.dev ≡ x.log.dev
    → IsLog e y.log (is.entries ++ spell_prepared (prepared u cs) ∷ []) → IsPartition e y p (with_prepared_unit v (prepared u cs)) applied
with_unit d e x y p v applied is u cs may read others part header side rows kept_unit last same device is_log =
    let unit = prepared u cs in
    let payload = spell_prepared unit in
    let other = device_of (part_device p) (other_log v.which) in
    let kept : IsUnchanged d e other = others.kept other (λ same. logs_apart (part_device p) v.which (same ∙ is.device)) in
    let pages : IsUnchanged d e (pages_device p) = others.kept (pages_device p) (λ same. no_page v.which p p (sym is.device ∙ sym same)) in
    record {
      part = part ∙ is.part;
      header = header ∙ is.header;
      which = ap which_of side ∙ is.which;
      entries = is.entries ++ payload ∷ [];
      is_log = is_log;
      some = omega (arith, length-append is.entries (payload ∷ []));
      device = device ∙ is.device;
      known = omega (arith, is.known, others.shape.count);
      other = settled_kept d e other kept is.other;
      put = every_push ArePut v.log.prepared unit is.put (all_put (has_nulls v.log.header.format) cs may.each);
      last = subst (IsLastKept applied (v.log.prepared ++ unit ∷ [])) (sym last) (last_put applied v.log.prepared unit kept_unit same);
      rows = subst (λ (s : RowStore). IsRowStore e s (pages_device p) v.log.header.sides (with_changes (v.rows ++ decided_changes applied (v.log.prepared ++ unit ∷ [])) no_rows)) (sym rows)
          (subst (λ t. IsRowStore e x.rows (pages_device p) v.log.header.sides t) (sym (undecided_rows applied v v.log.prepared unit may.new)) (store_kept d e x.rows (pages_device p) v.log.header.sides _ others.shape pages.bytes is.rows));
      keyed = is.keyed;
      told = λ now.
          let before = sym others.shape.told ∙ now in
          let t = is.told before in
          let reads = read (has_nulls v.log.header.format) may.each may.ordered in
          record {
            reads = partition_push payload unit p is.entries v.log t.reads reads;
            counts = pair_push partition_generation (partition_in p) (part_device p) (logs_of d.bytes) (logs_of e.bytes) v.which v.log (with_prepared_unit v unit).log payload t.counts
                (record {
                  entries = is.entries;
                  before = subst (λ (k : ℕ). entries_in (d.bytes k) ≡ Some is.entries) is.device (entries_stand d x.log is.entries is.is_log before);
                  after = subst (λ (k : ℕ). entries_in (e.bytes k) ≡ Some (is.entries ++ payload ∷ [])) (device ∙ is.device) (entries_stand e y.log (is.entries ++ payload ∷ []) is_log now);
                })
                (ap entries_in kept.bytes) refl (λ es log. partition_push payload unit p es v.log log reads);
            pages = t.pages;
            named = ap (λ b. rows_from (has_nulls v.log.header.format) b 0 v.log.header.sides) pages.bytes ∙ t.named;
            rows = t.rows;
            apart = t.apart;
            settled = settled_named_kept v.log.header.sides d e (pages_device p) pages t.settled;
          };
    }

-- AFTER THE CHANGES OF A UNIT ARE MADE, while pages may be written to sides that the header does not name
module _ (d e : View) (x y : Partition) (p : ℕ) (v : PartView) (applied : List Id) (done : List Prepared) (is : StandsUpTo d x p v applied done)
    (others : KeepsOthers (pages_device p) d e None) (keeps : KeepsNamed v.log.header.sides d e (pages_device p))
    (same : IsTrue d.told → NamedSame v.log.header.sides (d.bytes (pages_device p)) (e.bytes (pages_device p))) where
  log_apart : (which : WhichLog) → device_of (part_device p) which ≢ pages_device p
  log_apart which = no_page which p p

  first_apart : part_device p ≢ pages_device p
  first_apart = log_apart LogA

  second_apart : part_device p + 1 ≢ pages_device p
  second_apart = log_apart LogB

  pub written : (us : List Id) (after : List Prepared) → y.part ≡ x.part → header_of y.header ≡ header_of x.header → y.side ≡ x.side → y.log ≡ x.log → IsLastKept us after y.last
      → IsRowStore e y.rows (pages_device p) v.log.header.sides (with_changes (v.rows ++ decided_changes us after) no_rows) → StandsUpTo e y p v us after
  written us after part header side log last rows =
      let other = device_of (part_device p) (other_log v.which) in
      record {
        part = part ∙ is.part;
        header = header ∙ is.header;
        which = ap which_of side ∙ is.which;
        entries = is.entries;
        is_log = subst (λ (l : GateLog). IsLog e l is.entries) (sym log) (log_kept d e x.log is.entries others.shape (others.kept x.log.dev (λ at. log_apart v.which (sym is.device ∙ at))) is.is_log);
        some = is.some;
        device = ap (λ (l : GateLog). l.dev) log ∙ is.device;
        known = omega (arith, is.known, others.shape.count);
        other = settled_kept d e other (others.kept other (log_apart (other_log v.which))) is.other;
        put = is.put;
        last = last;
        rows = rows;
        keyed = is.keyed;
        told = λ now.
            let before = sym others.shape.told ∙ now in
            told_written d e p v is.entries (others.kept (part_device p) first_apart).bytes (others.kept (part_device p + 1) second_apart).bytes keeps (same before) (is.told before);
      }

-- A UNIT THAT IS NOT DECIDED waits
pub undone : (d : View) (x : Partition) (p : ℕ) (v : PartView) (applied : List Id) (done : List Prepared) → StandsUpTo d x p v applied done → (unit : PreparedUnit) → has_id unit.unit applied ≡ false → StandsUpTo d (record x { last = Some unit }) p v applied (done ++ prepared_of unit ∷ [])
undone d x p v applied done is unit new = record {
  part = is.part;
  header = is.header;
  which = is.which;
  entries = is.entries;
  is_log = is.is_log;
  some = is.some;
  device = is.device;
  known = is.known;
  other = is.other;
  put = is.put;
  last = last_put applied done (prepared_of unit) unit refl;
  rows = subst (λ t. IsRowStore d x.rows (pages_device p) v.log.header.sides t) (sym (undecided_rows applied v done (prepared_of unit) new)) is.rows;
  keyed = is.keyed;
  told = is.told;
}

-- A LOG AND A STORE behind calls that write nothing
pub log_same : (d e : View) (x : Partition) (p : ℕ) (v : PartView) (applied : List Id) (done : List Prepared) (is : StandsUpTo d x p v applied done) → SameShape d e → ((dev : ℕ) → IsUnchanged d e dev) → IsLog e x.log is.entries
log_same d e x p v applied done is shape same = log_kept d e x.log is.entries shape (same x.log.dev) is.is_log
