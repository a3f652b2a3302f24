-- A partition that is opened again goes on from what it was.
use Rattle.salt_bytes.specs.Formats.{has_nulls}
use Rattle.salt_bytes.specs.Generations.{Counts, WhichLog}
use Rattle.salt_bytes.specs.Log.{entries_in, spelled}
use Rattle.salt_checkpoint.proofs.Standing.{no_page}
use Rattle.salt_checkpoint.specs.Checkpoints.{NamedSettled}
use Rattle.salt_checkpoint.specs.Sides.{KeepsNamed}
use Rattle.salt_codec.specs.Entries.{header_of}
use Rattle.salt_disk.specs.Disks.{IsSettled, IsUnchanged, KeepsOthers, SameShape, View}
use Rattle.salt_gatelog.proofs.Entries.{not_told}
use Rattle.salt_gatelog.specs.Log.{IsLog}
use Rattle.salt_gatelog.specs.declared.log.GateLog.{GateLog}
use Rattle.salt_paged.proofs.Opened.{one_list, one_log, sound_with}
use Rattle.salt_paged.proofs.Paged.{store_as}
use Rattle.salt_paged.proofs.Standing.{entries_stand}
use Rattle.salt_paged.specs.Openings.{CountsWith, OpensAs, SettlesNamed, fault_of, part_fault}
use Rattle.salt_paged.specs.Partitions.{IsPartition, IsTold, log_device, log_gate, pages_of}
use Rattle.salt_paged.specs.Reopening.{AreDecided, IsSameLog}
use Rattle.salt_paged.specs.declared.partition.Partition.{Partition}
use Rattle.salt_partition.specs.Choices.{which_of}
use Rattle.salt_partition.specs.Partitions.{IsLastKept}
use Rattle.salt_partition.specs.declared.generations.Side.TheVariants.{A, B}
use Rattle.salt_partition.specs.declared.generations.Side.{Side}
use Rattle.salt_codec.specs.declared.prepared.PreparedUnit.{PreparedUnit}
use Rattle.salt_bytes.specs.Partition.{PartitionHeader, Prepared}
use Rattle.salt_rows.specs.Stores.{IsRowStore}
use Rattle.salt_rows.specs.declared.store.RowStore.{RowStore}
use Rattle.salt_stands.specs.Coordinator.{device_of}
use Rattle.salt_stands.specs.OpenedPart.{is_known_log}
use Rattle.salt_stands.specs.Partition.{are_distinct, pages_device, part_device, part_pair, part_tables, rows_from}
use Rattle.salt_stands.specs.PartitionLog.{PartitionLog}
use Rattle.salt_stands.specs.Pieces.{PartView, other_log}
use Rattle.salt_stands.specs.Stands.{logs_of}
use Rattle.salt_stands.specs.Tables.{change_of_row}
use Rattle.salt_values.specs.declared.change.Change.{Change}
use Rattle.salt_values.specs.declared.id.Id.{Id}
use Rattle.std.proofs.Common.{Bool, IsTrue, List, None, Option, Some, ap, arith, false, length, refl, subst, sym, true, ℕ, ◌≡◌, ◌∙◌}
use Rattle.std.specs.Prelude.{map, ◌↔◌}

same_view : (a b : PartView) → a.which ≡ b.which → a.log ≡ b.log → a.rows ≡ b.rows → a ≡ b
same_view a b which log rows =
    ap (λ (w : WhichLog). record { which = w; log = a.log; rows = a.rows }) which
    ∙ ap (λ (l : PartitionLog). record { which = b.which; log = l; rows = a.rows }) log
    ∙ ap (λ (cs : List Change). record { which = b.which; log = b.log; rows = cs }) rows

-- the last unit that was kept is kept, where what is applied is decided
pub last_still : (applied decided : List Id) (ps : List Prepared) (last : Option PreparedUnit) → AreDecided applied decided → IsLastKept applied ps last → IsLastKept decided ps last
last_still applied decided ps last goes is before x at new = is before x at (goes x.unit new)

-- the log that counts is the one of the view, so nothing is pending on the sides that it names
pub settles : (d : View) (x : Partition) (p : ℕ) (v : PartView) (applied : List Id) → IsPartition d x p v applied → IsTrue d.told → SettlesNamed d p
settles d x p v applied is told log counts =
    let t = is.told told in
    let same : v.log ≡ log = one_log v.which counts.0 v.log log (sym t.counts ∙ counts.1) in
    subst (λ (l : PartitionLog). NamedSettled l.header.sides d (pages_device p)) same t.settled

-- and what is kept of that log is kept of the view's
pub named_view : (d e : View) (x : Partition) (p : ℕ) (v : PartView) (applied : List Id) → IsPartition d x p v applied → IsTrue d.told
    → ((log : PartitionLog) → CountsWith d x.part log → KeepsNamed log.header.sides d e (pages_of x)) → KeepsNamed v.log.header.sides d e (pages_of x)
named_view d e x p v applied is told keeps = keeps v.log (v.which, subst (λ (n : ℕ). part_pair n (logs_of d.bytes) ≡ Counts v.which v.log) (sym is.part) (is.told told).counts)

-- ONE VALUE'S LOG IS ANOTHER'S, or differs in this

pub other_format : (a b : PartitionHeader) → (a.format ≡ b.format → ⊥) → IsTrue false ↔ (a ≡ b)
other_format a b differ = (λ yes. absurd (cc yes), λ same. absurd (differ (ap (λ (h : PartitionHeader). h.format) same)))

pub other_generation : (a b : PartitionHeader) → (a.generation ≡ b.generation → ⊥) → IsTrue false ↔ (a ≡ b)
other_generation a b differ = (λ yes. absurd (cc yes), λ same. absurd (differ (ap (λ (h : PartitionHeader). h.generation) same)))

pub other_part : (a b : PartitionHeader) → (a.part ≡ b.part → ⊥) → IsTrue false ↔ (a ≡ b)
other_part a b differ = (λ yes. absurd (cc yes), λ same. absurd (differ (ap (λ (h : PartitionHeader). h.part) same)))

pub by_sides : (a b : PartitionHeader) (r : Bool) → a.format ≡ b.format → a.generation ≡ b.generation → a.part ≡ b.part → IsTrue r ↔ (a.sides ≡ b.sides) → IsTrue r ↔ (a ≡ b)
by_sides a b r format generation part decides = (
  λ yes.
      ap (λ (n : ℕ). record { format = n; generation = a.generation; part = a.part; sides = a.sides }) format
      ∙ ap (λ (n : ℕ). record { format = b.format; generation = n; part = a.part; sides = a.sides }) generation
      ∙ ap (λ (n : ℕ). record { format = b.format; generation = b.generation; part = n; sides = a.sides }) part
      ∙ ap (λ (l : List ℕ). record { format = b.format; generation = b.generation; part = b.part; sides = l }) (decides.0 yes),
  λ same. decides.1 (ap (λ (h : PartitionHeader). h.sides) same),
)

pub other_side : (x before : Partition) → (x.side ≡ before.side → ⊥) → IsTrue false ↔ IsSameLog x before
other_side x before differ = (λ yes. absurd (cc yes), λ same. absurd (differ same.side))

pub other_device : (x before : Partition) → (log_device x ≡ log_device before → ⊥) → IsTrue false ↔ IsSameLog x before
other_device x before differ = (λ yes. absurd (cc yes), λ same. absurd (differ same.device))

pub other_gate : (x before : Partition) → (log_gate x ≡ log_gate before → ⊥) → IsTrue false ↔ IsSameLog x before
other_gate x before differ = (λ yes. absurd (cc yes), λ same. absurd (differ same.gate))

pub by_header : (x before : Partition) (r : Bool) → x.side ≡ before.side → log_device x ≡ log_device before → log_gate x ≡ log_gate before → IsTrue r ↔ (header_of x.header ≡ header_of before.header) → IsTrue r ↔ IsSameLog x before
by_header x before r side device gate decides = (λ yes. record { header = decides.0 yes; side = side; device = device; gate = gate }, λ same. decides.1 same.header)

-- IT OPENS

-- its devices have no fault
pub no_fault : (d : View) (x : Partition) (p : ℕ) (v : PartView) (applied : List Id) (boot : ℕ) (units : List Id) → IsPartition d x p v applied
    → (IsTrue d.told → is_known_log boot units v.log ≡ true) → IsTrue d.told → part_fault boot units x.part d.bytes ≡ None
no_fault d x p v applied boot units is known told =
    let t = is.told told in
    ap (λ n. part_fault boot units n d.bytes) is.part ∙ ap (fault_of boot units p (d.bytes (pages_device p))) t.counts
    ∙ sound_with boot units p (d.bytes (pages_device p)) v.which v.log t.pages (known told) t.named (ap are_distinct (sym t.rows) ∙ t.apart)

one_which : (w z : WhichLog) (a b : PartitionLog) → Counts w a ≡ Counts z b → w ≡ z
one_which w z a b e = cc

one_side : (a b : Side) → which_of a ≡ which_of b → a ≡ b
one_side A A e = refl
one_side A B e = cc
one_side B A e = cc
one_side B B e = refl

-- WHERE THE DISKS TELL, what is found has the same log
module _ (d e : View) (x y : Partition) (boot : ℕ) (units : List Id) (p : ℕ) (v : PartView) (applied : List Id) (is : IsPartition d x p v applied) (opens : OpensAs d e y boot units x.part) (others : KeepsOthers (pages_of x) d e None) where
  log_kept_at : (which : WhichLog) → IsUnchanged d e (device_of (part_device p) which)
  log_kept_at which = others.kept (device_of (part_device p) which) (λ same. no_page which p p (same ∙ ap pages_device is.part))

  module _ (told : IsTrue d.told) where
    abbrev w : PartView
    w = opens.view

    found : IsTold d p w (opens.stood told).0
    found = subst (λ (k : ℕ). IsTold d k w (opens.stood told).0) is.part (opens.stood told).1

    counts : Counts w.which w.log ≡ Counts v.which v.log
    counts = sym found.counts ∙ (is.told told).counts

    which : w.which ≡ v.which
    which = one_which w.which v.which w.log v.log counts

    log : w.log ≡ v.log
    log = one_log w.which v.which w.log v.log counts

    device : log_device y ≡ log_device x
    device = opens.is.device ∙ ap (λ n. device_of (part_device n) w.which) is.part ∙ ap (device_of (part_device p)) which ∙ sym is.device

    one_of : (es fs : List (List ℕ)) → Some es ≡ Some fs → es ≡ fs
    one_of es fs e = cc

    entries : opens.is.entries ≡ is.entries
    entries =
        let told1 = others.shape.told ∙ told in
        let here : e.bytes (log_device x) ≡ d.bytes (log_device x) = subst (λ (k : ℕ). e.bytes k ≡ d.bytes k) (sym is.device) (log_kept_at v.which).bytes in
        one_of opens.is.entries is.entries
        (sym (entries_stand e y.log opens.is.entries opens.is.is_log told1) ∙ ap entries_in (ap e.bytes device ∙ here) ∙ entries_stand d x.log is.entries is.is_log told)

    pub same_log : IsSameLog y x
    same_log = record {
      header = opens.is.header ∙ ap (λ (l : PartitionLog). l.header) log ∙ sym is.header;
      side = one_side y.side x.side (opens.is.which ∙ which ∙ sym is.which);
      device = device;
      gate = opens.is.is_log.end ∙ ap (λ (es : List (List ℕ)). length (spelled es)) entries ∙ sym is.is_log.end;
    }

  -- so another one comes only where they don't
  pub not_same : (r : Bool) → r ≡ false → IsTrue r ↔ IsSameLog y x → e.told ≡ false
  not_same r denied decides = not_told e.told (λ now. differ (sym denied ∙ decides.1 (same_log (sym others.shape.told ∙ now))))
    where
      differ : false ≡ true → ⊥
      differ e = cc

module _ (d e : View) (x y : Partition) (boot : ℕ) (units decided : List Id) (p : ℕ) (v : PartView) (applied : List Id) (is : IsPartition d x p v applied) (opens : OpensAs d e y boot units x.part) (same : IsSameLog y x) (shape : SameShape d e)
    (named : IsTrue d.told → units ≡ decided) where
  which_is : opens.view.which ≡ v.which
  which_is = sym opens.is.which ∙ ap which_of same.side ∙ is.which

  header_is : opens.view.log.header ≡ v.log.header
  header_is = sym opens.is.header ∙ same.header ∙ is.header

  view_is : IsTrue d.told → opens.view ≡ v
  view_is told =
      let w = opens.view in
      let t = is.told told in
      let s : IsTold d p w (opens.stood told).0 = subst (λ (k : ℕ). IsTold d k w (opens.stood told).0) is.part (opens.stood told).1 in
      let log : w.log ≡ v.log = one_log w.which v.which w.log v.log (sym s.counts ∙ t.counts) in
      let pages : s.pages ≡ t.pages = one_list s.pages t.pages (sym s.named ∙ ap (λ (l : PartitionLog). rows_from (has_nulls l.header.format) (d.bytes (pages_device p)) 0 l.header.sides) log ∙ t.named) in
      same_view w v which_is log (s.rows ∙ ap (map change_of_row) pages ∙ sym t.rows)

  tables_are : IsTrue d.told → part_tables units opens.view.log opens.view.rows ≡ part_tables decided v.log v.rows
  tables_are told = ap (λ (w : PartView). part_tables units w.log w.rows) (view_is told) ∙ ap (λ us. part_tables us v.log v.rows) (named told)

  back : IsTrue e.told → IsTrue d.told
  back told = sym shape.told ∙ told

  -- with the log and the rows that were found
  pub again : (z : Partition) → z.part ≡ p → header_of z.header ≡ v.log.header → which_of z.side ≡ v.which → z.log ≡ y.log → z.rows ≡ y.rows → IsLastKept decided v.log.prepared z.last → IsPartition e z p v decided
  again z part header which log rows last = record {
    part = part;
    header = header;
    which = which;
    entries = opens.is.entries;
    is_log = subst (λ (l : GateLog). IsLog e l opens.is.entries) (sym log) opens.is.is_log;
    some = opens.is.some;
    device = ap (λ (l : GateLog). l.dev) log ∙ same.device ∙ is.device;
    known = omega (arith, is.known, shape.count);
    other = subst (λ (w : WhichLog). IsSettled e (device_of (part_device p) (other_log w))) which_is (subst (λ (k : ℕ). IsSettled e (device_of (part_device k) (other_log opens.view.which))) is.part opens.is.other);
    put = is.put;
    last = last;
    rows = subst (λ (s : RowStore). IsRowStore e s (pages_device p) v.log.header.sides (part_tables decided v.log v.rows)) (sym rows)
        (store_as e y.rows (pages_device p) v.log.header.sides (part_tables units opens.view.log opens.view.rows) (part_tables decided v.log v.rows) (λ now. tables_are (back now))
        (subst (λ (h : PartitionHeader). IsRowStore e y.rows (pages_device p) h.sides (part_tables units opens.view.log opens.view.rows)) header_is
        (subst (λ (k : ℕ). IsRowStore e y.rows (pages_device k) opens.view.log.header.sides (part_tables units opens.view.log opens.view.rows)) is.part opens.is.rows)));
    keyed = is.keyed;
    told = λ now. subst (λ (w : PartView). IsTold e p w opens.is.entries) (view_is (back now)) (subst (λ (k : ℕ). IsTold e k opens.view opens.is.entries) is.part (opens.is.told now));
  }
