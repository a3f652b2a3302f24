-- A partition that is opened again goes on from what it was.
use Rattle.salt_bytes.specs.Formats.{has_nulls}
use Rattle.salt_bytes.specs.Generations.{Counts, WhichLog}
use Rattle.salt_bytes.specs.Log.{entries_in, spelled}
use Rattle.salt_disk.specs.Disks.{IsUnchanged, KeepsAll, View}
use Rattle.salt_gatelog.proofs.Entries.{not_told}
use Rattle.salt_gatelog.specs.Log as gates
use Rattle.salt_gatelog.specs.Log.{IsLog}
use Rattle.salt_gatelog.specs.declared.log.GateLog.{GateLog}
use Rattle.salt_model.specs.Tables.{Tables, with_changes}
use Rattle.salt_partition.proofs.Standing.{decided_rows, entries_stand, settled_kept}
use Rattle.salt_partition.proofs.Steps.{unchanged}
use Rattle.salt_partition.specs.Openings.{OpensAs, are_some, fault_of, has_pages, part_fault}
use Rattle.salt_partition.specs.Partitions.{IsLastKept, IsPartition, IsPreparedLast, log_device, log_gate}
use Rattle.salt_partition.specs.Reopening.{GoesOn, IsLastIn, IsLater}
use Rattle.salt_partition.specs.declared.partition.Partition.{Partition}
use Rattle.salt_stands.proofs.Pairs.{pair_same}
use Rattle.salt_stands.specs.Coordinator.{device_of}
use Rattle.salt_stands.specs.OpenedPart.{is_known_log}
use Rattle.salt_stands.specs.Partition.{part_device, part_pair, part_tables}
use Rattle.salt_stands.specs.PartitionLog.{PartitionLog, partition_generation, partition_in}
use Rattle.salt_stands.specs.Pieces.{PartView, other_log}
use Rattle.salt_stands.specs.Stands.{logs_of}
use Rattle.salt_values.specs.Id.{has_id, is_same_id}
use Rattle.salt_values.specs.declared.change.Change.{Change}
use Rattle.salt_values.specs.declared.id.Id.{Id}
use Rattle.std.proofs.Common.{Bool, IsTrue, List, None, Some, [], ap, arith, false, length, refl, subst, sym, true, ℕ, ◌+◌, ◌++◌, ◌≡◌, ◌∙◌, ◌∷◌}
use Rattle.std.specs.Prelude.{◌||◌, ◌↔◌}

-- WHAT GOES ON

-- nothing was decided since
pub goes_same : (v : PartView) (applied : List Id) → GoesOn v applied applied []
unfolding with_changes
goes_same v applied = record { kept = λ u new. new; rows = refl }

-- a name that is not in a list with one more is not in the list
not_before : (w : Id) (us : List Id) (u : Id) → has_id w (us ++ u ∷ []) ≡ false → has_id w us ≡ false
not_before w [] u new = refl
not_before w (x ∷ us) u new = by (is_same_id w x) new (not_before w us u)
  where
    by : (b : Bool) → (b || has_id w (us ++ u ∷ [])) ≡ false → (has_id w (us ++ u ∷ []) ≡ false → has_id w us ≡ false) → (b || has_id w us) ≡ false
    by true e f = absurd cc
    by false e f = f e

-- the unit that was prepared last was decided
pub goes_next : (v : PartView) (applied : List Id) (u : Id) (last : IsPreparedLast v applied u) → GoesOn v applied (applied ++ u ∷ []) last.changes
goes_next v applied u last = record { kept = λ w new. not_before w applied u new; rows = decided_rows applied v u last }

-- ONE VALUE GOES ON FROM ANOTHER, or its log is another, or spells otherwise

pub other_log_than : (x before : Partition) (cs : List Change) (t : Tables) → (log_device x ≡ log_device before → ⊥) → IsTrue false ↔ IsLater x before cs t
other_log_than x before cs t differ = (λ yes. absurd (cc yes), λ later. absurd (differ later.device))

pub other_gate : (x before : Partition) (cs : List Change) (t : Tables) → (log_gate x ≡ log_gate before → ⊥) → IsTrue false ↔ IsLater x before cs t
other_gate x before cs t differ = (λ yes. absurd (cc yes), λ later. absurd (differ later.gate))

pub spells_otherwise : (x before : Partition) (cs : List Change) (t : Tables) → (x.nulls ≡ before.nulls → ⊥) → IsTrue false ↔ IsLater x before cs t
spells_otherwise x before cs t differ = (λ yes. absurd (cc yes), λ later. absurd (differ later.nulls))

pub by_rows : (x before : Partition) (cs : List Change) (t : Tables) (b : Bool) → log_device x ≡ log_device before → log_gate x ≡ log_gate before → x.nulls ≡ before.nulls
    → (IsTrue b ↔ (x.rows ≡ (with_changes cs t).list)) → IsTrue b ↔ IsLater x before cs t
by_rows x before cs t b device gate nulls decides = (λ yes. record { device = device; gate = gate; nulls = nulls; rows = decides.0 yes }, λ later. decides.1 later.rows)

-- IT OPENS

-- its devices have no fault
pub no_fault : (d : View) (x : Partition) (p : ℕ) (v : PartView) (applied : List Id) (boot : ℕ) (units : List Id) → IsPartition d x p v applied
    → (IsTrue d.told → is_known_log boot units v.log ≡ true) → IsTrue d.told → part_fault boot units x.part d.bytes ≡ None
no_fault d x p v applied boot units is known told =
    let fits : is_known_log boot units v.log ≡ true = known told in
    let pages : has_pages v.log ≡ false = ap are_some is.pages in
    ap (λ n. part_fault boot units n d.bytes) is.part ∙ ap (fault_of boot units p) (is.told told).counts ∙ rw (fits, pages) refl

one_which : (w z : WhichLog) (a b : PartitionLog) → Counts w a ≡ Counts z b → w ≡ z
one_which w z a b e = cc

one_log : (w z : WhichLog) (a b : PartitionLog) → Counts w a ≡ Counts z b → a ≡ b
one_log w z a b e = cc

module _ (d e : View) (x y : Partition) (boot : ℕ) (units : List Id) (keeps : KeepsAll d e None) (opens : OpensAs d e y boot units x.part)
    (p : ℕ) (v : PartView) (applied decided : List Id) (cs : List Change) (is : IsPartition d x p v applied) (goes : GoesOn v applied decided cs) where
  abbrev a : ℕ
  a = part_device p

  abbrev w : PartView
  w = opens.view

  -- the pair of logs is as it was
  same_pair : part_pair p (logs_of e.bytes) ≡ part_pair p (logs_of d.bytes)
  same_pair =
      let kept : (dev : ℕ) → IsUnchanged d e dev = unchanged d e keeps in
      pair_same partition_generation (partition_in p) a (logs_of d.bytes) (logs_of e.bytes) (ap entries_in (kept a).bytes) (ap entries_in (kept (a + 1)).bytes)

  module _ (told : IsTrue d.told) where
    still_told : IsTrue e.told
    still_told = keeps.shape.told ∙ told

    -- where the disks tell their bytes, one log counts
    same_counts : Counts w.which w.log ≡ Counts v.which v.log
    same_counts = sym (opens.is.told still_told).counts ∙ ap (λ n. part_pair n (logs_of e.bytes)) is.part ∙ same_pair ∙ (is.told told).counts

    same_which : w.which ≡ v.which
    same_which = one_which w.which v.which w.log v.log same_counts

    same_log : w.log ≡ v.log
    same_log = one_log w.which v.which w.log v.log same_counts

    same_device : log_device y ≡ log_device x
    same_device = opens.is.device ∙ ap (λ n. device_of (part_device n) w.which) is.part ∙ ap (device_of a) same_which ∙ sym is.device

    one_list : (es fs : List (List ℕ)) → Some es ≡ Some fs → es ≡ fs
    one_list es fs e = cc

    same_entries : opens.is.entries ≡ is.entries
    same_entries = one_list opens.is.entries is.entries (sym (entries_stand e y.log opens.is.entries opens.is.is_log still_told) ∙ ap entries_in (ap e.bytes same_device ∙ (unchanged d e keeps (log_device x)).bytes) ∙ entries_stand d x.log is.entries is.is_log told)

    pub is_later : units ≡ decided → IsLater y x cs (part_tables applied v.log v.rows)
    is_later same = record {
      device = same_device;
      gate = opens.is.is_log.end ∙ ap (λ (es : List (List ℕ)). length (spelled es)) same_entries ∙ sym is.is_log.end;
      nulls = opens.is.nulls ∙ ap (λ (l : PartitionLog). has_nulls l.header.format) same_log ∙ sym is.nulls;
      rows = opens.is.rows
          ∙ ap (λ (us : List Id). (part_tables us w.log w.rows).list) same
          ∙ ap (λ (l : PartitionLog). (part_tables decided l w.rows).list) same_log
          ∙ ap (λ (rows : List Change). (part_tables decided v.log rows).list) (opens.is.none ∙ sym is.none)
          ∙ ap (λ (t : Tables). t.list) goes.rows;
    }

    same_reads : partition_in p opens.is.entries ≡ Some v.log
    same_reads = ap (λ n. partition_in n opens.is.entries) (sym is.part) ∙ (opens.is.told still_told).reads ∙ ap Some same_log

  -- a value that is not later comes only where they don't tell
  pub not_later : (later : Bool) → later ≡ false → (IsTrue later ↔ IsLater y x cs (part_tables applied v.log v.rows)) → (IsTrue d.told → units ≡ decided) → e.told ≡ false
  not_later later denied decides same = not_told e.told (λ now. differ (sym denied ∙ decides.1 (is_later (sym keeps.shape.told ∙ now) (same (sym keeps.shape.told ∙ now)))))
    where
      differ : false ≡ true → ⊥
      differ e = cc

  -- the unit that was prepared last is kept in it, or is decided
  pub last_stays : (z : Partition) → z.last ≡ x.last → IsLastKept decided v.log.prepared z.last
  last_stays z last = subst (IsLastKept decided v.log.prepared) (sym last) (λ before u at new. is.last before u at (goes.kept u.unit new))

  pub last_decided : (z : Partition) → IsLastIn decided v.log.prepared → IsLastKept decided v.log.prepared z.last
  last_decided z named before u at new = absurd (differ (sym new ∙ named before u at))
    where
      differ : false ≡ true → ⊥
      differ e = cc

  -- one that is later takes its place
  pub reopened : (z : Partition) → IsLater y x cs (part_tables applied v.log v.rows) → z.part ≡ x.part → z.nulls ≡ x.nulls → IsLastKept decided v.log.prepared z.last → z.log ≡ y.log → z.rows ≡ y.rows → IsPartition e z p v decided
  reopened z later part nulls last log rows =
      let other = device_of a (other_log v.which) in
      record {
        part = part ∙ is.part;
        entries = opens.is.entries;
        is_log = subst (λ (l : GateLog). IsLog e l opens.is.entries) (sym log) opens.is.is_log;
        some = opens.is.some;
        device = ap gates.device_of log ∙ later.device ∙ is.device;
        known = omega (arith, is.known, keeps.shape.count);
        other = settled_kept d e other (unchanged d e keeps other) is.other;
        nulls = nulls ∙ is.nulls;
        pages = is.pages;
        none = is.none;
        keyed = is.keyed;
        last = last;
        rows = rows ∙ later.rows ∙ ap (λ (t : Tables). t.list) (sym goes.rows);
        told = λ now.
            let told : IsTrue d.told = sym keeps.shape.told ∙ now in
            record { reads = same_reads told; counts = same_pair ∙ (is.told told).counts };
      }
