-- What an opening finds.
use Rattle.salt_bytes.specs.Formats.{has_nulls}
use Rattle.salt_bytes.specs.Generations.{BothBlank, Counts, Faulty, Pair, WhichLog}
use Rattle.salt_bytes.specs.Log.{entries_in}
use Rattle.salt_bytes.specs.Page.{TableRow}
use Rattle.salt_bytes.specs.Spellable.{Every}
use Rattle.salt_checkpoint.proofs.Torn.{keeps_more, named_refl}
use Rattle.salt_checkpoint.specs.Checkpoints.{NamedSettled}
use Rattle.salt_checkpoint.specs.Sides.{KeepsNamed}
use Rattle.salt_codec.specs.Entries.{header_of}
use Rattle.salt_directory.specs.Listing.{AreNoPages, AreSound, AreUnsound}
use Rattle.salt_disk.proofs.CallAfterCall.{keeps_on, keeps_wider}
use Rattle.salt_disk.specs.Disks.{IsSettled, IsUnchanged, KeepsAll, KeepsOthers, SameShape, View}
use Rattle.salt_disk.specs.declared.disks.DiskErr.{DiskErr}
use Rattle.salt_gatelog.proofs.Entries.{keeps_then}
use Rattle.salt_gatelog.proofs.Frame.{log_kept}
use Rattle.salt_gatelog.specs.Log.{IsLog}
use Rattle.salt_gatelog.specs.declared.log.GateLog.{GateLog}
use Rattle.salt_gatelog.specs.declared.pair.PairErr.TheVariants.{Disk, NotSalt}
use Rattle.salt_gatelog.specs.declared.pair.PairErr.{PairErr}
use Rattle.salt_model.specs.Tables.{no_rows, with_changes}
use Rattle.salt_paged.proofs.Keyed.{pages_keyed}
use Rattle.salt_paged.proofs.Paged.{settled_named_kept, store_as, store_untold, true_is_not_false}
use Rattle.salt_paged.proofs.Standing.{settled_kept}
use Rattle.salt_paged.specs.Openings.{CountsWith, HasPages, IsFound, IsLogWhy, IsPagesWhy, IsWhy, OpensAs, ReadsAs, SettlesNamed, fault_of, found_log, found_pages, found_which, has_pages, has_sound_pages, log_fault, stand_apart, stand_soundly}
use Rattle.salt_paged.specs.Partitions.{IsPartition, IsTold, StandsUpTo, pages_of}
use Rattle.salt_paged.specs.declared.found.FoundLog.{FoundLog}
use Rattle.salt_paged.specs.declared.partition.Partition.{Partition}
use Rattle.salt_paged.specs.declared.redo.ReadPartition.{ReadPartition}
use Rattle.salt_partition.proofs.Lasts.{no_last}
use Rattle.salt_partition.proofs.Steps.{unchanged}
use Rattle.salt_partition.specs.Choices.{which_of}
use Rattle.salt_partition.specs.Contents.{HasKey, units_of}
use Rattle.salt_partition.specs.Openings.{HasChosen, IsPairWhy, pair_fault}
use Rattle.salt_partition.specs.declared.generations.Side.TheVariants.{A, B}
use Rattle.salt_partition.specs.declared.generations.Side.{Side}
use Rattle.salt_rows.specs.Stores.{HaveRows, IsRowStore, sides_of}
use Rattle.salt_rows.specs.declared.store.RowStore.{RowStore}
use Rattle.salt_model.specs.Tables.{Tables}
use Rattle.salt_stands.proofs.Pairs.{pair_same}
use Rattle.salt_stands.specs.Coordinator.{device_of}
use Rattle.salt_stands.specs.OpenedPart.{is_known_log}
use Rattle.salt_stands.specs.Partition.{are_distinct, pages_device, part_device, part_pair, rows_from}
use Rattle.salt_stands.specs.PartitionLog.{PartitionLog, partition_generation, partition_in}
use Rattle.salt_stands.specs.Pieces.{PartView, other_log}
use Rattle.salt_stands.specs.Stands.{logs_of}
use Rattle.salt_stands.specs.Tables.{change_of_row}
use Rattle.salt_values.specs.declared.change.Change.{Change}
use Rattle.salt_values.specs.declared.id.Id.{Id}
use Rattle.std.proofs.Common.{Bool, IsTrue, List, None, Option, Some, [], ap, arith, false, inl, inr, refl, subst, sym, true, ℕ, ◌&&◌, ◌+◌, ◌++◌, ◌<◌, ◌≡◌, ◌∙◌, ◌∷◌}
use Rattle.std.proofs.lemmas.List.{append-nil}
use Rattle.std.specs.List.{list_all}
use Rattle.std.specs.Prelude.{if◌then◌else◌, map}

pub one_log : (w z : WhichLog) (a b : PartitionLog) → Counts w a ≡ Counts z b → a ≡ b
one_log w z a b e = cc

pub one_list : (a b : List TableRow) → Some a ≡ Some b → a ≡ b
one_list a b e = cc

-- A LOG IS FOUND

settled_other : (d : View) (a : ℕ) (side : Side) → IsSettled d a → IsSettled d (a + 1) → IsSettled d (device_of a (other_log (which_of side)))
settled_other d a A first second = second
settled_other d a B first second = first

pub pair_kept : (d e : View) (p : ℕ) → KeepsAll d e None → part_pair p (logs_of e.bytes) ≡ part_pair p (logs_of d.bytes)
pair_kept d e p keeps =
    pair_same partition_generation (partition_in p) (part_device p) (logs_of d.bytes) (logs_of e.bytes) (ap entries_in (unchanged d e keeps (part_device p)).bytes) (ap entries_in (unchanged d e keeps (part_device p + 1)).bytes)

pub is_found : (d e : View) (x : FoundLog) (p : ℕ) → KeepsAll d e None → pages_device p < d.count → IsSettled d (part_device p) → IsSettled d (part_device p + 1) → x.part ≡ p → HasChosen d e p x.side x.log → IsFound e x p
is_found d e x p keeps known first second part h =
    let other = device_of (part_device p) (other_log (which_of x.side)) in
    record {
      part = part;
      counts = λ told. pair_kept d e p keeps ∙ h.counts (sym keeps.shape.told ∙ told);
      kept = h.kept;
      known = omega (arith, known, keeps.shape.count);
      other = settled_kept d e other (unchanged d e keeps other) (settled_other d (part_device p) x.side first second);
    }

-- a pair's fault is the log's
pair_then_log : (boot : ℕ) (decided : List Id) (p : ℕ) (pair : Pair PartitionLog) (dev : ℕ) → pair_fault p pair ≡ Some dev → log_fault boot decided p pair ≡ Some dev
pair_then_log boot decided p BothBlank dev is = is
pair_then_log boot decided p (Faulty which) dev is = is
pair_then_log boot decided p (Counts which log) dev is = cc

pub log_why : (bytes : ℕ → List ℕ) (boot : ℕ) (decided : List Id) (p : ℕ) (e : PairErr) → IsPairWhy bytes p e → IsLogWhy bytes boot decided p e
log_why bytes boot decided p (NotSalt dev) is = pair_then_log boot decided p (part_pair p (logs_of bytes)) dev is
log_why bytes boot decided p (Disk e) is = is

-- a log that can't be the partition's
pub unknown_log : (d : View) (boot : ℕ) (decided : List Id) (p : ℕ) (which : WhichLog) (log : PartitionLog) → part_pair p (logs_of d.bytes) ≡ Counts which log → is_known_log boot decided log ≡ false
    → log_fault boot decided p (part_pair p (logs_of d.bytes)) ≡ Some (device_of (part_device p) which)
unknown_log d boot decided p which log counts unknown = ap (log_fault boot decided p) counts ∙ rw unknown refl

-- ITS PAGES ARE READ

pub opened_pages : (d e : View) (p dev : ℕ) (log : PartitionLog) (nulls : Bool) (sides : List ℕ) (rows : RowStore) → dev ≡ pages_device p → nulls ≡ has_nulls log.header.format → sides ≡ log.header.sides
    → (t : Tables) × IsRowStore e rows dev sides t × (IsTrue d.told → HaveRows nulls (d.bytes dev) sides t) → sides_of rows ≡ sides → HasPages d e p log rows
opened_pages d e p dev log nulls sides rows at read names opened own = record {
  t = opened.0;
  is = subst (λ (k : ℕ). IsRowStore e rows k log.header.sides opened.0) at (subst (λ (s : List ℕ). IsRowStore e rows dev s opened.0) names opened.1);
  reads = λ told.
      subst (λ (k : ℕ). HaveRows (has_nulls log.header.format) (d.bytes k) log.header.sides opened.0) at
      (subst (λ (s : List ℕ). HaveRows (has_nulls log.header.format) (d.bytes dev) s opened.0) names (subst (λ (b : Bool). HaveRows b (d.bytes dev) sides opened.0) read (opened.2 told)));
  sides = own ∙ names;
}

-- THEY ARE SOUND, or not

and_false : (b : Bool) → (b && false) ≡ false
and_false true = refl
and_false false = refl

no_pages : (sound : TableRow → Bool) (nulls : Bool) (bytes sides : List ℕ) → AreNoPages nulls bytes sides → stand_soundly sound (rows_from nulls bytes 0 sides) ≡ false
no_pages sound nulls bytes sides (inl none) = ap (stand_soundly sound) none
no_pages sound nulls bytes sides (inr twins) = ap (stand_soundly sound) twins.1 ∙ ap (λ b. list_all sound twins.0 && b) twins.2 ∙ and_false (list_all sound twins.0)

unsound_pages : (sound : TableRow → Bool) (nulls : Bool) (bytes sides : List ℕ) → AreUnsound sound nulls bytes sides → stand_soundly sound (rows_from nulls bytes 0 sides) ≡ false
unsound_pages sound nulls bytes sides (inl none) = ap (stand_soundly sound) none
unsound_pages sound nulls bytes sides (inr one) = ap (stand_soundly sound) one.1 ∙ ap (λ b. b && are_distinct (map change_of_row one.0)) one.2

sound_pages : (sound : TableRow → Bool) (nulls : Bool) (bytes sides : List ℕ) (t : Tables) → HaveRows nulls bytes sides t → AreSound sound nulls bytes sides → stand_soundly sound (rows_from nulls bytes 0 sides) ≡ true
sound_pages sound nulls bytes sides t have all = ap (stand_soundly sound) have.read ∙ (λ i. all have.rows have.read i && have.apart i)

module _ (sound : TableRow → Bool) (bytes : ℕ → List ℕ) (x : FoundLog) (dev : ℕ) (nulls : Bool) (sides : List ℕ) (at : dev ≡ pages_device x.part) (read : nulls ≡ has_nulls (found_log x).header.format) (names : sides ≡ (found_log x).header.sides) where
  of_found : (b : Bool) → stand_soundly sound (rows_from nulls (bytes dev) 0 sides) ≡ b → has_sound_pages sound (found_log x) (bytes (found_pages x)) ≡ b
  of_found b is = (λ i. stand_soundly sound (rows_from (sym read i) (bytes (sym at i)) 0 (sym names i))) ∙ is

  pub pages_why : AreNoPages nulls (bytes dev) sides → IsPagesWhy sound bytes x (NotSalt dev)
  pages_why none = (at, of_found false (no_pages sound nulls (bytes dev) sides none))

  pub rows_why : AreUnsound sound nulls (bytes dev) sides → IsPagesWhy sound bytes x (NotSalt dev)
  rows_why unsound = (at, of_found false (unsound_pages sound nulls (bytes dev) sides unsound))

  pub rows_judged : (t : Tables) → HaveRows nulls (bytes dev) sides t → AreSound sound nulls (bytes dev) sides → has_sound_pages sound (found_log x) (bytes (found_pages x)) ≡ true
  rows_judged t have all = of_found true (sound_pages sound nulls (bytes dev) sides t have all)

-- where every row is sound, pages are at fault by themselves
any_sound : (rows : List TableRow) → list_all (λ (r : TableRow). true) rows ≡ true
any_sound [] = refl
any_sound (r ∷ rows) = any_sound rows

any_row : (o : Option (List TableRow)) → stand_soundly (λ (r : TableRow). true) o ≡ stand_apart o
any_row None = refl
any_row (Some rows) = ap (λ b. b && are_distinct (map change_of_row rows)) (any_sound rows)

module _ (d e : View) (found : FoundLog) (x : ReadPartition) (p : ℕ) (keeps : KeepsAll d e None) (h : IsFound d found p) (pages : HasPages d e p (found_log found) x.partition.rows)
    (settled : IsTrue d.told → NamedSettled (found_log found).header.sides d (found_pages found))
    (own : x.partition.part ≡ found.part) (head : header_of x.partition.header ≡ header_of found.log.header) (at : x.partition.side ≡ found.side) (log : x.partition.log ≡ found.log.log) (units : units_of x.units.items ≡ units_of found.log.units.items) where
  same : (dev : ℕ) → IsUnchanged d e dev
  same = unchanged d e keeps

  abbrev log_is : PartitionLog
  log_is = found_log found

  -- its view, with these rows on the pages
  abbrev view_with : List Change → PartView
  view_with rows = record { which = found_which found; log = log_is; rows = rows }

  stands_with : (rows : List Change) (applied : List Id) → IsRowStore e x.partition.rows (pages_device p) log_is.header.sides (with_changes (rows ++ []) no_rows) → Every HasKey rows → (IsTrue e.told → IsTold e p (view_with rows) h.kept.entries)
      → StandsUpTo e x.partition p (view_with rows) applied []
  stands_with rows applied store keyed told = record {
    part = own ∙ h.part;
    header = head;
    which = ap which_of at;
    entries = h.kept.entries;
    is_log = subst (λ (l : GateLog). IsLog e l h.kept.entries) (sym log) (log_kept d e found.log.log h.kept.entries keeps.shape (same found.log.log.dev) h.kept.is_log);
    some = h.kept.some;
    device = ap (λ (l : GateLog). l.dev) log ∙ h.kept.device;
    known = omega (arith, h.known, keeps.shape.count);
    other = settled_kept d e (device_of (part_device p) (other_log (found_which found))) (same (device_of (part_device p) (other_log (found_which found)))) h.other;
    put = h.kept.put;
    last = no_last applied x.partition.last;
    rows = store;
    keyed = keyed;
    told = told;
  }

  reads_told : IsTrue d.told → ReadsAs e x p found
  reads_told told =
      let have : HaveRows (has_nulls log_is.header.format) (d.bytes (pages_device p)) log_is.header.sides pages.t = pages.reads told in
      let rows = map change_of_row have.rows in
      let tables : pages.t ≡ with_changes (rows ++ []) no_rows = sym have.tables ∙ ap (λ cs. with_changes cs no_rows) (sym (append-nil rows)) in
      record {
        view = view_with rows;
        is = record {
          is = λ applied. stands_with rows applied (subst (λ t. IsRowStore e x.partition.rows (pages_device p) log_is.header.sides t) tables pages.is) (pages_keyed have.rows)
              (λ now. record {
                reads = h.kept.reads told;
                counts = pair_kept d e p keeps ∙ h.counts told;
                pages = have.rows;
                named = ap (λ b. rows_from (has_nulls log_is.header.format) b 0 log_is.header.sides) (same (pages_device p)).bytes ∙ have.read;
                rows = refl;
                apart = have.apart;
                settled = settled_named_kept log_is.header.sides d e (pages_device p) (same (pages_device p)) (subst (λ (k : ℕ). NamedSettled log_is.header.sides d k) (ap pages_device h.part) (settled told));
              });
          units = units;
          sides = pages.sides;
        };
        which = refl;
        log = refl;
      }

  reads_untold : d.told ≡ false → ReadsAs e x p found
  reads_untold untold =
      let still : e.told ≡ false = keeps.shape.told ∙ untold in
      record {
        view = view_with [];
        is = record {
          is = λ applied. stands_with [] applied (store_untold e x.partition.rows (pages_device p) log_is.header.sides pages.t (with_changes [] no_rows) still pages.is) tt (λ now. absurd (true_is_not_false (sym now ∙ still)));
          units = units;
          sides = pages.sides;
        };
        which = refl;
        log = refl;
      }

  pub reads_as : ReadsAs e x p found
  reads_as = by d.told refl
    where
      by : (told : Bool) → d.told ≡ told → ReadsAs e x p found
      by true told = reads_told told
      by false untold = reads_untold untold

-- A PARTITION OPENS

-- where its log may be the partition's and the named sides spell pages
pub sound_with : (boot : ℕ) (decided : List Id) (p : ℕ) (pages : List ℕ) (which : WhichLog) (log : PartitionLog) (rows : List TableRow) → is_known_log boot decided log ≡ true → rows_from (has_nulls log.header.format) pages 0 log.header.sides ≡ Some rows
    → are_distinct (map change_of_row rows) ≡ true → fault_of boot decided p pages (Counts which log) ≡ None
sound_with boot decided p pages which log rows known read apart =
    let has : has_pages log pages ≡ true = ap stand_apart read ∙ apart in
    rw (known, has) refl

-- a log's fault is the partition's
log_then_part : (boot : ℕ) (decided : List Id) (p : ℕ) (pages : List ℕ) (pair : Pair PartitionLog) (dev : ℕ) → log_fault boot decided p pair ≡ Some dev → fault_of boot decided p pages pair ≡ Some dev
log_then_part boot decided p pages BothBlank dev is = is
log_then_part boot decided p pages (Faulty which) dev is = is
log_then_part boot decided p pages (Counts which log) dev is = by (is_known_log boot decided log) is
  where
    by : (known : Bool) → (if known then None else Some (device_of (part_device p) which)) ≡ Some dev
        → (if known then (if has_pages log pages then None else Some (pages_device p)) else Some (device_of (part_device p) which)) ≡ Some dev
    by true e = absurd (cc e)
    by false e = e

pub found_why : (bytes : ℕ → List ℕ) (boot : ℕ) (decided : List Id) (p : ℕ) (e : PairErr) → IsLogWhy bytes boot decided p e → IsWhy bytes boot decided p e
found_why bytes boot decided p (NotSalt dev) is = log_then_part boot decided p (bytes (pages_device p)) (part_pair p (logs_of bytes)) dev is
found_why bytes boot decided p (Disk e) is = tt

pub read_why : (d e : View) (boot : ℕ) (decided : List Id) (p : ℕ) (x : FoundLog) (error : PairErr) → KeepsAll d e None → IsFound e x p → is_known_log boot decided (found_log x) ≡ true → IsTrue d.told → IsPagesWhy (λ (r : TableRow). true) e.bytes x error → IsWhy d.bytes boot decided p error
read_why d e boot decided p x (NotSalt dev) keeps h known told why =
    let at : dev ≡ pages_device p = why.0 ∙ ap pages_device h.part in
    let has : has_pages (found_log x) (d.bytes (pages_device p)) ≡ false = ap (has_pages (found_log x)) (sym (unchanged d e keeps (pages_device p)).bytes) ∙ subst (λ (k : ℕ). has_pages (found_log x) (e.bytes (pages_device k)) ≡ false) h.part (sym (any_row (rows_from (has_nulls (found_log x).header.format) (e.bytes (found_pages x)) 0 (found_log x).header.sides)) ∙ why.1) in
    let counts : part_pair p (logs_of d.bytes) ≡ Counts (found_which x) (found_log x) = sym (pair_kept d e p keeps) ∙ h.counts (keeps.shape.told ∙ told) in
    ap (fault_of boot decided p (d.bytes (pages_device p))) counts ∙ rw (known, has) (ap Some (sym at))
read_why d e boot decided p x (Disk error) keeps h known told why = tt

-- nothing is pending on the sides that a log names that was found
pub named_settled : (d e : View) (x : FoundLog) (p : ℕ) → KeepsAll d e None → IsFound e x p → (IsTrue d.told → SettlesNamed d p) → IsTrue e.told → NamedSettled (found_log x).header.sides e (found_pages x)
named_settled d e x p keeps h named now =
    let sides = (found_log x).header.sides in
    let told : IsTrue d.told = sym keeps.shape.told ∙ now in
    settled_named_kept sides d e (found_pages x) (unchanged d e keeps (found_pages x))
    (subst (λ (k : ℕ). NamedSettled sides d (pages_device k)) (sym h.part) (named told (found_log x) (found_which x, sym (pair_kept d e p keeps) ∙ h.counts now)))

-- WHAT AN OPENING WRITES

-- a call that writes nothing keeps the sides of any log
pub named_all : (sides : List ℕ) (d e : View) (dev : ℕ) (answer : Option DiskErr) → KeepsAll d e answer → KeepsNamed sides d e dev
named_all sides d e dev answer keeps image left = (image, keeps.images dev (λ none. none) image left, named_refl sides image)

pub others_all : (d e : View) (dev : ℕ) (answer : Option DiskErr) → KeepsAll d e answer → KeepsOthers dev d e answer
others_all d e dev answer keeps = keeps_wider (λ _. ⊥) (λ other. other ≡ dev) d e answer (λ other none. absurd none) keeps

module _ (d0 d1 d2 : View) (found : FoundLog) (read : ReadPartition) (boot : ℕ) (decided : List Id) (p : ℕ) (first : KeepsAll d0 d1 None) (second : KeepsAll d1 d2 None) (h : IsFound d1 found p)
    (known : is_known_log boot decided (found_log found) ≡ true) (named : IsTrue d0.told → SettlesNamed d0 p) (r : ReadsAs d2 read p found) where
  both : KeepsAll d0 d2 None
  both = keeps_then d0 d1 d2 None first second

  abbrev view : PartView
  view = r.view

  abbrev entries : List (List ℕ)
  entries = (r.is.is decided).entries

  -- its view is what stood there before it was read
  stood : IsTrue d0.told → IsTold d0 p view entries
  stood told =
      let t = (r.is.is decided).told (both.shape.told ∙ told) in
      let counts : part_pair p (logs_of d0.bytes) ≡ Counts view.which view.log = sym (pair_kept d0 d2 p both) ∙ t.counts in
      record {
        reads = t.reads;
        counts = counts;
        pages = t.pages;
        named = ap (λ b. rows_from (has_nulls view.log.header.format) b 0 view.log.header.sides) (sym (unchanged d0 d2 both (pages_device p)).bytes) ∙ t.named;
        rows = t.rows;
        apart = t.apart;
        settled = named told view.log (view.which, counts);
      }

  -- the log that counts is the one of the view
  is_view_log : IsTrue d0.told → (log : PartitionLog) → CountsWith d0 p log → view.log ≡ log
  is_view_log told log counts = one_log view.which counts.0 view.log log (sym (stood told).counts ∙ counts.1)

  module _ (e : View) where
    pub opens_as : (x : Partition) → IsPartition e x p view decided → OpensAs d0 e x boot decided p
    opens_as x is = record {
      view = view;
      is = is;
      sound = λ told.
          let t = stood told in
          let fits : is_known_log boot decided view.log ≡ true = ap (is_known_log boot decided) r.log ∙ known in
          ap (fault_of boot decided p (d0.bytes (pages_device p))) t.counts ∙ sound_with boot decided p (d0.bytes (pages_device p)) view.which view.log t.pages fits t.named (ap are_distinct (sym t.rows) ∙ t.apart);
      stood = λ told. (entries, stood told);
    }

    -- pages that are written on sides that the view does not name
    pub opened_images : KeepsNamed view.log.header.sides d2 e (pages_of read.partition) → IsTrue d0.told → (log : PartitionLog) → CountsWith d0 p log → KeepsNamed log.header.sides d0 e (pages_device p)
    opened_images keeps told log counts =
        subst (λ (l : PartitionLog). KeepsNamed l.header.sides d0 e (pages_device p)) (is_view_log told log counts)
        (keeps_more view.log.header.sides d0 d2 e (pages_device p) (named_all view.log.header.sides d0 d2 (pages_device p) None both)
        (subst (λ (n : ℕ). KeepsNamed view.log.header.sides d2 e (pages_device n)) (r.is.is decided).part keeps))

    pub opened_others : (answer : Option DiskErr) → KeepsOthers (pages_of read.partition) d2 e answer → KeepsOthers (pages_device p) d0 e answer
    opened_others answer others =
        keeps_on (λ dev. dev ≡ pages_device p) d0 d2 e answer (others_all d0 d2 (pages_device p) None both) (subst (λ (n : ℕ). KeepsOthers (pages_device n) d2 e answer) (r.is.is decided).part others)

-- NO SIDE IS NAMED

no_tables : (nulls : Bool) (bytes : List ℕ) (t : Tables) → HaveRows nulls bytes [] t → t ≡ no_rows
unfolding with_changes
no_tables nulls bytes t have = sym have.tables ∙ ap (λ (rows : List TableRow). with_changes (map change_of_row rows) no_rows) (one_list have.rows [] (sym have.read))

-- a store that is opened then has no rows
pub empty_opened : (d e : View) (rows : RowStore) (p dev : ℕ) (sides : List ℕ) → SameShape d e → dev ≡ pages_device p → sides ≡ []
    → (t : Tables) × IsRowStore e rows dev sides t × (IsTrue d.told → HaveRows true (d.bytes dev) sides t) → IsRowStore e rows (pages_device p) [] no_rows
empty_opened d e rows p dev sides shape at none opened =
    let t = opened.0 in
    store_as e rows (pages_device p) [] t no_rows
    (λ told. no_tables true (d.bytes dev) t (subst (λ (s : List ℕ). HaveRows true (d.bytes dev) s t) none (opened.2 (sym shape.told ∙ told))))
    (subst (λ (k : ℕ). IsRowStore e rows k [] t) at (subst (λ (s : List ℕ). IsRowStore e rows dev s t) none opened.1))

-- and neither its pages nor its rows can be at fault
pub no_fault_there : (nulls : Bool) (bytes sides : List ℕ) → sides ≡ [] → AreNoPages nulls bytes sides → ⊥
no_fault_there nulls bytes sides none at = by (subst (AreNoPages nulls bytes) none at)
  where
    by : AreNoPages nulls bytes [] → ⊥
    by (inl e) = cc
    by (inr twins) = true_is_not_false (subst (λ (rows : List TableRow). true ≡ are_distinct (map change_of_row rows)) (one_list [] twins.0 twins.1) refl ∙ twins.2)

pub no_row_there : (sound : TableRow → Bool) (nulls : Bool) (bytes sides : List ℕ) → sides ≡ [] → AreUnsound sound nulls bytes sides → ⊥
no_row_there sound nulls bytes sides none at = by (subst (AreUnsound sound nulls bytes) none at)
  where
    by : AreUnsound sound nulls bytes [] → ⊥
    by (inl e) = cc
    by (inr one) = true_is_not_false (subst (λ (rows : List TableRow). true ≡ list_all sound rows) (one_list [] one.0 one.1) refl ∙ one.2)
